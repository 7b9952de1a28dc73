use native.Mathlib.Omega.{arith}
use mathlib.Core.Path.{sym, ◌∙◌}
use Rattle.rules.specs.Limits.{max_conversions}
use Rattle.journal.proofs.Ends.{are_bytes}
use Rattle.journal.proofs.Walks.{walk_none, turn_starts, turn_closes, turn_breaks, turn_more}
use Rattle.journal.proofs.form.survey.Goals as goal

pub returns-in_err-held : goal.returns-in_err-held
returns-in_err-held c =
    rw c.from_residual.ensures (walk_none _ (are_bytes c.args.journal.now c.shared_slice_known-1.given) (sym c.in_err-held.was ∙ c.held_end.ensures))

pub loop-count-init : goal.loop-count-init
loop-count-init c =
    turn_starts _ _ (are_bytes c.args.journal.now c.shared_slice_known-1.given) (sym c.in_ok-held.was ∙ c.held_end.ensures)

pub returns-then-zero_from : goal.returns-then-zero_from
unfolding max_conversions
returns-then-zero_from c =
    turn_closes (are_bytes c.args.journal.now c.shared_slice_known-1.given) (omega arith) c.loop-count.invariant _ c.zero_from.ensures c.if-zero_from.true

pub returns-in_err-end : goal.returns-in_err-end
unfolding max_conversions
returns-in_err-end c =
    rw c.from_residual-in_err-end.ensures
    (turn_breaks (are_bytes c.args.journal.now c.shared_slice_known-1.given) (omega arith) c.loop-count.invariant _ c.zero_from.ensures c.if-zero_from.false
    (sym c.in_err-end.was ∙ c.entry_end.ensures))

pub loop-count-preserved : goal.loop-count-preserved
unfolding max_conversions
loop-count-preserved c =
    turn_more (are_bytes c.args.journal.now c.shared_slice_known-1.given) (omega arith) c.loop-count.invariant _ c.zero_from.ensures c.if-zero_from.false _
    (sym c.in_ok-end.was ∙ c.entry_end.ensures)

pub returns : goal.returns
unfolding max_conversions
returns c =
    c.loop-count.invariant.over (omega arith)
