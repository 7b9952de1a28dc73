use mathlib.Core.Path.{sym, ◌∙◌}
use borrow.Author.Rules.{rules}
use Rattle.rules.specs.Limits.{max_value_bytes, max_ancilla_bytes}
use Rattle.valuebytes.proofs.Whole.{ended, end-within}
use Rattle.valuebytes.proofs.Many.{count-start, count_long, count-more, count-stops, count_done}
use Rattle.valuebytes.proofs.scan.count_values.Goals as goal

pub returns-then-s-gt-MAX_ANCILLA_BYTES : goal.returns-then-s-gt-MAX_ANCILLA_BYTES
unfolding max_ancilla_bytes
returns-then-s-gt-MAX_ANCILLA_BYTES c =
    count_long _ c.if-s-gt-MAX_ANCILLA_BYTES.true

pub loop-at-init : goal.loop-at-init
unfolding max_ancilla_bytes
loop-at-init c =
    (search rules, search rules, search rules, count-start _ c.if-s-gt-MAX_ANCILLA_BYTES.false)

pub returns-in_err-at : goal.returns-in_err-at
unfolding max_value_bytes max_ancilla_bytes
returns-in_err-at c =
    c.from_residual.ensures
    ∙ count-stops _ _ _ c.loop-at-test.true c.loop-at.invariant.1 c.loop-at.invariant.3 c.loop-at.invariant.2 (sym c.in_err-at.was ∙ c.value_end.ensures)

pub loop-at-smaller : goal.loop-at-smaller
loop-at-smaller c =
    let h = end-within _ _ _ (ended _ _ _ (sym c.in_ok-at.was ∙ c.value_end.ensures)) in
    search rules

pub loop-at-preserved : goal.loop-at-preserved
loop-at-preserved c =
    let p = sym c.in_ok-at.was ∙ c.value_end.ensures in
    let h = end-within _ _ _ (ended _ _ _ p) in
    (search rules, search rules, c.loop-at.invariant.2, count-more _ _ _ c.loop-at-test.true c.loop-at.invariant.1 c.loop-at.invariant.3 _ p)

pub returns : goal.returns
returns c =
    count_done _ _ _ c.loop-at-test.false c.loop-at.invariant.3
