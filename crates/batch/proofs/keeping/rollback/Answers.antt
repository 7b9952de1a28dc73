use native.Mathlib.Omega.{arith}
use mathlib.Core.Path.{sym, ap, ◌∙◌}
use lib.ListN.{take}
use lib.Seq.{length-take-le}
use Rattle.calls.specs.Answer.{cleared}
use Rattle.calls.specs.Book.{after_turned}
use Rattle.calltext.proofs.Writing.{wrote_as}
use Rattle.batch.specs.Capped.{most_workspace}
use Rattle.batch.specs.Answering.{turn_text}
use Rattle.batch.proofs.Capping.{is_capped, lent-within, rollback_lent}
use Rattle.batch.proofs.Lending.{on-front}
use borrow.Author.Rules.{rules}
use Rattle.batch.proofs.keeping.rollback.Goals as goal

pub slice_bounds-rollback_lent-end : goal.slice_bounds-rollback_lent-end
slice_bounds-rollback_lent-end c =
    sym (length-take-le c.args.call.program c.args.program.now c.requires.program_in_bounds.0)

pub slice_bounds-rollback_lent-end-2 : goal.slice_bounds-rollback_lent-end-2
unfolding most_workspace
slice_bounds-rollback_lent-end-2 c =
    lent-within most_workspace c.args.call.workspace (is_capped _ _ c.min-ws.ensures) c.args.workspace.now c.requires.most_workspace_in_bounds

pub slice_bounds-rollback_lent-end-3 : goal.slice_bounds-rollback_lent-end-3
unfolding most_workspace
slice_bounds-rollback_lent-end-3 c =
    sym (length-take-le c.min-ws.result c.args.workspace.now (lent-within most_workspace c.args.call.workspace (is_capped _ _ c.min-ws.ensures) c.args.workspace.now c.requires.most_workspace_in_bounds))

pub slice_bounds-rollback_lent-end-4 : goal.slice_bounds-rollback_lent-end-4
slice_bounds-rollback_lent-end-4 c =
    c.requires.program_in_bounds.1

pub slice_bounds-rollback_lent-end-5 : goal.slice_bounds-rollback_lent-end-5
slice_bounds-rollback_lent-end-5 c =
    sym (length-take-le c.args.call.journal c.args.journal.now c.requires.program_in_bounds.1)

pub rollback_lent-requires : goal.rollback_lent-requires
rollback_lent-requires c =
    omega (arith, length-take-le c.args.call.journal c.args.journal.now c.requires.program_in_bounds.1, c.requires.program_in_bounds.1, c.requires.journal_in_bounds)

pub returns-clause-answer : goal.returns-clause-answer
unfolding most_workspace
returns-clause-answer c =
    let same = rollback_lent c.args.call.workspace (is_capped _ _ c.min-ws.ensures) c.args.workspace.now c.requires.most_workspace_in_bounds (take c.args.call.program c.args.program.now) c.args.call.fuel (take c.args.call.journal c.args.journal.now) (search rules) in
    wrote_as c.rollback_lent.ensures.answer (ap turn_text same)

pub returns-clause-keeps : goal.returns-clause-keeps
unfolding most_workspace
returns-clause-keeps c =
    let same = rollback_lent c.args.call.workspace (is_capped _ _ c.min-ws.ensures) c.args.workspace.now c.requires.most_workspace_in_bounds (take c.args.call.program c.args.program.now) c.args.call.fuel (take c.args.call.journal c.args.journal.now) (search rules) in
    on-front (sym (length-take-le c.args.call.journal c.args.journal.now c.requires.program_in_bounds.1)) c.args.journal.now _ (c.rollback_lent.ensures.keeps ∙ ap (λ x. (after_turned (take c.args.call.journal c.args.journal.now) x).journal) same)

pub returns-clause-clear : goal.returns-clause-clear
unfolding most_workspace
returns-clause-clear c =
    let same = rollback_lent c.args.call.workspace (is_capped _ _ c.min-ws.ensures) c.args.workspace.now c.requires.most_workspace_in_bounds (take c.args.call.program c.args.program.now) c.args.call.fuel (take c.args.call.journal c.args.journal.now) (search rules) in
    on-front (is_capped _ _ c.min-ws.ensures) c.args.workspace.now _ (c.rollback_lent.ensures.clear ∙ ap (λ x. cleared x (take c.min-ws.result c.args.workspace.now)) same)
