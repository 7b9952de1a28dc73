use native.Mathlib.Omega.{arith}
use mathlib.Core.Path.{sym, ap, ◌∙◌}
use lib.ListN.{length, take}
use lib.Seq.{length-take-le}
use Rattle.calls.specs.Answer.{cleared}
use Rattle.calls.specs.Book.{after_open}
use Rattle.calltext.proofs.Writing.{wrote_as}
use Rattle.batch.specs.Capped.{most_workspace}
use Rattle.batch.specs.Answering.{open_text}
use Rattle.batch.proofs.Capping.{is_capped, lent-within, open_lent}
use Rattle.batch.proofs.Lending.{on-front}
use Rattle.batch.proofs.keeping.open.Goals as goal

pub slice_bounds-open_lent-end : goal.slice_bounds-open_lent-end
slice_bounds-open_lent-end c =
    sym (length-take-le c.args.call.program c.args.program.now c.requires.program_in_bounds.0)

pub slice_bounds-open_lent-end-2 : goal.slice_bounds-open_lent-end-2
slice_bounds-open_lent-end-2 c =
    sym (length-take-le c.args.call.held c.args.held.now c.requires.program_in_bounds.1)

pub slice_bounds-open_lent-end-3 : goal.slice_bounds-open_lent-end-3
unfolding most_workspace
slice_bounds-open_lent-end-3 c =
    lent-within most_workspace c.args.call.workspace (is_capped _ _ c.min-ws.ensures) c.args.workspace.now c.requires.most_workspace_in_bounds

pub slice_bounds-open_lent-end-4 : goal.slice_bounds-open_lent-end-4
unfolding most_workspace
slice_bounds-open_lent-end-4 c =
    sym (length-take-le c.min-ws.result c.args.workspace.now
    (lent-within most_workspace c.args.call.workspace (is_capped _ _ c.min-ws.ensures) c.args.workspace.now c.requires.most_workspace_in_bounds))

pub slice_bounds-open_lent-end-5 : goal.slice_bounds-open_lent-end-5
slice_bounds-open_lent-end-5 c =
    c.requires.program_in_bounds.2

pub slice_bounds-open_lent-end-6 : goal.slice_bounds-open_lent-end-6
slice_bounds-open_lent-end-6 c =
    sym (length-take-le c.args.call.journal c.args.journal.now c.requires.program_in_bounds.2)

pub open_lent-requires : goal.open_lent-requires
open_lent-requires c =
    omega (arith, length-take-le c.args.call.journal c.args.journal.now c.requires.program_in_bounds.2, c.requires.program_in_bounds.2, c.requires.journal_in_bounds)

pub returns-clause-answer : goal.returns-clause-answer
unfolding most_workspace
returns-clause-answer c =
    let same = open_lent c.args.call.workspace (is_capped _ _ c.min-ws.ensures) c.args.workspace.now c.requires.most_workspace_in_bounds (take c.args.call.program c.args.program.now)
    (take c.args.call.held c.args.held.now) (length (take c.args.call.journal c.args.journal.now)) in
    wrote_as c.open_lent.ensures.answer (ap open_text same)

pub returns-clause-keeps : goal.returns-clause-keeps
unfolding most_workspace
returns-clause-keeps c =
    let same = open_lent c.args.call.workspace (is_capped _ _ c.min-ws.ensures) c.args.workspace.now c.requires.most_workspace_in_bounds (take c.args.call.program c.args.program.now)
    (take c.args.call.held c.args.held.now) (length (take c.args.call.journal c.args.journal.now)) in
    on-front (sym (length-take-le c.args.call.journal c.args.journal.now c.requires.program_in_bounds.2))
    c.args.journal.now _ (c.open_lent.ensures.keeps ∙ ap (λ x. (after_open (take c.args.call.journal c.args.journal.now) x).journal) same)

pub returns-clause-clear : goal.returns-clause-clear
unfolding most_workspace
returns-clause-clear c =
    let same = open_lent c.args.call.workspace (is_capped _ _ c.min-ws.ensures) c.args.workspace.now c.requires.most_workspace_in_bounds (take c.args.call.program c.args.program.now)
    (take c.args.call.held c.args.held.now) (length (take c.args.call.journal c.args.journal.now)) in
    on-front (is_capped _ _ c.min-ws.ensures)
    c.args.workspace.now _ (c.open_lent.ensures.clear ∙ ap (λ x. cleared x (take c.min-ws.result c.args.workspace.now)) same)
