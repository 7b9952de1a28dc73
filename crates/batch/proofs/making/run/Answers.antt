use native.Mathlib.Omega.{arith}
use mathlib.Core.Path.{sym, ap, ◌∙◌}
use lib.ListN.{take}
use lib.Seq.{length-take-le}
use Rattle.calls.specs.Answer.{cleared}
use Rattle.calls.specs.Runs.{written}
use Rattle.calltext.proofs.Writing.{wrote_as}
use Rattle.batch.specs.Capped.{most_workspace, most_output}
use Rattle.batch.specs.Answering.{ran_text}
use Rattle.batch.proofs.Capping.{is_capped, capped-most, lent-within, lent_length, run_lent}
use Rattle.batch.proofs.Lending.{on-front}
use borrow.Author.Rules.{rules}
use Rattle.batch.proofs.making.run.Goals as goal

pub slice_bounds-run_lent-end : goal.slice_bounds-run_lent-end
slice_bounds-run_lent-end c =
    sym (length-take-le c.args.call.program c.args.program.now c.requires.program_in_bounds.0)

pub slice_bounds-run_lent-end-2 : goal.slice_bounds-run_lent-end-2
slice_bounds-run_lent-end-2 c =
    sym (length-take-le c.args.call.ancillae c.args.ancillae.now c.requires.program_in_bounds.1)

pub slice_bounds-run_lent-end-3 : goal.slice_bounds-run_lent-end-3
slice_bounds-run_lent-end-3 c =
    sym (length-take-le c.args.call.value c.args.value.now c.requires.program_in_bounds.2)

pub slice_bounds-run_lent-end-4 : goal.slice_bounds-run_lent-end-4
unfolding most_workspace
slice_bounds-run_lent-end-4 c =
    lent-within most_workspace c.args.call.workspace (is_capped _ _ c.min-ws.ensures) c.args.workspace.now c.requires.most_workspace_in_bounds.0

pub slice_bounds-run_lent-end-5 : goal.slice_bounds-run_lent-end-5
unfolding most_workspace
slice_bounds-run_lent-end-5 c =
    sym (length-take-le c.min-ws.result c.args.workspace.now (lent-within most_workspace c.args.call.workspace (is_capped _ _ c.min-ws.ensures) c.args.workspace.now c.requires.most_workspace_in_bounds.0))

pub slice_bounds-run_lent-end-6 : goal.slice_bounds-run_lent-end-6
unfolding most_output
slice_bounds-run_lent-end-6 c =
    lent-within most_output c.args.call.output (is_capped _ _ c.min-len.ensures) c.args.output.now c.requires.most_workspace_in_bounds.1

pub slice_bounds-run_lent-end-7 : goal.slice_bounds-run_lent-end-7
unfolding most_output
slice_bounds-run_lent-end-7 c =
    sym (length-take-le c.min-len.result c.args.output.now (lent-within most_output c.args.call.output (is_capped _ _ c.min-len.ensures) c.args.output.now c.requires.most_workspace_in_bounds.1))

pub run_lent-requires : goal.run_lent-requires
unfolding most_output
run_lent-requires c =
    omega (arith, lent_length most_output c.args.call.output (is_capped _ _ c.min-len.ensures) c.args.output.now c.requires.most_workspace_in_bounds.1, capped-most most_output c.args.call.output, c.requires.answer_room_in_bounds)

pub returns-clause-answer : goal.returns-clause-answer
unfolding most_workspace most_output
returns-clause-answer c =
    let same = run_lent c.args.call.backward c.args.call.workspace c.args.call.output (is_capped _ _ c.min-ws.ensures) (is_capped _ _ c.min-len.ensures) c.args.workspace.now c.args.output.now c.requires.most_workspace_in_bounds.0 c.requires.most_workspace_in_bounds.1 c.args.call.fuel c.args.call.function
    (take c.args.call.program c.args.program.now) (take c.args.call.ancillae c.args.ancillae.now) (take c.args.call.value c.args.value.now) (search rules) in
    wrote_as c.run_lent.ensures.answer (ap ran_text same)

pub returns-clause-fills : goal.returns-clause-fills
unfolding most_workspace most_output
returns-clause-fills c =
    let same = run_lent c.args.call.backward c.args.call.workspace c.args.call.output (is_capped _ _ c.min-ws.ensures) (is_capped _ _ c.min-len.ensures) c.args.workspace.now c.args.output.now c.requires.most_workspace_in_bounds.0 c.requires.most_workspace_in_bounds.1 c.args.call.fuel c.args.call.function
    (take c.args.call.program c.args.program.now) (take c.args.call.ancillae c.args.ancillae.now) (take c.args.call.value c.args.value.now) (search rules) in
    on-front (is_capped _ _ c.min-len.ensures) c.args.output.now _ (c.run_lent.ensures.fills ∙ ap (λ x. written x (take c.min-len.result c.args.output.now)) same)

pub returns-clause-clear : goal.returns-clause-clear
unfolding most_workspace most_output
returns-clause-clear c =
    let same = run_lent c.args.call.backward c.args.call.workspace c.args.call.output (is_capped _ _ c.min-ws.ensures) (is_capped _ _ c.min-len.ensures) c.args.workspace.now c.args.output.now c.requires.most_workspace_in_bounds.0 c.requires.most_workspace_in_bounds.1 c.args.call.fuel c.args.call.function
    (take c.args.call.program c.args.program.now) (take c.args.call.ancillae c.args.ancillae.now) (take c.args.call.value c.args.value.now) (search rules) in
    on-front (is_capped _ _ c.min-ws.ensures) c.args.workspace.now _ (c.run_lent.ensures.clear ∙ ap (λ x. cleared x (take c.min-ws.result c.args.workspace.now)) same)
