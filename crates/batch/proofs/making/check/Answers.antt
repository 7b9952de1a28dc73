use mathlib.Core.Path.{sym, ap, ◌∙◌}
use lib.ListN.{take}
use lib.Seq.{length-take-le}
use Rattle.calls.specs.Answer.{cleared}
use Rattle.calltext.proofs.Writing.{wrote_as}
use Rattle.messages.specs.Replies.{check_text}
use Rattle.batch.specs.Capped.{most_workspace}
use Rattle.batch.proofs.Capping.{is_capped, lent-within, check-lent}
use Rattle.batch.proofs.Lending.{on-front}
use Rattle.batch.proofs.making.check.Goals as goal

pub slice_bounds-check-end : goal.slice_bounds-check-end
slice_bounds-check-end c =
    sym (length-take-le c.args.call.program c.args.program.now c.requires.program_in_bounds)

pub slice_bounds-check-end-2 : goal.slice_bounds-check-end-2
unfolding most_workspace
slice_bounds-check-end-2 c =
    lent-within most_workspace c.args.call.workspace (is_capped _ _ c.min-ws.ensures) c.args.workspace.now c.requires.most_workspace_in_bounds

pub slice_bounds-check-end-3 : goal.slice_bounds-check-end-3
unfolding most_workspace
slice_bounds-check-end-3 c =
    sym (length-take-le c.min-ws.result c.args.workspace.now
    (lent-within most_workspace c.args.call.workspace (is_capped _ _ c.min-ws.ensures) c.args.workspace.now c.requires.most_workspace_in_bounds))

pub returns-clause-answer : goal.returns-clause-answer
unfolding most_workspace
returns-clause-answer c =
    let same = check-lent c.args.call.workspace (is_capped _ _ c.min-ws.ensures) c.args.workspace.now c.requires.most_workspace_in_bounds
    (take c.args.call.program c.args.program.now) in
    wrote_as c.check_line.ensures (ap check_text (c.check-answer.ensures.answer ∙ same))

pub returns-clause-clear : goal.returns-clause-clear
unfolding most_workspace
returns-clause-clear c =
    let same = check-lent c.args.call.workspace (is_capped _ _ c.min-ws.ensures) c.args.workspace.now c.requires.most_workspace_in_bounds
    (take c.args.call.program c.args.program.now) in
    on-front (is_capped _ _ c.min-ws.ensures) c.args.workspace.now _
    (c.check-answer.ensures.clear ∙ ap (λ x. cleared x (take c.min-ws.result c.args.workspace.now)) same)
