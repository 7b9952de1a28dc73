use mathlib.Core.Path.{sym}
use lib.Seq.{length-take-le}
use Rattle.replay.specs.Inner.Steps.{begins, begins_as}
use Rattle.replay.proofs.Beginnings.{front-ahead, opened-begins, begins-other}
use Rattle.replay.proofs.playing.begin.Goals as goal

pub returns-in_default : goal.returns-in_default
returns-in_default c =
    begins-other c.args.program.now c.args.script.now c.args.part c.args.journal.now c.args.answers.now c.args.workspace.now c.in_default.not-Open

pub slice_bounds-open-end-2 : goal.slice_bounds-open-end-2
slice_bounds-open-end-2 c = sym (length-take-le _ _ c.requires.n_in_bounds)

pub opened_on-requires : goal.opened_on-requires
opened_on-requires c =
    let p = front-ahead c.args.script.now c.args.part.n c.open-answer.new.journal c.args.journal.now
    _ _
    c.requires.n_in_bounds
    c.open-answer.auto.journal
    c.requires.ahead in record { n_in_bounds = p.0; ahead = p.1 }

pub returns : goal.returns
unfolding begins begins_as
returns c =
    rw c.in-Open.is
    (opened-begins c.args.program.now c.args.script.now c.args.part c.args.journal.now c.args.answers.now
    c.args.workspace.now _ c.open-answer.result _ c.open-answer.new.journal _ _ _ _ c.requires.n_in_bounds c.open-answer.auto.journal c.open-answer.ensures.answer c.open-answer.ensures.keeps
    c.open-answer.ensures.clear c.opened_on.ensures)
