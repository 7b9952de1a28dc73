use mathlib.Core.Path.{sym}
use lib.Seq.{length-take-le}
use Rattle.replay.proofs.Fronts.{rollback_made}
use Rattle.replay.proofs.making.make_rollback.Goals as goal

pub slice_bounds-rollback-end-2 : goal.slice_bounds-rollback-end-2
slice_bounds-rollback-end-2 c =
    sym (length-take-le _ _ c.requires)

pub returns : goal.returns
returns c =
    rollback_made c.args.program.now c.args.journal.now c.args.workspace.now c.rollback-answer.new.journal _ _ _ c.args.fuel c.args.n
    c.rollback-answer.result c.requires c.rollback-answer.auto.journal c.rollback-answer.ensures.answer c.rollback-answer.ensures.keeps c.rollback-answer.ensures.clear c.turn_line.ensures
    c.clear_from.ensures
