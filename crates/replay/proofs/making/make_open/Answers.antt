use mathlib.Core.Path.{sym}
use lib.Seq.{length-take-le}
use Rattle.replay.proofs.Fronts.{open_made}
use Rattle.replay.proofs.making.make_open.Goals as goal

pub slice_bounds-open-end-2 : goal.slice_bounds-open-end-2
slice_bounds-open-end-2 c =
    sym (length-take-le _ _ c.requires)

pub returns : goal.returns
returns c =
    open_made c.args.program.now c.args.journal.now c.args.workspace.now c.open-answer.new.journal _ _ _ c.args.held.now c.args.n
    c.open-answer.result c.requires c.open-answer.auto.journal c.open-answer.ensures.answer c.open-answer.ensures.keeps c.open-answer.ensures.clear c.open_line.ensures
    c.clear_from.ensures
