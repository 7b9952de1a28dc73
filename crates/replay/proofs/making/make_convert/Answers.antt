use mathlib.Core.Path.{sym}
use lib.Seq.{length-take-le}
use Rattle.replay.proofs.Fronts.{convert_made}
use Rattle.replay.proofs.making.make_convert.Goals as goal

pub slice_bounds-convert-end-2 : goal.slice_bounds-convert-end-2
slice_bounds-convert-end-2 c =
    sym (length-take-le _ _ c.requires)

pub returns : goal.returns
returns c =
    convert_made c.args.program.now c.args.journal.now c.args.workspace.now c.convert-answer.new.journal _ _ _ c.args.fuel
    c.args.function c.args.ancillae.now c.args.n c.convert-answer.result c.requires c.convert-answer.auto.journal c.convert-answer.ensures.answer c.convert-answer.ensures.keeps
    c.convert-answer.ensures.clear c.turn_line.ensures c.clear_from.ensures
