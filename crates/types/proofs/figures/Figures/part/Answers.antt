use mathlib.Core.Path.{◌∙◌}
use Rattle.types.proofs.Outer.{part_open, part-closed, part-plain}
use Rattle.types.proofs.figures.Figures.part.Goals as goal

pub returns-then-mine-outer : goal.returns-then-mine-outer
returns-then-mine-outer c =
    rw c.in-Under.is (part_open c.args.self.now.ws.now c.in-Under.whole c.in-Under.stands c.args.i c.args.up
    (c.from-mine.ensures ∙ c.free_of.ensures) (c.from-outer.ensures ∙ c.free_of-in-Under.ensures) c.if-mine-outer.true)

pub returns-else-mine-outer : goal.returns-else-mine-outer
returns-else-mine-outer c =
    rw c.in-Under.is (part-closed c.args.self.now.ws.now c.in-Under.whole c.in-Under.stands c.args.i c.args.up
    (c.from-mine.ensures ∙ c.free_of.ensures) (c.from-outer.ensures ∙ c.free_of-in-Under.ensures) c.if-mine-outer.false)

pub returns-in_default : goal.returns-in_default
returns-in_default c =
    part-plain c.args.self.now.ws.now c.args.c c.args.i c.args.up c.in_default.not-Under
