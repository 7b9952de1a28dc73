use mathlib.Core.Path.{refl, ap₂}
use Rattle.types.specs.declared.shapes.Shape.TheVariants as shape
use Rattle.types.specs.Shapes.{plain_shape}
use Rattle.types.proofs.Plain.{plain-entry}
use Rattle.types.proofs.basis.Basis.plain.Goals as goal

pub returns-in-Unit : goal.returns-in-Unit
unfolding plain_shape
returns-in-Unit c =
    rw c.in-Unit.is refl

pub returns-in-Product : goal.returns-in-Product
unfolding plain_shape
returns-in-Product c =
    rw c.in-Product.is (ap₂ shape.Product c.left_of.ensures c.right_of.ensures)

pub returns-in-Entry : goal.returns-in-Entry
returns-in-Entry c =
    plain-entry c.args.self.now.program.now c.args.self.now.types.now c.args.self.now.ws.now c.in-Entry.c-is c.in-Entry.is c.entry_shape.ensures
