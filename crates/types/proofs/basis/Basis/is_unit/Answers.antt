use Rattle.types.proofs.Equal.{unit-node, other-node}
use Rattle.types.proofs.basis.Basis.is_unit.Goals as goal

pub returns-in-Unit : goal.returns-in-Unit
returns-in-Unit c =
    unit-node c.in-Unit.ensures

pub returns-in_default : goal.returns-in_default
returns-in_default c =
    other-node c.shape_of.ensures c.in_default.not-Unit
