use Rattle.typing.proofs.Naming.{opened-unit, opened-used}
use Rattle.typing.proofs.variables.bind.Goals as goal

pub returns-then-is_unit : goal.returns-then-is_unit
returns-then-is_unit c =
    opened-unit c.requires.scoped _ c.requires.known.0 c.requires.known.1 c.slot.ensures.0 c.put_code.ensures.0 c.put_code.ensures.1
    c.is_unit.ensures c.if-is_unit.true

pub returns : goal.returns
returns c =
    opened-used c.requires.scoped _ c.requires.known.0 c.requires.known.1 c.slot.ensures.0 c.put_code.ensures.0 c.put_code.ensures.1
    c.is_unit.ensures c.if-is_unit.false c.only.ensures c.union.ensures
