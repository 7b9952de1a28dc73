use native.Mathlib.Omega.{arith}
use Rattle.typing.proofs.Settling.{read_dead, read_helped, read-waits, read-refused}
use Rattle.typing.proofs.namings.settle_one.Goals as goal

pub returns-then-variable : goal.returns-then-variable
returns-then-variable c =
    read_dead _ _ _ _ _ c.read16-variable.ensures c.cell-at.ensures.0 c.if-variable.true

pub returns-then-helped : goal.returns-then-helped
returns-then-helped c =
    read_helped _ _ _ _ _ c.read16-variable.ensures c.cell-at.ensures.0 c.if-variable.false c.helped.ensures
    (omega (arith, c.cell-at.ensures.1, c.requires.slots)) c.if-helped.true c.write16.ensures

pub returns-then-waits_on : goal.returns-then-waits_on
returns-then-waits_on c =
    read-waits _ _ _ _ _ c.read16-variable.ensures c.cell-at.ensures.0 c.if-variable.false c.helped.ensures
    c.if-helped.false c.waits_on.ensures c.if-waits_on.true

pub returns : goal.returns
returns c =
    read-refused _ _ _ _ _ c.read16-variable.ensures c.cell-at.ensures.0 c.if-variable.false c.helped.ensures
    c.if-helped.false c.waits_on.ensures c.if-waits_on.false c.read16.ensures c.lowest.ensures
