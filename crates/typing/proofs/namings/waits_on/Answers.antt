use native.Mathlib.Omega.{arith}
use Rattle.typing.proofs.Settling.{outside-marked}
use Rattle.typing.proofs.namings.waits_on.Goals as goal

pub returns-then-from-variable : goal.returns-then-from-variable
returns-then-from-variable c =
    outside-marked c.args.sc c.args.variable (omega (arith, c.if-from-variable.true, c.from.ensures))
