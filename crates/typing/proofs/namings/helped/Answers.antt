use native.Mathlib.Omega.{arith}
use Rattle.typing.proofs.Settling.{out-of-scope}
use Rattle.typing.proofs.namings.helped.Goals as goal

pub returns-then-from-variable : goal.returns-then-from-variable
returns-then-from-variable c =
    out-of-scope c.args.sc c.args.uses c.args.variable (omega (arith, c.if-from-variable.true, c.from.ensures))
