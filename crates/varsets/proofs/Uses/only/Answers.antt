use native.Mathlib.Omega.{arith}
use Rattle.varsets.proofs.Sets.{holds-only}
use Rattle.varsets.proofs.Uses.only.Goals as goal

pub returns : goal.returns
returns c =
    holds-only c.args.i (omega arith)
