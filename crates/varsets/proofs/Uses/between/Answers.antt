use native.Mathlib.Omega.{arith}
use Rattle.varsets.proofs.Sets.{holds-between}
use Rattle.varsets.proofs.Uses.between.Goals as goal

pub returns : goal.returns
returns c =
    holds-between c.args.low c.args.n (omega arith) c.first.ensures c.first-2.ensures
