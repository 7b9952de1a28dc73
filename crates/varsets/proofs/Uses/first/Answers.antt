use native.Mathlib.Omega.{arith}
use Rattle.varsets.proofs.Sets.{power_some, holds-first}
use Rattle.varsets.proofs.Uses.first.Goals as goal

pub overflow_sub-result : goal.overflow_sub-result
overflow_sub-result c =
    power_some c.args.n (omega arith)

pub returns : goal.returns
returns c =
    holds-first c.args.n (omega arith)
