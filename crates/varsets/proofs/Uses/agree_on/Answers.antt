use native.Mathlib.Omega.{arith}
use Rattle.varsets.proofs.Sets.{agree_decides}
use Rattle.varsets.proofs.Uses.agree_on.Goals as goal

pub returns : goal.returns
returns c =
    agree_decides c.args.self c.args.other c.args.among (omega arith)
