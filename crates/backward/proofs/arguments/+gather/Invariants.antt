use Prim.Native.Nat.{◌-◌}
use Rattle.backward.proofs.arguments.+gather.Given as goal

abbrev pub decreases-gather : goal.decreases-gather
decreases-gather l = l.count - l.k
