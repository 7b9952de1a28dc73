use Rattle.valuegraph.proofs.Equal.{Comparing}
use Rattle.valuegraph.proofs.nodes.+same.Given as goal

abbrev pub decreases-same : goal.decreases-same
decreases-same l = l.a

abbrev pub invariant-loop-x : goal.invariant-loop-x
invariant-loop-x l = Comparing l.ws l.top l.a l.b l.x l.y

abbrev pub decreases-loop-x : goal.decreases-loop-x
decreases-loop-x l = l.x
