use Rattle.valuegraph.proofs.Storing.{Storing}
use Rattle.valuegraph.proofs.nodes.+store.Given as goal

abbrev pub decreases-store : goal.decreases-store
decreases-store l = l.n

abbrev pub invariant-loop-left : goal.invariant-loop-left
invariant-loop-left l = Storing l.ws l.n l.initial.out l.at l.x l.out l.place

abbrev pub decreases-loop-left : goal.decreases-loop-left
decreases-loop-left l = l.x
