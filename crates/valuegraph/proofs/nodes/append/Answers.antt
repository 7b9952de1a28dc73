use native.Mathlib.Omega.{arith}
use Rattle.valuegraph.proofs.Heaps.{grown}
use Rattle.valuegraph.proofs.nodes.append.Goals as goal

pub returns : goal.returns
returns c =
    rw c.put_node.ensures (grown _ _ _ _ _ _ _ c.requires.node_ready c.requires.right_value (omega arith) (omega arith) (omega arith))
