use native.Mathlib.Omega.{arith}
use Rattle.valuegraph.specs.Nodes.{unit_print, of_kind}
use Rattle.valuegraph.proofs.Heaps.{grown}
use Rattle.valuegraph.proofs.Making.{unit-fits, unit-ready}
use Rattle.valuegraph.proofs.Places.{left-put, right-put}
use Rattle.valuegraph.proofs.nodes.cell.Goals as goal

pub returns : goal.returns
unfolding unit_print of_kind
returns c =
    rw c.put_node.ensures (record {
      grown = grown _ _ _ _ _ _ _ (unit-ready _ _ c.requires.heap c.requires.room c.args.left c.args.right)
          (unit-fits _ _ c.requires.heap c.requires.room c.args.left c.args.right) (omega arith) (omega arith) (omega arith);
      left_is = left-put _ _ _ _ _ _ _ c.requires.room
          (omega arith);
      right_is = right-put _ _ _ _ _ _ _ c.requires.room (omega arith);
    })
