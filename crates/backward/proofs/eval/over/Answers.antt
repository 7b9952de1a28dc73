use native.Mathlib.Omega.{arith}
use Rattle.backward.proofs.Entering.{node-room, next-node}
use Rattle.backward.proofs.LastPart.{enters}
use Rattle.backward.proofs.eval.over.Goals as goal

-- A node is made for a term, which is then to be entered with it.

pub single-made-requires-clause-heap : goal.single-made-requires-clause-heap
single-made-requires-clause-heap c =
    rw c.top.ensures c.requires.prepared_in.prepared.ready.machine.graph.right

pub single-made-requires-clause-room : goal.single-made-requires-clause-room
single-made-requires-clause-room c =
    rw c.top.ensures (node-room c.requires.prepared_in.prepared.ready)

pub single-made-requires-clause-part_lt_top : goal.single-made-requires-clause-part_lt_top
single-made-requires-clause-part_lt_top c =
    rw c.top.ensures c.requires.part_bound

pub entering-requires : goal.entering-requires
entering-requires c =
    (c.requires.prepared_in.full, omega (arith, next-node c.requires.prepared_in.prepared.ready))

pub shape_of-ws : goal.shape_of-ws
shape_of-ws c =
    c.single-made.auto.ws

pub returns : goal.returns
returns c =
    enters c.requires.prepared_in c.top.ensures c.single-made.ensures c.entering.ensures
