use Rattle.forward.proofs.Making.{makes_as}
use Rattle.forward.proofs.outcomes.make_single.Goals as goal

pub single-made-requires-clause-heap : goal.single-made-requires-clause-heap
single-made-requires-clause-heap c =
    rw c.top.ensures c.requires.make_ready.graph.right

pub single-made-requires-clause-room : goal.single-made-requires-clause-room
single-made-requires-clause-room c =
    rw c.top.ensures c.requires.make_ready.room

pub single-made-requires-clause-part_lt_top : goal.single-made-requires-clause-part_lt_top
single-made-requires-clause-part_lt_top c =
    rw c.top.ensures c.requires.part_bound

pub finish-requires : goal.finish-requires
finish-requires c =
    (c.requires.make_ready.full, c.requires.make_ready.small)

pub returns : goal.returns
returns c =
    record {
      lengths = c.finish.ensures.lengths;
      slots = c.finish.ensures.slots;
      makes = makes_as c.finish.ensures.out
          c.requires.make_ready.graph (rw c.top.ensures at c.single-made.ensures);
    }
