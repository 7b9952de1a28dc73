use Rattle.forward.proofs.Making.{makes_as}
use Rattle.forward.proofs.outcomes.make_pair.Goals as goal

pub pair-made-requires-clause-heap : goal.pair-made-requires-clause-heap
pair-made-requires-clause-heap c =
    rw c.top.ensures c.requires.make_ready.graph.right

pub pair-made-requires-clause-room : goal.pair-made-requires-clause-room
pair-made-requires-clause-room c =
    rw c.top.ensures c.requires.make_ready.room

pub pair-made-requires-clause-left_lt_top : goal.pair-made-requires-clause-left_lt_top
pair-made-requires-clause-left_lt_top c =
    rw c.top.ensures c.requires.left_bound

pub finish-requires : goal.finish-requires
finish-requires c =
    (c.requires.make_ready.full, c.requires.make_ready.small)

pub returns : goal.returns
returns c =
    record {
      lengths = c.finish.ensures.lengths;
      slots = c.finish.ensures.slots;
      makes = makes_as c.finish.ensures.out
          c.requires.make_ready.graph (rw c.top.ensures at c.pair-made.ensures);
    }
