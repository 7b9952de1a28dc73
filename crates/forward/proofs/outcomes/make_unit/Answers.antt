use Rattle.calls.proofs.Runs.Calls.{unit-fits}
use Rattle.forward.proofs.Making.{makes-new_as}
use Rattle.forward.proofs.outcomes.make_unit.Goals as goal

pub unit-requires-clause-heap : goal.unit-requires-clause-heap
unit-requires-clause-heap c =
    rw c.top.ensures c.requires.graph.right

pub unit-requires-clause-room : goal.unit-requires-clause-room
unit-requires-clause-room c =
    rw c.top.ensures c.requires.room

pub finish-requires : goal.finish-requires
finish-requires c =
    (c.requires.full, c.requires.small)

pub returns : goal.returns
returns c =
    record {
      lengths = c.finish.ensures.lengths;
      slots = c.finish.ensures.slots;
      makes = makes-new_as c.finish.ensures.out
          c.requires.graph (rw c.top.ensures at c.unit.ensures) unit-fits;
    }
