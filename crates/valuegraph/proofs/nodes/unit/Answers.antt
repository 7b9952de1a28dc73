use Rattle.valuegraph.specs.Nodes.{unit_print, of_kind}
use Rattle.valuegraph.proofs.Making.{unit-fits}
use Rattle.valuegraph.proofs.Making.{unit-ready}
use Rattle.valuegraph.proofs.nodes.unit.Goals as goal

pub append-requires-clause-node_ready : goal.append-requires-clause-node_ready
unfolding unit_print
append-requires-clause-node_ready c =
    unit-ready _ _ c.requires.heap c.requires.room 0 0

pub append-requires-clause-right_value : goal.append-requires-clause-right_value
unfolding unit_print
append-requires-clause-right_value c =
    unit-fits _ _ c.requires.heap c.requires.room 0 0

pub returns : goal.returns
unfolding of_kind
returns c =
    c.append.ensures
