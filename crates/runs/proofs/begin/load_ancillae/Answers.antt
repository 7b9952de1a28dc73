use native.Mathlib.Omega.{arith}
use mathlib.Core.Path.{refl, sym, ◌∙◌}
use Rattle.rules.specs.Limits.{max_ancilla_bytes, max_value_bytes}
use Rattle.valuegraph.proofs.Heaps.{heap_empty}
use Rattle.runs.specs.Begun.{start_nodes}
use Rattle.runs.proofs.Loads.{ancillae-ready, named_start, named_room, named_length, named_less, named_bind, named_small}
use Rattle.runs.proofs.Loads.{named_next, named_done}
use Rattle.runs.proofs.begin.load_ancillae.Goals as goal

pub unit-requires-clause-heap : goal.unit-requires-clause-heap
unfolding start_nodes max_value_bytes max_ancilla_bytes
unit-requires-clause-heap c =
    heap_empty _

pub unit-requires-clause-room : goal.unit-requires-clause-room
unfolding start_nodes max_value_bytes max_ancilla_bytes
unit-requires-clause-room c =
    omega (arith, c.requires.enough.nodes_there)

pub load-top-requires : goal.load-top-requires
load-top-requires c =
    ancillae-ready c.requires.enough c.unit.ensures

pub overflow_sub-node : goal.overflow_sub-node
overflow_sub-node c =
    omega (arith, c.load-top.ensures.nodes)

pub loop-node-init : goal.loop-node-init
loop-node-init c =
    (c.requires.st_len, refl, named_start c.requires.enough c.unit.ensures c.load-top.ensures)

pub bind-requires : goal.bind-requires
bind-requires c =
    (c.loop-node.invariant.0, named_bind c.loop-node.invariant.2 c.loop-node-test.true)

pub length_of-requires : goal.length_of-requires
length_of-requires c =
    named_room c.loop-node.invariant.2 c.loop-node-test.true

pub overflow_sub-node-in-loop-node : goal.overflow_sub-node-in-loop-node
overflow_sub-node-in-loop-node c =
    omega (arith, named_length c.loop-node.invariant.2 c.loop-node-test.true, c.from-node.ensures, c.length_of.ensures)

pub overflow_add-count : goal.overflow_add-count
overflow_add-count c =
    omega (arith, named_small c.loop-node.invariant.2 c.loop-node-test.true)

pub loop-node-smaller : goal.loop-node-smaller
loop-node-smaller c =
    named_less c.loop-node.invariant.2 c.loop-node-test.true _ (c.from-node.ensures ∙ c.length_of.ensures)

pub loop-node-preserved : goal.loop-node-preserved
loop-node-preserved c = (
  c.bind.ensures.lengths ∙ c.loop-node.invariant.0,
  c.bind.ensures.lengths ∙ c.loop-node.invariant.1,
  named_next c.loop-node.invariant.2 c.loop-node-test.true
      c.bind.ensures.slots (c.from-node.ensures ∙ c.length_of.ensures),
)

pub shape_of-ws : goal.shape_of-ws
shape_of-ws c =
    c.load-top.auto.ws ∙ c.unit.auto.ws

pub returns : goal.returns
returns c =
    record {
      lengths = c.loop-node.invariant.1;
      loaded = named_done c.loop-node.invariant.2 c.loop-node-test.false
          (sym (c.load-top.auto.ws ∙ c.unit.auto.ws));
    }
