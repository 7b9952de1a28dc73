use mathlib.Core.Path.{ap, ◌∙◌}
use lib.ListN.{get_or}
use Rattle.scopes.specs.Slots.{slots_of, node_or}
use Rattle.scopes.specs.Bindings.{seen}
use Rattle.backward.proofs.outcomes.leave.Goals as goal

pub node_of-requires-clause-slot_lt_slot_count : goal.node_of-requires-clause-slot_lt_slot_count
node_of-requires-clause-slot_lt_slot_count c =
    rw c.end_of.ensures c.requires.there

pub node_of-requires-clause-looks : goal.node_of-requires-clause-looks
node_of-requires-clause-looks c =
    rw c.end_of.ensures c.requires.looks

pub returns : goal.returns
returns c =
    c.node_of.ensures ∙ ap (λ i. node_or (seen c.args.ws.now c.args.b (get_or (slots_of c.args.st.now) i 0))) c.end_of.ensures
    ∙ ap node_or c.requires.told
