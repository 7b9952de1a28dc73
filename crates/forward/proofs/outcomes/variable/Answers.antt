use mathlib.Core.Path.{sym, ◌∙◌}
use Rattle.forward.proofs.Leaves.{finds_node, finds_none}
use Rattle.forward.proofs.outcomes.variable.Goals as goal

pub find-requires-clause-n_bound : goal.find-requires-clause-n_bound
find-requires-clause-n_bound c =
    rw (c.base_in.ensures, c.count_in.ensures) c.requires.there

pub find-requires-clause-heap : goal.find-requires-clause-heap
find-requires-clause-heap c =
    c.requires.graph.right

pub find-requires-clause-slots : goal.find-requires-clause-slots
find-requires-clause-slots c =
    rw (c.base_in.ensures, c.count_in.ensures) c.requires.held

pub returns-in-Some : goal.returns-in-Some
returns-in-Some c =
    let found = sym c.find.ensures ∙ c.in-Some.is in
    finds_node _ c.requires (rw (c.base_in.ensures, c.count_in.ensures) at found)

pub returns-in-None : goal.returns-in-None
returns-in-None c =
    let found = sym c.find.ensures ∙ c.in-None.is in
    finds_none (rw (c.base_in.ensures, c.count_in.ensures) at found) c.refuse.ensures.status
