use native.Mathlib.Omega.{arith}
use mathlib.Core.Path.{sym, ◌∙◌}
use Rattle.program.proofs.Rooms.{mu-room}
use Rattle.entries.proofs.Figures.{pair-number, pair-room, pair-below, one_below, nodes-pair, nodes-one, nodes-unit, nodes-variable}
use Rattle.entries.proofs.measures.nodes_of.Goals as goal

pub first-requires : goal.first-requires
first-requires c =
    let pair = pair-number c.type_kind.ensures c.in-Product.is in
    omega (arith, pair-room _ _ c.requires.type_field pair.0 pair.1)

pub second-requires : goal.second-requires
second-requires c =
    let pair = pair-number c.type_kind.ensures c.in-Product.is in
    pair-room _ _ c.requires.type_field pair.0 pair.1

pub bounds-nodes-a : goal.bounds-nodes-a
bounds-nodes-a c =
    let pair = pair-number c.type_kind.ensures c.in-Product.is in
    omega (arith, (pair-below _ _ _ pair.0 pair.1 c.requires.at_value).0, c.from-a.ensures ∙ c.first.ensures)

pub bounds-nodes-b : goal.bounds-nodes-b
bounds-nodes-b c =
    let pair = pair-number c.type_kind.ensures c.in-Product.is in
    omega (arith, (pair-below _ _ _ pair.0 pair.1 c.requires.at_value).1, c.from-b.ensures ∙ c.second.ensures)

pub first-requires-in-Recursive : goal.first-requires-in-Recursive
first-requires-in-Recursive c =
    mu-room c.requires.type_field (sym (rw c.in-Recursive.is at c.type_kind.ensures))

pub bounds-nodes-a-in-Recursive : goal.bounds-nodes-a-in-Recursive
bounds-nodes-a-in-Recursive c =
    let below = one_below _ _ _ (sym (rw c.in-Recursive.is at c.type_kind.ensures)) c.requires.at_value in
    omega (arith, below, c.from-a-in-Recursive.ensures ∙ c.first-in-Recursive.ensures)

pub returns-in-Unit : goal.returns-in-Unit
returns-in-Unit c =
    nodes-unit _ _ _ (omega (arith, rw c.in-Unit.is at c.type_kind.ensures))

pub returns-in-Product : goal.returns-in-Product
returns-in-Product c =
    let pair = pair-number c.type_kind.ensures c.in-Product.is in
    c.joined.ensures ∙ nodes-pair _ _ _ _ _ (c.from-a.ensures ∙ c.first.ensures) (c.from-b.ensures ∙ c.second.ensures) pair.0 pair.1

pub returns-in-Recursive : goal.returns-in-Recursive
returns-in-Recursive c =
    c.joined-in-Recursive.ensures ∙ nodes-one _ _ _ _ (c.from-a-in-Recursive.ensures ∙ c.first-in-Recursive.ensures)
    (sym (rw c.in-Recursive.is at c.type_kind.ensures))

pub returns-in-Variable : goal.returns-in-Variable
returns-in-Variable c =
    nodes-variable _ _ _ (omega (arith, rw c.in-Variable.is at c.type_kind.ensures))
