use native.Mathlib.Omega.{arith}
use mathlib.Core.Path.{sym, ◌∙◌}
use Rattle.program.proofs.Rooms.{mu-room}
use Rattle.entries.proofs.Figures.{pair-number, pair-room, variable-room, pair-below, one_below, one_fewer, free-unit, free-pair, free_one, free-variable}
use Rattle.entries.proofs.measures.free_of.Goals as goal

pub first-requires : goal.first-requires
first-requires c =
    let pair = pair-number c.type_kind.ensures c.in-Product.is in
    omega (arith, pair-room _ _ c.requires.type_field pair.0 pair.1)

pub second-requires : goal.second-requires
second-requires c =
    let pair = pair-number c.type_kind.ensures c.in-Product.is in
    pair-room _ _ c.requires.type_field pair.0 pair.1

pub bounds-free-a : goal.bounds-free-a
bounds-free-a c =
    let pair = pair-number c.type_kind.ensures c.in-Product.is in
    omega (arith, (pair-below _ _ _ pair.0 pair.1 c.requires.at_value).0, c.from-a.ensures ∙ c.first.ensures)

pub bounds-free-b : goal.bounds-free-b
bounds-free-b c =
    let pair = pair-number c.type_kind.ensures c.in-Product.is in
    omega (arith, (pair-below _ _ _ pair.0 pair.1 c.requires.at_value).1, c.from-b.ensures ∙ c.second.ensures)

pub first-requires-in-Recursive : goal.first-requires-in-Recursive
first-requires-in-Recursive c =
    mu-room c.requires.type_field (sym (rw c.in-Recursive.is at c.type_kind.ensures))

pub bounds-free-a-in-Recursive : goal.bounds-free-a-in-Recursive
bounds-free-a-in-Recursive c =
    let below = one_below _ _ _ (sym (rw c.in-Recursive.is at c.type_kind.ensures)) c.requires.at_value in
    omega (arith, below, c.from-a-in-Recursive.ensures ∙ c.first-in-Recursive.ensures)

pub variable-requires : goal.variable-requires
variable-requires c =
    variable-room _ _ c.requires.type_field (omega (arith, rw c.in-Variable.is at c.type_kind.ensures))

pub returns-in-Unit : goal.returns-in-Unit
returns-in-Unit c =
    free-unit _ _ _ (sym (rw c.in-Unit.is at c.type_kind.ensures))

pub returns-in-Product : goal.returns-in-Product
returns-in-Product c =
    let pair = pair-number c.type_kind.ensures c.in-Product.is in
    c.max.ensures ∙ free-pair _ _ _ _ _ (c.from-a.ensures ∙ c.first.ensures) (c.from-b.ensures ∙ c.second.ensures) pair.0 pair.1

pub returns-in-Recursive : goal.returns-in-Recursive
returns-in-Recursive c =
    c.saturating_sub.ensures ∙ one_fewer _ ∙ free_one _ _ _ _ (c.from-a-in-Recursive.ensures ∙ c.first-in-Recursive.ensures)
    (sym (rw c.in-Recursive.is at c.type_kind.ensures))

pub returns-in-Variable : goal.returns-in-Variable
returns-in-Variable c =
    free-variable _ _ _ _ (c.from.ensures ∙ c.variable.ensures) (omega (arith, rw c.in-Variable.is at c.type_kind.ensures))
