use native.Mathlib.Omega.{arith}
use mathlib.Core.Path.{sym, ◌∙◌}
use Rattle.program.proofs.Rooms.{prod-room, sum_room, mu-room}
use Rattle.valuebytes.proofs.ByteKinds.{kind-found, kind-none}
use Rattle.valuebytes.proofs.Promised.{of_unit, no-unit, of_pair, no-pair, of_left, of_right, no-sum, of_roll, no-roll, no-variable, no-value, at_place}
use Rattle.valuebytes.proofs.table.TypeTable.parts.Goals as goal

pub returns-in_err-kind : goal.returns-in_err-kind
returns-in_err-kind c =
    c.from_residual.ensures ∙ no-value _ _ _ (kind-none _ _ c.try_from.ensures (sym c.ok.ensures.value ∙ c.in_err-kind.was))

pub first-requires : goal.first-requires
first-requires c =
    let h = prod-room c.field-at.ensures.field (sym (rw c.in-Product-Pair.is-0 at c.type_kind.ensures)) in omega arith

pub second-requires : goal.second-requires
second-requires c =
    prod-room c.field-at.ensures.field (sym (rw c.in-Product-Pair.is-0 at c.type_kind.ensures))

pub first-requires-in-Sum-Inl : goal.first-requires-in-Sum-Inl
first-requires-in-Sum-Inl c =
    let h = sum_room c.field-at.ensures.field (sym (rw c.in-Sum-Inl.is-0 at c.type_kind.ensures)) in omega arith

pub second-requires-in-Sum-Inr : goal.second-requires-in-Sum-Inr
second-requires-in-Sum-Inr c =
    sum_room c.field-at.ensures.field (sym (rw c.in-Sum-Inr.is-0 at c.type_kind.ensures))

pub first-requires-in-Recursive-Roll : goal.first-requires-in-Recursive-Roll
first-requires-in-Recursive-Roll c =
    mu-room c.field-at.ensures.field (sym (rw c.in-Recursive-Roll.is-0 at c.type_kind.ensures))

pub returns-in-Unit-Unit : goal.returns-in-Unit-Unit
returns-in-Unit-Unit c =
    let begins = kind-found _ _ _ c.try_from.ensures (sym c.ok.ensures.value ∙ c.in_ok-kind.was) in
    at_place _ _ c.field-at.ensures.offset (of_unit _ _ _ _ _ c.type_kind.ensures begins c.in-Unit-Unit.is-0 c.in-Unit-Unit.is-1)

pub returns-in-Product-Pair : goal.returns-in-Product-Pair
returns-in-Product-Pair c =
    let begins = kind-found _ _ _ c.try_from.ensures (sym c.ok.ensures.value ∙ c.in_ok-kind.was) in
    at_place _ _ c.field-at.ensures.offset (of_pair _ _ _ _ _ c.type_kind.ensures begins c.in-Product-Pair.is-0 c.in-Product-Pair.is-1 c.first.ensures c.second.ensures)

pub returns-in-Sum-Inl : goal.returns-in-Sum-Inl
returns-in-Sum-Inl c =
    let begins = kind-found _ _ _ c.try_from.ensures (sym c.ok.ensures.value ∙ c.in_ok-kind.was) in
    at_place _ _ c.field-at.ensures.offset (of_left _ _ _ _ _ c.type_kind.ensures begins c.in-Sum-Inl.is-0 c.in-Sum-Inl.is-1 c.first-in-Sum-Inl.ensures)

pub returns-in-Sum-Inr : goal.returns-in-Sum-Inr
returns-in-Sum-Inr c =
    let begins = kind-found _ _ _ c.try_from.ensures (sym c.ok.ensures.value ∙ c.in_ok-kind.was) in
    at_place _ _ c.field-at.ensures.offset (of_right _ _ _ _ _ c.type_kind.ensures begins c.in-Sum-Inr.is-0 c.in-Sum-Inr.is-1 c.second-in-Sum-Inr.ensures)

pub returns-in-Recursive-Roll : goal.returns-in-Recursive-Roll
returns-in-Recursive-Roll c =
    let begins = kind-found _ _ _ c.try_from.ensures (sym c.ok.ensures.value ∙ c.in_ok-kind.was) in
    at_place _ _ c.field-at.ensures.offset (of_roll _ _ _ _ _ c.type_kind.ensures begins c.in-Recursive-Roll.is-0 c.in-Recursive-Roll.is-1 c.first-in-Recursive-Roll.ensures)

pub returns-in_default : goal.returns-in_default
returns-in_default c =
    let begins = kind-found _ _ _ c.try_from.ensures (sym c.ok.ensures.value ∙ c.in_ok-kind.was) in
    at_place _ _ c.field-at.ensures.offset (no-unit _ _ _ _ _ c.type_kind.ensures begins c.in_default.is-0 c.in_default.not-Unit-1)

pub returns-in_default-2 : goal.returns-in_default-2
returns-in_default-2 c =
    let begins = kind-found _ _ _ c.try_from.ensures (sym c.ok.ensures.value ∙ c.in_ok-kind.was) in
    at_place _ _ c.field-at.ensures.offset (no-pair _ _ _ _ _ c.type_kind.ensures begins c.in_default.is-0 c.in_default.not-Pair-1)

pub returns-in_default-3 : goal.returns-in_default-3
returns-in_default-3 c =
    let begins = kind-found _ _ _ c.try_from.ensures (sym c.ok.ensures.value ∙ c.in_ok-kind.was) in
    at_place _ _ c.field-at.ensures.offset (no-sum _ _ _ _ _ c.type_kind.ensures begins c.in_default.is-0 c.in_default.not-Inl-1 c.in_default.not-Inr-1)

pub returns-in_default-4 : goal.returns-in_default-4
returns-in_default-4 c =
    let begins = kind-found _ _ _ c.try_from.ensures (sym c.ok.ensures.value ∙ c.in_ok-kind.was) in
    at_place _ _ c.field-at.ensures.offset (no-roll _ _ _ _ _ c.type_kind.ensures begins c.in_default.is-0 c.in_default.not-Roll-1)

pub returns-in_default-5 : goal.returns-in_default-5
returns-in_default-5 c =
    let begins = kind-found _ _ _ c.try_from.ensures (sym c.ok.ensures.value ∙ c.in_ok-kind.was) in
    at_place _ _ c.field-at.ensures.offset (no-variable _ _ _ _ _ c.type_kind.ensures begins c.in_default.is-0)
