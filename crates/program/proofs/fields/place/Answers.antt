use native.Mathlib.Omega.{arith}
use mathlib.Core.Path.{◌∙◌, sym, ap}
use Rattle.rules.specs.Limits.{max_program_bytes}
use Rattle.program.specs.Places.{parameters_within}
use Rattle.program.specs.Tags.{tag_number}
use Rattle.program.proofs.Formed.{denied, not_denied}
use Rattle.program.proofs.Placing.{type-placed, term-placed, function-placed, type-full, term-full, function-full, function-refused}
use Rattle.program.proofs.fields.place.Goals as goal

pub overflow_cast-offset : goal.overflow_cast-offset
unfolding max_program_bytes
overflow_cast-offset c =
    omega arith

pub returns-then-i-ge-MAX_TYPES : goal.returns-then-i-ge-MAX_TYPES
returns-then-i-ge-MAX_TYPES c =
    type-full _ _ _ _ _ _ c.requires.placeable (sym c.requires.tag_value ∙ ap tag_number c.in-Type.is) (omega arith)

pub bounds-types-i : goal.bounds-types-i
bounds-types-i c =
    omega arith

pub returns-else-i-ge-MAX_TYPES : goal.returns-else-i-ge-MAX_TYPES
returns-else-i-ge-MAX_TYPES c =
    type-placed _ _ _ _ _ _ c.requires.placeable (sym c.requires.tag_value ∙ ap tag_number c.in-Type.is) (omega arith)

pub returns-then-j-ge-MAX_TERMS : goal.returns-then-j-ge-MAX_TERMS
returns-then-j-ge-MAX_TERMS c =
    term-full _ _ _ _ _ _ c.requires.placeable (sym c.requires.tag_value ∙ ap tag_number c.in-Term.is) (omega arith)

pub bounds-terms-j : goal.bounds-terms-j
bounds-terms-j c =
    omega arith

pub returns-else-j-ge-MAX_TERMS : goal.returns-else-j-ge-MAX_TERMS
returns-else-j-ge-MAX_TERMS c =
    term-placed _ _ _ _ _ _ c.requires.placeable (sym c.requires.tag_value ∙ ap tag_number c.in-Term.is) (omega arith)

pub returns-then-not-parameters_within : goal.returns-then-not-parameters_within
returns-then-not-parameters_within c =
    function-refused _ _ _ _ _ _ c.requires.placeable (sym c.requires.tag_value ∙ ap tag_number c.in-Function.is)
    (denied (c.parameters_within.ensures ∙ ap parameters_within c.parameters_at.ensures) c.if-not-parameters_within.true-raw)

pub returns-then-k-ge-MAX_FUNCTIONS : goal.returns-then-k-ge-MAX_FUNCTIONS
returns-then-k-ge-MAX_FUNCTIONS c =
    function-full _ _ _ _ _ _ c.requires.placeable (sym c.requires.tag_value ∙ ap tag_number c.in-Function.is) (omega arith)

pub bounds-functions-k : goal.bounds-functions-k
bounds-functions-k c =
    omega arith

pub returns-else-k-ge-MAX_FUNCTIONS : goal.returns-else-k-ge-MAX_FUNCTIONS
returns-else-k-ge-MAX_FUNCTIONS c =
    function-placed _ _ _ _ _ _ c.requires.placeable (sym c.requires.tag_value ∙ ap tag_number c.in-Function.is)
    (not_denied (c.parameters_within.ensures ∙ ap parameters_within c.parameters_at.ensures)
    c.if-not-parameters_within.false-raw) (omega arith)
