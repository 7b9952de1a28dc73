-- Where the fields of a program's entries stand, as the code holds them: offsets in three buffers, of which the fronts count.
-- In order: offsets that are a program's layout; fronts of buffers; what placing one field answers, and what reading them all does.
use Rattle.std.specs.Prelude.{ℕ, ◌+◌, ◌≤◌, ◌≡◌, Bool, true, false, ◌&&◌, List, length, take, leb, Option, Some, None, Result, Ok, Err}
use package.Rattle.rules.specs.Limits.{max_types, max_terms, max_functions, max_parameters, max_program_bytes}
use package.Rattle.calls.specs.Answer.{Answer, accepted, refused}
use package.Rattle.calls.specs.Fields.{field_head, Layout, with_field, within_counts, layout}
use package.Rattle.program.specs.declared.fields.Counts.{Counts}
use package.Rattle.program.specs.declared.fields.FieldError.{FieldError}
use package.Rattle.program.specs.declared.fields.FieldError.TheVariants.{Malformed, Over}

-- the layout with these offsets of types, terms and functions
abbrev pub places_of : List ℕ → List ℕ → List ℕ → Layout
places_of types terms functions = record { types = types; terms = terms; functions = functions }

-- The program `xs` has its fields read, and its entries stand at these offsets.
pub record Placed (xs types terms functions : List ℕ) : Type 0 where
  pub read : layout xs ≡ accepted (places_of types terms functions)

----------------------------------------------------------------
-- Buffers

-- the offsets that count
abbrev pub fronts_of : List ℕ → List ℕ → List ℕ → Counts → Layout
fronts_of types terms functions c = places_of (take c.types types) (take c.terms terms) (take c.functions functions)

-- buffers as long as section 1 allows entries
pub record Buffers (types terms functions : List ℕ) : Type 0 where
  pub for_types : max_types ≤ length types
  pub for_terms : max_terms ≤ length terms
  pub for_functions : max_functions ≤ length functions

-- counts that section 1 allows
pub record Within (c : Counts) : Type 0 where
  pub types : c.types ≤ max_types
  pub terms : c.terms ≤ max_terms
  pub functions : c.functions ≤ max_functions

----------------------------------------------------------------
-- One field

-- a count of parameters that section 1 allows
unfoldable pub parameters_within : ℕ → Bool
parameters_within n = leb 1 n && leb n max_parameters

-- a field to place: of its offset, that it fits two bytes
pub record Placeable (xs : List ℕ) (at : ℕ) (c : Counts) (types terms functions : List ℕ) : Type 0 where
  pub whole : at + field_head ≤ length xs
  pub small : length xs ≤ max_program_bytes
  pub within : Within c
  pub buffers : Buffers types terms functions

-- the field's offset is in the fronts, one longer, and the counts allow it
pub record Added (c : Counts) (xs : List ℕ) (at : ℕ) (L : Layout) (types terms functions : List ℕ) : Type 0 where
  pub fronts : fronts_of types terms functions c ≡ with_field xs at L
  pub within : Within c
  pub allowed : within_counts xs at (with_field xs at L) ≡ true

-- what placing the field at `at` answers, `L` being the layout before it
abbrev pub PlacingMeans : Option Counts → List ℕ → ℕ → Layout → List ℕ → List ℕ → List ℕ → Type 0
PlacingMeans (Some c) xs at L types terms functions = Added c xs at L types terms functions
PlacingMeans None xs at L types terms functions = within_counts xs at (with_field xs at L) ≡ false

----------------------------------------------------------------
-- All fields

-- the answer in the definitions' terms
abbrev pub answer_of : Result Counts FieldError → List ℕ → List ℕ → List ℕ → Answer Layout
answer_of (Ok c) types terms functions = accepted (fronts_of types terms functions c)
answer_of (Err (Malformed at)) types terms functions = refused 2 at
answer_of (Err (Over at)) types terms functions = refused 3 at

-- the counts, where there are any, are those that section 1 allows
abbrev pub Counted : Result Counts FieldError → Type 0
Counted (Ok c) = Within c
Counted (Err (Malformed at)) = Unit {0}
Counted (Err (Over at)) = Unit {0}

pub record FieldsMean (r : Result Counts FieldError) (xs types terms functions : List ℕ) : Type 0 where
  pub answer : layout xs ≡ answer_of r types terms functions
  pub counted : Counted r
  -- so that a front is as long as its count
  pub buffers : Buffers types terms functions
