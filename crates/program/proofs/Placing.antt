-- Laws of placing one field: the layout and its counts with a field more, and the buffers that hold it.
use Prim.Native.Nat.{ℕ, ◌+◌, ◌<◌, ◌≤◌}
use native.Mathlib.Omega.{arith}
use native.Mathlib.Numerals.{add-one}
use mathlib.Core.Path.{◌≡◌, refl, sym, ap, ◌∙◌}
use mathlib.Core.Bool.{Bool, true, false, ◌&&◌, cond}
use mathlib.Core.List.{List, [], ◌∷◌, ◌++◌}
use lib.ListN.{length, take, set, length-append}
use lib.Seq.{length-take-le, take-suc-set}
use lib.Dec.{eqb, leb}
use borrow.Author.Tests.{le-leb, lt-leb, ne_eqb}
use package.Rattle.rules.specs.Limits.{max_types, max_terms, max_functions}
use package.Rattle.calls.specs.Fields.{type_tag, term_tag, function_tag, tag_at, parameters_at, with_field, within_counts}
use package.Rattle.program.specs.declared.fields.Counts.{Counts}
use package.Rattle.program.specs.Places.{places_of, fronts_of, Buffers, Placeable, Added, parameters_within}

----------------------------------------------------------------
-- Fronts

-- one offset more
pub front-more : (l : List ℕ) (i at : ℕ) → i < length l → take (i + 1) (set l i at) ≡ take i l ++ (at ∷ [])
front-more l i at h = rw (add-one i) (take-suc-set l i at h)

front_length : (l : List ℕ) (i at : ℕ) → i ≤ length l → length (take i l ++ (at ∷ [])) ≡ i + 1
front_length l i at h = length-append (take i l) (at ∷ []) ∙ ap (λ n. n + 1) (length-take-le i l h)

-- buffers keep their lengths
pub buffers-kept : {types terms functions types' terms' functions' : List ℕ} → Buffers types terms functions
    → length types' ≡ length types → length terms' ≡ length terms → length functions' ≡ length functions → Buffers types' terms' functions'
buffers-kept b e f g = record { for_types = omega arith; for_terms = omega arith; for_functions = omega arith }

-- the count of a function's parameters; of another field nothing is asked
abbrev parameters_allowed : List ℕ → ℕ → Bool
parameters_allowed xs at = cond (eqb (tag_at xs at) function_tag) (parameters_within (parameters_at xs at)) true

allowed-unless : (xs : List ℕ) (at : ℕ) → (tag_at xs at ≡ function_tag → ⊥) → parameters_allowed xs at ≡ true
allowed-unless xs at h = rw (ne_eqb (tag_at xs at) function_tag h)

allowed-function : (xs : List ℕ) (at : ℕ) {b : Bool} → tag_at xs at ≡ function_tag → parameters_within (parameters_at xs at) ≡ b → parameters_allowed xs at ≡ b
allowed-function xs at e h = rw e h

and-false : (a : Bool) → (a && false) ≡ false
and-false true = refl
and-false false = refl

----------------------------------------------------------------
-- The layout with one field more, by its tag

module _ (xs : List ℕ) (at : ℕ) (types terms functions : List ℕ) where
  with_type : tag_at xs at ≡ type_tag → with_field xs at (places_of types terms functions) ≡ places_of (types ++ (at ∷ [])) terms functions
  unfolding with_field
  with_type e = rw e

  with_term : tag_at xs at ≡ term_tag → with_field xs at (places_of types terms functions) ≡ places_of types (terms ++ (at ∷ [])) functions
  unfolding with_field
  with_term e = rw e

  with_function : tag_at xs at ≡ function_tag → with_field xs at (places_of types terms functions) ≡ places_of types terms (functions ++ (at ∷ []))
  unfolding with_field
  with_function e = rw e

  ----------------------------------------------------------------
  -- The counts

  counts-within : length types ≤ max_types → length terms ≤ max_terms → length functions ≤ max_functions → parameters_allowed xs at ≡ true
      → within_counts xs at (places_of types terms functions) ≡ true
  unfolding within_counts parameters_within
  counts-within a b c e = rw (le-leb (length types) max_types a, le-leb (length terms) max_terms b, le-leb (length functions) max_functions c) e

  types-over : max_types < length types → within_counts xs at (places_of types terms functions) ≡ false
  unfolding within_counts
  types-over a = rw (lt-leb (length types) max_types a)

  terms-over : length types ≤ max_types → max_terms < length terms → within_counts xs at (places_of types terms functions) ≡ false
  unfolding within_counts
  terms-over a b = rw (le-leb (length types) max_types a, lt-leb (length terms) max_terms b)

  functions-over : length types ≤ max_types → length terms ≤ max_terms → max_functions < length functions → within_counts xs at (places_of types terms functions) ≡ false
  unfolding within_counts
  functions-over a b c = rw (le-leb (length types) max_types a, le-leb (length terms) max_terms b, lt-leb (length functions) max_functions c)

  parameters-over : parameters_allowed xs at ≡ false → within_counts xs at (places_of types terms functions) ≡ false
  unfolding within_counts parameters_within
  parameters-over e = ap (λ d. (leb (length types) max_types && leb (length terms) max_terms && leb (length functions) max_functions) && d) e
      ∙ and-false (leb (length types) max_types && leb (length terms) max_terms && leb (length functions) max_functions)

----------------------------------------------------------------
-- Placed, or over a count, by the field's tag

module _ (xs : List ℕ) (at : ℕ) (c : Counts) (types terms functions : List ℕ) (p : Placeable xs at c types terms functions) where
  few_types : length (take c.types types) ≤ max_types
  few_types = rw (length-take-le c.types types (omega arith)) p.within.types

  few_terms : length (take c.terms terms) ≤ max_terms
  few_terms = rw (length-take-le c.terms terms (omega arith)) p.within.terms

  few_functions : length (take c.functions functions) ≤ max_functions
  few_functions = rw (length-take-le c.functions functions (omega arith)) p.within.functions

  type-more : length (take c.types types ++ (at ∷ [])) ≡ c.types + 1
  type-more = front_length types c.types at (omega arith)

  term-more : length (take c.terms terms ++ (at ∷ [])) ≡ c.terms + 1
  term-more = front_length terms c.terms at (omega arith)

  function-more : length (take c.functions functions ++ (at ∷ [])) ≡ c.functions + 1
  function-more = front_length functions c.functions at (omega arith)

  type_in_lem : tag_at xs at ≡ 1
      → with_field xs at (fronts_of types terms functions c) ≡ places_of (take c.types types ++ (at ∷ [])) (take c.terms terms) (take c.functions functions)
  type_in_lem = with_type xs at (take c.types types) (take c.terms terms) (take c.functions functions)

  term_in_lem : tag_at xs at ≡ 2
      → with_field xs at (fronts_of types terms functions c) ≡ places_of (take c.types types) (take c.terms terms ++ (at ∷ [])) (take c.functions functions)
  term_in_lem = with_term xs at (take c.types types) (take c.terms terms) (take c.functions functions)

  function_in_lem : tag_at xs at ≡ 3
      → with_field xs at (fronts_of types terms functions c) ≡ places_of (take c.types types) (take c.terms terms) (take c.functions functions ++ (at ∷ []))
  function_in_lem = with_function xs at (take c.types types) (take c.terms terms) (take c.functions functions)

  pub type-placed : tag_at xs at ≡ type_tag → c.types < max_types
      → Added (record { types = c.types + 1; terms = c.terms; functions = c.functions }) xs at (fronts_of types terms functions c) (set types c.types at) terms functions
  type-placed e h = record {
    fronts = ap (λ l. places_of l (take c.terms terms) (take c.functions functions)) (front-more types c.types at (omega arith)) ∙ sym (type_in_lem e);
    within = record { types = omega arith; terms = p.within.terms; functions = p.within.functions };
    allowed = ap (within_counts xs at) (type_in_lem e) ∙ counts-within xs at _ _ _ (rw type-more (omega arith)) few_terms few_functions (allowed-unless xs at (λ d. omega arith));
  }

  pub term-placed : tag_at xs at ≡ term_tag → c.terms < max_terms
      → Added (record { types = c.types; terms = c.terms + 1; functions = c.functions }) xs at (fronts_of types terms functions c) types (set terms c.terms at) functions
  term-placed e h = record {
    fronts = ap (λ l. places_of (take c.types types) l (take c.functions functions)) (front-more terms c.terms at (omega arith)) ∙ sym (term_in_lem e);
    within = record { types = p.within.types; terms = omega arith; functions = p.within.functions };
    allowed = ap (within_counts xs at) (term_in_lem e) ∙ counts-within xs at _ _ _ few_types (rw term-more (omega arith)) few_functions (allowed-unless xs at (λ d. omega arith));
  }

  pub function-placed : tag_at xs at ≡ function_tag → parameters_within (parameters_at xs at) ≡ true → c.functions < max_functions
      → Added (record { types = c.types; terms = c.terms; functions = c.functions + 1 }) xs at (fronts_of types terms functions c) types terms (set functions c.functions at)
  function-placed e t h = record {
    fronts = ap (λ l. places_of (take c.types types) (take c.terms terms) l) (front-more functions c.functions at (omega arith)) ∙ sym (function_in_lem e);
    within = record { types = p.within.types; terms = p.within.terms; functions = omega arith };
    allowed = ap (within_counts xs at) (function_in_lem e) ∙ counts-within xs at _ _ _ few_types few_terms (rw function-more (omega arith)) (allowed-function xs at e t);
  }

  pub type-full : tag_at xs at ≡ type_tag → max_types ≤ c.types → within_counts xs at (with_field xs at (fronts_of types terms functions c)) ≡ false
  type-full e h = ap (within_counts xs at) (type_in_lem e) ∙ types-over xs at _ _ _ (rw type-more (omega arith))

  pub term-full : tag_at xs at ≡ term_tag → max_terms ≤ c.terms → within_counts xs at (with_field xs at (fronts_of types terms functions c)) ≡ false
  term-full e h = ap (within_counts xs at) (term_in_lem e) ∙ terms-over xs at _ _ _ few_types (rw term-more (omega arith))

  pub function-full : tag_at xs at ≡ function_tag → max_functions ≤ c.functions → within_counts xs at (with_field xs at (fronts_of types terms functions c)) ≡ false
  function-full e h = ap (within_counts xs at) (function_in_lem e) ∙ functions-over xs at _ _ _ few_types few_terms (rw function-more (omega arith))

  pub function-refused : tag_at xs at ≡ function_tag → parameters_within (parameters_at xs at) ≡ false → within_counts xs at (with_field xs at (fronts_of types terms functions c)) ≡ false
  function-refused e t = ap (within_counts xs at) (function_in_lem e) ∙ parameters-over xs at _ _ _ (allowed-function xs at e t)
