-- The parts of one entry's field at offset `at` of the program `xs`, by place (section 1), and what it is for the field to be
-- well-formed. That accepted fields are: proofs/Inside. What entry the parts make: proofs/Shapes.
use Rattle.std.specs.Prelude.{ℕ, ◌+◌, ◌*◌, ◌≤◌, ◌<◌, ◌≡◌, true, List, length, get_or}
use package.Rattle.octets.specs.Numbers.{get16}
use package.Rattle.rules.specs.Limits.{max_types, max_terms, max_functions, max_parameters}
use package.Rattle.calls.specs.Fields.{Layout, length_at, next_at, kind_at, parameters_at, type_length, term_length, function_length}

----------------------------------------------------------------
-- Parts by place

-- of a type or a term: the variable's number, and the references
abbrev pub variable : List ℕ → ℕ → ℕ
variable xs at = get_or xs (at + 4) 0

abbrev pub first : List ℕ → ℕ → ℕ
first xs at = get16 xs (at + 4)

abbrev pub second : List ℕ → ℕ → ℕ
second xs at = get16 xs (at + 6)

abbrev pub third : List ℕ → ℕ → ℕ
third xs at = get16 xs (at + 8)

-- reference `k` of a call's terms, or of a function's parameters
abbrev pub listed : List ℕ → ℕ → ℕ → ℕ
listed xs at k = get16 xs (at + 6 + 2 * k)

-- of a function
abbrev pub result_of : List ℕ → ℕ → ℕ
result_of xs at = get16 xs (at + 3)

abbrev pub body : List ℕ → ℕ → ℕ
body xs at = get16 xs (at + 6 + 2 * parameters_at xs at)

----------------------------------------------------------------
-- Well-formed fields: inside the program, with a body of the length that the kind has

pub record TypeField (xs : List ℕ) (at : ℕ) : Type 0 where
  pub inside : next_at xs at ≤ length xs
  pub sized : type_length (kind_at xs at) (length_at xs at) ≡ true

pub record TermField (xs : List ℕ) (at : ℕ) : Type 0 where
  pub inside : next_at xs at ≤ length xs
  pub sized : term_length (kind_at xs at) (length_at xs at) ≡ true

pub record FunctionField (xs : List ℕ) (at : ℕ) : Type 0 where
  pub inside : next_at xs at ≤ length xs
  pub sized : function_length (parameters_at xs at) (length_at xs at) ≡ true
  pub some : 1 ≤ parameters_at xs at
  pub few : parameters_at xs at ≤ max_parameters

-- every field of a layout is well-formed, and there are as many as section 1 allows
pub record Formed (xs : List ℕ) (L : Layout) : Type 0 where
  pub types : (i : ℕ) → i < length L.types → TypeField xs (get_or L.types i 0)
  pub terms : (k : ℕ) → k < length L.terms → TermField xs (get_or L.terms k 0)
  pub functions : (g : ℕ) → g < length L.functions → FunctionField xs (get_or L.functions g 0)
  pub few_types : length L.types ≤ max_types
  pub few_terms : length L.terms ≤ max_terms
  pub few_functions : length L.functions ≤ max_functions
