-- What decoding asks for, and what it does: the rows are the program's entries, by one equation for the terms and one for the functions.
-- Laws: proofs/Decoding.
use Rattle.std.specs.Prelude.{ℕ, ◌+◌, ◌*◌, ◌≤◌, ◌<◌, ◌≡◌, ◌⊎◌, true, List, [], map, length, get_or}
use package.Rattle.octets.specs.Numbers.{get16}
use package.Rattle.rules.specs.Limits.{max_terms, max_functions, max_variables}
use package.Rattle.calls.specs.Fields.{kind_at, length_at, parameters_at}
use package.Rattle.calls.specs.Entries.{call_ancillae, term_at, function_at}
use package.Rattle.calls.specs.Named.{terms_of_term, below}
use package.Rattle.program.specs.Parts.{TermField, FunctionField, variable}
use package.Rattle.program.specs.Kinds.{variable_kind, case_kind, call_kind}
use package.Rattle.varsets.specs.Sets.{Holds}
use package.Rattle.decoded.specs.Rows.{row_heads, row_numbers, function_rows, room_for, kind_in, first_in, second_in, third_in, argument_in, names_in}
use package.Rattle.decoded.specs.Rows.{parameters_in, entry_in, function_in, terms_in, functions_in, tree_in, named, term_count, function_count}

----------------------------------------------------------------
-- Before

-- the field of a term whose row has room for its ancilla terms; a set has room for the variable that it is
pub record FieldOfRow (p : List ℕ) (at : ℕ) : Type 0 where
  pub field : TermField p at
  pub few : kind_at p at ≡ call_kind → call_ancillae (length_at p at) ≤ room_for
  pub variables : kind_at p at ≡ variable_kind → variable p at < max_variables

-- The fields of the terms at these offsets are well-formed, with room for every call and variable; they name lower terms, and are as many as
-- section 1 allows.
pub record FieldsOfTerms (p terms : List ℕ) : Type 0 where
  pub row : (t : ℕ) → t < length terms → FieldOfRow p (get_or terms t 0)
  pub lower : (t : ℕ) → t < length terms → below t (terms_of_term (term_at p (get_or terms t 0))) ≡ true
  pub few : length terms ≤ max_terms

pub record FieldsOfFunctions (p functions : List ℕ) : Type 0 where
  pub field : (g : ℕ) → g < length functions → FunctionField p (get_or functions g 0)
  pub few : length functions ≤ max_functions

----------------------------------------------------------------
-- One row

-- the numbers outside row `r` are as they were
pub record Beside (code code' : List ℕ) (r : ℕ) : Type 0 where
  pub kept : (j : ℕ) → (j < row_numbers * r) ⊎ (row_numbers * r + row_numbers ≤ j) → get_or code' j 0 ≡ get_or code j 0

-- the first four numbers of row `r` are these, and all others as they were
pub record Heads (code code' : List ℕ) (r kind a b c : ℕ) : Type 0 where
  pub lengths : length code' ≡ length code
  pub kind_is : kind_in code' r ≡ kind
  pub first_is : first_in code' r ≡ a
  pub second_is : second_in code' r ≡ b
  pub third_is : third_in code' r ≡ c
  pub others : (j : ℕ) → (j < row_numbers * r) ⊎ (row_numbers * r + row_heads ≤ j) → get_or code' j 0 ≡ get_or code j 0

-- the numbers of row `r` from the fifth on are `n` references from place `i` of the program, and all others as they were
pub record Listed (code code' : List ℕ) (r : ℕ) (p : List ℕ) (i n : ℕ) : Type 0 where
  pub lengths : length code' ≡ length code
  pub arguments : (k : ℕ) → k < n → argument_in code' r k ≡ get16 p (i + 2 * k)
  pub others : (j : ℕ) → (j < row_numbers * r + row_heads) ⊎ (row_numbers * r + row_heads + n ≤ j) → get_or code' j 0 ≡ get_or code j 0

-- row `t` says what the field at `at` says
pub record TermRow (code : List ℕ) (t : ℕ) (p : List ℕ) (at : ℕ) : Type 0 where
  pub entry : entry_in code t ≡ term_at p at
  pub kind : kind_in code t ≡ kind_at p at
  pub few : kind_in code t ≡ call_kind → third_in code t ≤ room_for
  pub variables : kind_in code t ≡ variable_kind → first_in code t < max_variables

pub record TermPut (code code' : List ℕ) (t : ℕ) (p : List ℕ) (at : ℕ) : Type 0 where
  pub lengths : length code' ≡ length code
  pub row : TermRow code' t p at
  pub beside : Beside code code' t

-- the row of function `g` says what the field at `at` says
pub record FunctionRow (code : List ℕ) (g : ℕ) (p : List ℕ) (at : ℕ) : Type 0 where
  pub entry : function_in code g ≡ function_at p at
  pub parameters : parameters_in code g ≡ parameters_at p at

pub record FunctionPut (code code' : List ℕ) (g : ℕ) (p : List ℕ) (at : ℕ) : Type 0 where
  pub lengths : length code' ≡ length code
  pub row : FunctionRow code' g p at
  pub beside : Beside code code' (function_rows + g)

----------------------------------------------------------------
-- All rows

-- the first `n` terms have their rows
pub record TermRows (code code' p terms : List ℕ) (n : ℕ) : Type 0 where
  pub lengths : length code' ≡ length code
  pub row : (t : ℕ) → t < n → TermRow code' t p (get_or terms t 0)

-- the first `n` functions have theirs, and those of the terms are as they were
pub record FunctionRows (code code' p functions : List ℕ) (n : ℕ) : Type 0 where
  pub lengths : length code' ≡ length code
  pub row : (g : ℕ) → g < n → FunctionRow code' g p (get_or functions g 0)
  pub before : (j : ℕ) → j < row_numbers * function_rows → get_or code' j 0 ≡ get_or code j 0

-- the rows are the program's entries, and those of cases have the sets of their scrutinees
pub record Decodes (code p terms functions : List ℕ) : Type 0 where
  pub terms_are : terms_in code ≡ map (term_at p) terms
  pub functions_are : functions_in code ≡ map (function_at p) functions
  pub as_many_terms : term_count code ≡ length terms
  pub as_many_functions : function_count code ≡ length functions
  pub row : (t : ℕ) → t < length terms → TermRow code t p (get_or terms t 0)
  pub function : (g : ℕ) → g < length functions → FunctionRow code g p (get_or functions g 0)
  pub names : (t : ℕ) → t < length terms → kind_in code t ≡ case_kind → Holds (names_in code t) (λ i. named i (tree_in code [] (first_in code t)))
