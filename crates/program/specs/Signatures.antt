-- The signatures of functions, as the code holds them: rows of eight parameter type numbers, a row for each function.
use Rattle.std.specs.Prelude.{ℕ, ◌≤◌, ◌<◌, ◌≡◌, List, [], ◌∷◌, ◌++◌, length, get_or, set, take, replicate, Result, Ok, Err}
use package.Rattle.rules.specs.Limits.{max_functions, max_parameters}
use package.Rattle.calls.specs.Fields.{function_tag}
use package.Rattle.calls.specs.Entries.{FunctionEntry, function_at}
use package.Rattle.program.specs.declared.fields.Counts.{Counts}
use package.Rattle.program.specs.declared.fields.FieldError.{FieldError}
use package.Rattle.program.specs.Parts.{FunctionField}

-- the parameter types of a function in order, the dynamic one last
abbrev pub parameter_types : FunctionEntry → List ℕ
parameter_types h = h.ancillae ++ (h.dynamic ∷ [])

-- A function's row: its parameter types, zeros after them.
pub record SignatureIs (h : FunctionEntry) (row : List ℕ) : Type 0 where
  pub sized : length row ≡ max_parameters
  pub few : length (parameter_types h) ≤ max_parameters
  pub each : (k : ℕ) → get_or row k 0 ≡ get_or (parameter_types h) k 0

-- offsets of function fields that were read
pub record FunctionFields (xs functions : List ℕ) : Type 0 where
  pub few : length functions ≤ max_functions
  pub each : (g : ℕ) → g < length functions → FunctionField xs (get_or functions g 0)

-- a function's field, whose number the table has a row for; of another field nothing is asked
pub record Signable (xs : List ℕ) (at tag g : ℕ) : Type 0 where
  pub field : tag ≡ function_tag → FunctionField xs at
  pub few : tag ≡ function_tag → g < max_functions

-- the row of a function's field is in the table, which is else as it was
pub record Signs (xs : List ℕ) (at tag g : ℕ) (table table' : List (List ℕ)) : Type 0 where
  pub written : tag ≡ function_tag → (row : List ℕ) × SignatureIs (function_at xs at) row × (table' ≡ set table g row)
  pub kept : (tag ≡ function_tag → ⊥) → table' ≡ table

-- the table before any function is read: rows of zeros
abbrev pub unsigned : List (List ℕ)
unsigned = replicate max_functions (replicate max_parameters 0)

-- The table: a row for each function, rows of zeros after them.
pub record SignaturesAre (xs functions : List ℕ) (table : List (List ℕ)) : Type 0 where
  pub sized : length table ≡ max_functions
  pub rows : (g : ℕ) → g < length functions → SignatureIs (function_at xs (get_or functions g 0)) (get_or table g [])
  pub beyond : (g : ℕ) → length functions ≤ g → g < max_functions → get_or table g [] ≡ replicate max_parameters 0

-- what reading the fields leaves in the table
abbrev pub Tabulated : Result Counts FieldError → List ℕ → List ℕ → List (List ℕ) → Type 0
Tabulated (Ok c) xs functions table = SignaturesAre xs (take c.functions functions) table
Tabulated (Err e) xs functions table = Unit {0}
