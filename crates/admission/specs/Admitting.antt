-- What admission asks of the program, and what it answers (section 4, row Call). Admission looks at no term, so what it answers is said
-- whatever the terms are.
use Rattle.std.specs.Prelude.{ℕ, ◌≤◌, ◌<◌, ◌≡◌, Bool, true, false, ◌&&◌, List, map, length, get_or, eqb, Result, Ok, Err}
use Rattle.std.proofs.Math.Option.{Option, none, some}
use package.Rattle.rules.specs.Limits.{max_functions}
use package.Rattle.rules.specs.Val.{Val}
use package.Rattle.rules.specs.Ty.{Ty}
use package.Rattle.rules.specs.Term.{Fun}
use package.Rattle.calls.specs.Answer.{Answer, accepted, refused}
use package.Rattle.calls.specs.Entries.{TypeEntry, type_of, FunctionEntry, function_at}
use package.Rattle.calls.specs.Named.{types_of_function, below, all_plain}
use package.Rattle.calls.specs.Values.{value, ancillae, has_ty, has_tys}
use package.Rattle.calls.specs.Runs.{Given, admit}
use package.Rattle.answers.specs.declared.Refusal.{Refusal}
use package.Rattle.answers.specs.Answers.{number_of, place_of, Later}
use package.Rattle.program.specs.Parts.{FunctionField}
use package.Rattle.program.specs.Signatures.{SignaturesAre}
use package.Rattle.program.specs.Programs.{program_in}
use package.Rattle.valuebytes.specs.Typing.{entries_of, TypesRead}
use package.Rattle.valuebytes.specs.Ends.{value_in, values_in}
use package.Rattle.admission.specs.Given.{given_in}

----------------------------------------------------------------
-- The program

-- a function's field: the types that it names are there, closed and within the limit on nodes
pub record Callable (xs types : List ℕ) (at : ℕ) : Type 0 where
  pub field : FunctionField xs at
  pub there : below (length types) (types_of_function (function_at xs at)) ≡ true
  pub closes : all_plain (entries_of xs types) (types_of_function (function_at xs at)) ≡ true

-- So it is in a program whose fields were read and whose entries were tested (proofs/Tested).
pub record Admittable (xs types functions : List ℕ) (signatures : List (List ℕ)) : Type 0 where
  pub table : TypesRead xs types
  pub function : (g : ℕ) → g < length functions → Callable xs types (get_or functions g 0)
  pub few : length functions ≤ max_functions
  pub signed : SignaturesAre xs functions signatures

----------------------------------------------------------------
-- The values

-- both are values within the limits, `n` of the first
unfoldable pub in_number : Option (List Val) → Option Val → ℕ → Bool
in_number none v n = false
in_number (some vs) none n = false
in_number (some vs) (some v) n = eqb (length vs) n

-- the bytes are values so, as many as the function has ancillae
abbrev pub right_in : List ℕ → List ℕ → FunctionEntry → Bool
right_in anc bytes h = in_number (ancillae anc) (value bytes) (length h.ancillae)

-- the ancillae were read, as many as the function whose field is at `at` has
pub record AsMany (xs : List ℕ) (at : ℕ) (anc : List ℕ) : Type 0 where
  pub read : ancillae anc ≡ some (values_in anc)
  pub number : length (values_in anc) ≡ length (function_at xs at).ancillae

-- the side of a function that a value is held to: its result type back, else its dynamic parameter's type
unfoldable pub side_number : Bool → FunctionEntry → ℕ
side_number true h = h.result
side_number false h = h.dynamic

abbrev pub side_of : Bool → Fun → Ty
side_of true h = h.result
side_of false h = h.dynamic

-- ancillae and value are of their types
abbrev pub all_typed : List TypeEntry → FunctionEntry → Bool → List ℕ → List ℕ → Bool
all_typed ys h back anc bytes = has_tys (values_in anc) (map (type_of ys) h.ancillae) && has_ty (value_in bytes) (type_of ys (side_number back h))

----------------------------------------------------------------
-- The answer

abbrev pub answer_of : Result (Unit {0}) Refusal → Given → Answer Given
answer_of (Ok tt) a = accepted a
answer_of (Err r) a = refused (number_of r) (place_of r)

pub record AdmitMeans (r : Result (Unit {0}) Refusal) (xs types functions : List ℕ) (g : ℕ) (anc bytes : List ℕ) (back : Bool) : Type 0 where
  pub answer : (terms : List ℕ) → answer_of r (given_in xs types terms functions g anc bytes)
      ≡ admit (program_in xs types terms functions) g (ancillae anc) (value bytes) (side_of back)
  pub later : (terms : List ℕ) → Later (answer_of r (given_in xs types terms functions g anc bytes))
