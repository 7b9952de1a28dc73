-- What typing the functions of a program answers in code (document 01, section 4, row Typing), against rules/specs/Check and
-- calls/specs/Load: of all functions, of one, and of one whose body is typed.
use Rattle.std.specs.Prelude.{Result, Ok, Err, ℕ, ◌≤◌, ◌<◌, ◌≡◌, Bool, true, false, ◌||◌, List, [], ◌∷◌, map, length, get_or, take}
use package.Rattle.rules.specs.Limits.{max_variables, max_nodes}
use package.Rattle.rules.specs.Ty.{Ty, is_unit, same_ty}
use package.Rattle.rules.specs.Typing.{dynamic}
use package.Rattle.rules.specs.Check.{statics, check_fun, check}
use package.Rattle.calls.specs.Answer.{Answer, accepted, refused, ◌>>=◌, require}
use package.Rattle.calls.specs.Entries.{type_at, type_of, function_at, entries_at}
use package.Rattle.calls.specs.Named.{types_of_function, below, test_entries}
use package.Rattle.calls.specs.Figures.{nodes_of, figures}
use package.Rattle.calls.specs.Load.{typed}
use package.Rattle.program.specs.Parts.{FunctionField}
use package.Rattle.program.specs.Places.{places_of, Placed}
use package.Rattle.program.specs.Signatures.{SignatureIs}
use package.Rattle.program.specs.Programs.{function_in, program_in}
use package.Rattle.types.specs.Layout.{typing_bytes}
use package.Rattle.types.specs.Codes.{tree_in, Known}
use package.Rattle.typing.specs.Ready.{variable_at, context_in, Scoped}
use package.Rattle.typing.specs.Waiting.{scope_bytes, count_in}
use package.Rattle.typing.specs.declared.outcomes.Scope.{Scope}
use package.Rattle.typing.specs.declared.outcomes.Fault.{Fault}
use package.Rattle.typing.specs.declared.outcomes.Fault.TheVariants as fault
use package.Rattle.typing.specs.declared.functions.TypingError.{TypingError}
use package.Rattle.typing.specs.declared.functions.TypingError.TheVariants.{Differ, Unscoped, Misused}

-- the answer in the definitions' terms
abbrev pub verdict_of : Result (Unit {0}) TypingError → Answer (Unit {0})
verdict_of (Ok done) = accepted tt
verdict_of (Err (Differ at)) = refused 6 at
verdict_of (Err (Unscoped at)) = refused 7 at
verdict_of (Err (Misused at)) = refused 8 at

-- A program whose fields are read and whose entries are tested, with the nodes of its types counted, and room for what typing keeps: as many
-- product nodes as there can be terms, and the figures of type entries.
pub record Typeable (xs types terms functions nodes heap : List ℕ) : Type 0 where
  pub read : Placed xs types terms functions
  pub tested : test_entries (places_of types terms functions) (entries_at xs (places_of types terms functions)) ≡ accepted tt
  pub held : length types ≤ length nodes
  pub counted : take (length types) nodes ≡ figures nodes_of [] (map (type_at xs) types)
  pub room : typing_bytes ≤ length heap

-- A function whose field at `at` is read and tested, with its row of the table of signatures.
pub record Signed (xs types : List ℕ) (at : ℕ) (row : List ℕ) : Type 0 where
  pub formed : FunctionField xs at
  pub signature : SignatureIs (function_at xs at) row
  pub there : below (length types) (types_of_function (function_at xs at)) ≡ true

-- The first `n` variables have the types of the first `n` parameters, and no naming waits.
pub record Bound (xs types heap vars row : List ℕ) (n : ℕ) : Type 0 where
  pub slots : scope_bytes ≤ length vars
  pub known : (i : ℕ) → i < n → Known (length types) 0 (variable_at vars i)
  pub tree : (i : ℕ) → i < n → tree_in xs types heap (variable_at vars i) ≡ type_of (map (type_at xs) types) (get_or row i 0)
  pub none_wait : count_in vars ≡ 0

-- The scope is that of the parameters of the function whose field is at `at`: all but the last are ancillae.
pub record Started (xs types heap vars : List ℕ) (at : ℕ) (sc : Scope) : Type 0 where
  pub scoped : Scoped xs types heap vars sc 0
  pub none_wait : count_in vars ≡ 0
  pub context : context_in xs types heap vars sc
      ≡ dynamic false (type_of (map (type_at xs) types) (function_at xs at).dynamic)
      ∷ statics (map (type_of (map (type_at xs) types)) (function_at xs at).ancillae) []

----------------------------------------------------------------
-- The definitions' answers

abbrev pub typing_answer : List ℕ → List ℕ → List ℕ → List ℕ → Answer (Unit {0})
typing_answer xs types terms functions =
    typed (places_of types terms functions) (check max_variables max_nodes (program_in xs types terms functions))

-- of the function with entry `g`
abbrev pub function_answer : List ℕ → List ℕ → List ℕ → List ℕ → ℕ → Answer (Unit {0})
function_answer xs types terms functions g =
    typed (places_of types terms functions) (check_fun max_variables max_nodes (program_in xs types terms functions) g
    (function_in xs types terms (get_or functions g 0)))

-- Of the function whose field is at `at`, once its body has the type `τ`; `used` is whether the body uses the dynamic parameter.
unfoldable pub end_answer : List ℕ → List ℕ → ℕ → Ty → Bool → Answer (Unit {0})
end_answer xs types at τ used = do
  same ← require (same_ty τ (type_of (map (type_at xs) types) (function_at xs at).result)) 6 at
  require (is_unit (type_of (map (type_at xs) types) (function_at xs at).dynamic) || used) 8 at

-- of a refusal at a term, `terms` being the offsets of the terms' fields
abbrev pub fault_answer : List ℕ → Fault → Answer (Unit {0})
fault_answer terms (fault.Differ t) = refused 6 (get_or terms t 0)
fault_answer terms (fault.Unscoped t) = refused 7 (get_or terms t 0)
fault_answer terms (fault.Misused t) = refused 8 (get_or terms t 0)
