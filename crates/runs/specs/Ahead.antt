-- The run of a function forward: what it asks for, and what evaluation gives. Evaluation looks at no type, so what is said of it is said
-- whatever the types are.
use Rattle.std.specs.Prelude.{ℕ, ◌≤◌, ◌<◌, ◌≡◌, List, length, get_or, Ok}
use package.Rattle.rules.specs.Limits.{max_variables, max_nodes, max_height, fits}
use package.Rattle.rules.specs.Term.{Fun}
use package.Rattle.rules.specs.Ty.{Ty}
use package.Rattle.rules.specs.Typing.{WellTyped}
use package.Rattle.rules.specs.Run.{stuck}
use package.Rattle.rules.specs.Machine.{run_forward}
use package.Rattle.calls.specs.Answer.{accepted}
use package.Rattle.calls.specs.Entries.{entries_at}
use package.Rattle.calls.specs.Named.{test_entries}
use package.Rattle.calls.specs.Values.{value, ancillae}
use package.Rattle.calls.specs.Runs.{workspace_for, admit, goes}
use package.Rattle.program.specs.Places.{places_of, Placed}
use package.Rattle.program.specs.Programs.{program_in, function_in}
use package.Rattle.forward.specs.Outcomes.{Out, meaning}
use package.Rattle.forward.specs.Ready.{Graph}
use package.Rattle.admission.specs.Given.{given_in}
use package.Rattle.runs.specs.Ended.{RunAnswer, Means}
use package.Rattle.valuebytes.specs.Ends.{value_in, values_in}

----------------------------------------------------------------
-- What is asked for

-- a program in `xs` that was loaded, and is typed; its types stand at the offsets `types`
pub record Loaded (xs types terms functions : List ℕ) : Type 0 where
  pub read : Placed xs types terms functions
  pub tested : test_entries (places_of types terms functions) (entries_at xs (places_of types terms functions)) ≡ accepted tt
  pub typed : WellTyped max_variables max_nodes (program_in xs types terms functions)

-- a call of function `g` of such a program that was admitted, with the workspace that it needs; `side` is the type that the value is held to
pub record Allowed (side : Fun → Ty) (xs terms functions heap : List ℕ) (g : ℕ) (anc bytes : List ℕ) (fuel : ℕ) : Type 0 where
  pub types : List ℕ
  pub loaded : Loaded xs types terms functions
  pub given : admit (program_in xs types terms functions) g (ancillae anc) (value bytes) side ≡ accepted (given_in xs types terms functions g anc bytes)
  pub enough : workspace_for fuel ≤ length heap

abbrev pub Runnable : (xs terms functions heap : List ℕ) (g : ℕ) (anc bytes : List ℕ) (fuel : ℕ) → Type 0
Runnable = Allowed (λ h. h.dynamic)

----------------------------------------------------------------
-- What evaluation gives

-- the outcome is the rules' run of the function, and does not stick
pub record Evaluated (xs terms functions heap heap' : List ℕ) (g : ℕ) (anc bytes : List ℕ) (fuel : ℕ) (r : Out) : Type 0 where
  pub graph : Graph heap' r.state.top
  pub node : (n : ℕ) → r.status ≡ Ok n → n < r.state.top
  pub spends : r.state.fuel ≤ fuel
  pub answer : (types : List ℕ) → meaning heap' r
      ≡ run_forward fits (program_in xs types terms functions) max_height (function_in xs types terms (get_or functions g 0)) (values_in anc) (value_in bytes) fuel
  pub shaped : meaning heap' r ≡ stuck → ⊥

-- The run as the definition has it (calls/specs/Runs, `goes`), with row Output.
pub record Goes (r : RunAnswer) (xs terms functions : List ℕ) (g : ℕ) (anc bytes : List ℕ) (fuel : ℕ) (out out' : List ℕ) : Type 0 where
  pub means : (types : List ℕ) → Means r out out' (goes (program_in xs types terms functions) fuel (given_in xs types terms functions g anc bytes))
