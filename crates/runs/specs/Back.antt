-- The run of a function backward: what it asks for, and what evaluation gives. As forward, the types are not looked at.
use Rattle.std.specs.Prelude.{ℕ, ◌≤◌, ◌<◌, ◌≡◌, List, get_or}
use package.Rattle.rules.specs.Limits.{max_height, fits}
use package.Rattle.rules.specs.Val.{Val}
use package.Rattle.rules.specs.Run.{Res, stuck}
use package.Rattle.rules.specs.Machine.{run_backward}
use package.Rattle.calls.specs.Runs.{returns}
use package.Rattle.scopes.specs.Slots.{Machine}
use package.Rattle.forward.specs.Ready.{Graph}
use package.Rattle.backward.specs.Outcomes.{Status, Done}
use package.Rattle.backward.specs.Calls.{returned}
use package.Rattle.admission.specs.Given.{given_in}
use package.Rattle.runs.specs.Ended.{RunAnswer, Means}
use package.Rattle.runs.specs.Ahead.{Allowed}
use package.Rattle.program.specs.Programs.{program_in, function_in}
use package.Rattle.valuebytes.specs.Ends.{value_in, values_in}

-- a value given to a backward run is held to the result type
abbrev pub Returnable : (xs terms functions heap : List ℕ) (g : ℕ) (anc bytes : List ℕ) (fuel : ℕ) → Type 0
Returnable = Allowed (λ h. h.result)

-- the input's node, or the refusal
abbrev pub input_of : List ℕ → Status → ℕ → Machine → Res Val
input_of heap s node st = returned heap node st.fuel s

-- the outcome is the rules' run of the function, and does not stick
pub record Undone (xs terms functions heap' : List ℕ) (g : ℕ) (anc bytes : List ℕ) (fuel : ℕ) (s : Status) (node : ℕ) (st : Machine) : Type 0 where
  pub graph : Graph heap' st.top
  pub there : s ≡ Done → node < st.top
  pub spends : st.fuel ≤ fuel
  pub answer : (types : List ℕ) → input_of heap' s node st
      ≡ run_backward fits (program_in xs types terms functions) max_height (function_in xs types terms (get_or functions g 0)) (values_in anc) (value_in bytes) fuel
  pub shaped : input_of heap' s node st ≡ stuck → ⊥

-- The run as the definition has it (calls/specs/Runs, `returns`), with row Output.
pub record Returns (r : RunAnswer) (xs terms functions : List ℕ) (g : ℕ) (anc bytes : List ℕ) (fuel : ℕ) (out out' : List ℕ) : Type 0 where
  pub means : (types : List ℕ) → Means r out out' (returns (program_in xs types terms functions) fuel (given_in xs types terms functions g anc bytes))
