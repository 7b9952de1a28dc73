-- What a call gives a run: a function of the program, and the values that its bytes are.
use Rattle.std.specs.Prelude.{ℕ, List, get_or}
use package.Rattle.calls.specs.Runs.{Given}
use package.Rattle.program.specs.Programs.{function_in}
use package.Rattle.valuebytes.specs.Ends.{values_in, value_in}

-- what a run is given
abbrev pub given_in : (xs types terms functions : List ℕ) → ℕ → List ℕ → List ℕ → Given
given_in xs types terms functions g anc bytes = record { fun = function_in xs types terms (get_or functions g 0); ancillae = values_in anc; value = value_in bytes }
