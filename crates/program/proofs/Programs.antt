-- The functions of a program whose entries stand at given offsets.
use Prim.Native.Nat.{ℕ, ◌≤◌, ◌<◌}
use native.Mathlib.Omega.{arith}
use mathlib.Core.Path.{◌≡◌, ◌∙◌}
use mathlib.Core.Option.{none, some}
use mathlib.Core.List.{List, map}
use lib.ListN.{length, get_or, length-map}
use package.Rattle.rules.specs.Term.{nth}
use package.Rattle.rules.proofs.Lists.{nth-map, nth-there, nth_none}
use package.Rattle.calls.specs.Entries.{function_at, entries_at, program_of}
use package.Rattle.program.specs.Programs.{program_in, function_in}

module _ (xs functions : List ℕ) (g : ℕ) where
  -- entry `g`
  pub entry-there : g < length functions → nth (map (function_at xs) functions) g ≡ some (function_at xs (get_or functions g 0))
  entry-there l = nth-map (function_at xs) functions g (nth-there functions g l)

  module _ (types terms : List ℕ) where
    pub function-there : g < length functions → nth (program_in xs types terms functions) g ≡ some (function_in xs types terms (get_or functions g 0))
    unfolding program_of entries_at
    function-there l = nth-map _ (map (function_at xs) functions) g (entry-there l)

    pub function_none : length functions ≤ g → nth (program_in xs types terms functions) g ≡ none
    unfolding program_of entries_at
    function_none l = nth_none (program_in xs types terms functions) g (omega (arith, program-length))
      where
        program-length : length (program_in xs types terms functions) ≡ length functions
        program-length = length-map (map (function_at xs) functions) _ ∙ length-map functions (function_at xs)
