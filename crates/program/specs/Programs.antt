-- The program whose entries stand at given offsets, and the function whose field stands at one. Laws: proofs/Programs.
use Rattle.std.specs.Prelude.{ℕ, List, map}
use package.Rattle.rules.specs.Term.{Fun, Program}
use package.Rattle.calls.specs.Entries.{type_at, term_at, function_at, function_of, entries_at, program_of}
use package.Rattle.program.specs.Places.{places_of}

abbrev pub program_in : List ℕ → List ℕ → List ℕ → List ℕ → Program
program_in xs types terms functions = program_of (entries_at xs (places_of types terms functions))

abbrev pub function_in : List ℕ → List ℕ → List ℕ → ℕ → Fun
function_in xs types terms at = function_of (map (type_at xs) types) (map (term_at xs) terms) (function_at xs at)
