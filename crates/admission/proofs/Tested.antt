-- A program whose fields were read and whose entries were tested is one that admission can be asked about.
use Prim.Native.Nat.{ℕ}
use mathlib.Core.Path.{◌≡◌, subst}
use mathlib.Core.Bool.{true}
use mathlib.Core.List.{List}
use lib.ListN.{get_or, length-map}
use package.Rattle.calls.specs.Answer.{accepted}
use package.Rattle.calls.specs.Entries.{type_at, function_at, entries_at}
use package.Rattle.calls.specs.Named.{types_of_function, below, test_entries}
use package.Rattle.calls.proofs.Trees.{entries-good}
use package.Rattle.calls.specs.Tested.{Good}
use package.Rattle.program.specs.Places.{places_of, Placed}
use package.Rattle.program.specs.Signatures.{SignaturesAre}
use package.Rattle.program.proofs.Inside.{formed}
use package.Rattle.program.proofs.Programs.{entry-there}
use package.Rattle.admission.specs.Admitting.{Admittable}

pub admittable : {xs types terms functions : List ℕ} → Placed xs types terms functions
    → test_entries (places_of types terms functions) (entries_at xs (places_of types terms functions)) ≡ accepted tt
    → {table : List (List ℕ)} → SignaturesAre xs functions table → Admittable xs types functions table
unfolding entries_at
admittable {xs} {types} {terms} {functions} P e S = record {
  table = record { field = (formed xs P.read).types; lower = G.types_lower };
  function = λ g l. record {
    field = (formed xs P.read).functions g l;
    there = subst (λ n. below n (types_of_function (function_at xs (get_or functions g 0))) ≡ true) (length-map types (type_at xs))
        (G.function g _ (entry-there xs functions g l)).types_there;
    closes = (G.function g _ (entry-there xs functions g l)).types_plain;
  };
  few = (formed xs P.read).few_functions;
  signed = S;
}
  where
    G : Good (entries_at xs (places_of types terms functions))
    G = entries-good (places_of types terms functions) (entries_at xs (places_of types terms functions)) e
