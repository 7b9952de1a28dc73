-- How the sources of codes come about: type entries of an accepted layout, with their figures, no products yet, and the counts of entries.
use Prim.Native.Nat.{ℕ, ◌≤◌}
use native.Mathlib.Omega.{arith}
use mathlib.Core.Path.{◌≡◌, sym, ap, ◌∙◌}
use mathlib.Core.List.{List, [], map}
use lib.ListN.{length, get_or, take, length-map}
use lib.Seq.{get_or-take}
use package.Rattle.calls.specs.Fields.{Layout}
use package.Rattle.calls.specs.Entries.{type_at}
use package.Rattle.calls.specs.Figures.{nodes_of, figures}
use package.Rattle.calls.proofs.Entries.{nodes_figure}
use package.Rattle.calls.specs.Tested.{Lower}
use package.Rattle.program.specs.Parts.{Formed}
use package.Rattle.types.specs.Figures.{Figured}
use package.Rattle.types.specs.Codes.{Readable, Sources}
use package.Rattle.types.specs.Counts.{Counted}

pub readable : {xs : List ℕ} {L : Layout} → Formed xs L → Lower (map (type_at xs) L.types) → Readable xs L.types
readable F low = record { field = F.types; lower = low; few = F.few_types }

pub no-products : {xs types heap : List ℕ} → Readable xs types → Figured (map (type_at xs) types) heap (length types) → Sources xs types heap 0
no-products R F = record { entries = R; figures = F; products = record { held = omega arith; node = λ k l. absurd (omega arith) } }

-- counts whose front is the figures of calls/specs/Named
pub counted : {xs types nodes : List ℕ} → Readable xs types → length (map (type_at xs) types) ≤ length nodes
    → take (length (map (type_at xs) types)) nodes ≡ figures nodes_of [] (map (type_at xs) types) → Counted xs types nodes
counted {xs} {types} {nodes} R room front =
    let n : length (map (type_at xs) types) ≡ length types = length-map types (type_at xs) in
    record {
      held = omega arith;
      count = λ i l.
          sym (get_or-take (length (map (type_at xs) types)) nodes i 0 (omega arith))
          ∙ ap (λ ns. get_or ns i 0) front
          ∙ nodes_figure (map (type_at xs) types) R.lower i (omega arith);
    }
