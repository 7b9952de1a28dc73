-- The tally of a check (02, F-4): what is claimed of the counts of type nodes that loading a program makes.
use Rattle.std.specs.Prelude.{ℕ, ◌≡◌, List, [], Result}
use package.Rattle.rules.specs.Term.{Program}
use package.Rattle.calls.specs.Answer.{Answer, accepted, refused}
use package.Rattle.calls.specs.Fields.{Layout, layout}
use package.Rattle.calls.specs.Entries.{entries_at}
use package.Rattle.calls.specs.Load.{load}
use package.Rattle.entries.specs.Tally.{no_counts, Tallied, NamedCounted}
use package.Rattle.answers.specs.declared.Refusal.{Refusal}
use package.Rattle.program.specs.declared.fields.Counts.{Counts}
use package.Rattle.loading.specs.declared.TalliedLoad.{TalliedLoad}

-- an answer of a check in which nothing is counted
pub record Untallied (r : TalliedLoad) (l : Result Counts Refusal) : Type 0 where
  pub answer : r.loaded ≡ l
  pub tally_zero : r.tally.counted ≡ 0
  pub counts_none : r.counts ≡ no_counts

-- the offsets of the type entries; of fields that are refused there are none
abbrev pub types_read : Answer Layout → List ℕ
types_read (accepted L) = L.types
types_read (refused n p) = []

-- Whatever is answered of the program `xs`, the tally equals the number of entries with a kept count, and each count is right or marked as over
-- 1,024; every type named in an accepted program has one.
pub record TallyMeans (r : TalliedLoad) (xs : List ℕ) : Type 0 where
  pub tallied : Tallied xs (types_read (layout xs)) r.counts r.tally
  pub named : (L : Layout) (P : Program) → layout xs ≡ accepted L → load xs ≡ accepted P → NamedCounted (entries_at xs L) r.counts
