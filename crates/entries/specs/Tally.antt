-- The tally of counts (02, F-4). Checking counts the nodes of a type entry at most once. A table keeps the counts, and the tally is raised at each.
-- In order: what a table keeps, one count, the counts of a check, the types that a program names.
use Rattle.std.specs.Prelude.{ℕ, zero, suc, ◌<◌, min, ◌≡◌, true, List, [], ◌∷◌, map, length, get_or, set, replicate}
use Rattle.std.proofs.Math.Option.{some}
use package.Rattle.rules.specs.Limits.{max_types}
use package.Rattle.rules.specs.Ty.{Ty, nodes}
use package.Rattle.rules.specs.Term.{nth}
use package.Rattle.calls.specs.Entries.{y_unit, type_at, type_of, n_unit, FunctionEntry, Entries}
use package.Rattle.calls.specs.Named.{types_of_type, types_of_term, types_of_function, member}
use package.Rattle.calls.specs.Figures.{ceiling, nodes_of}
use package.Rattle.entries.specs.declared.measures.Tally.{Tally}

----------------------------------------------------------------
-- The table

-- the entry has a kept count: a type has a node at least, so 0 says that there is none
abbrev pub HasCount : List ℕ → ℕ → Type 0
HasCount counts i = 0 < get_or counts i 0

-- the number of entries with a kept count
unfoldable pub kept : List ℕ → ℕ
kept [] = 0
kept (zero ∷ ns) = kept ns
kept (suc n ∷ ns) = suc (kept ns)

-- a table in which no count is kept
abbrev pub no_counts : List ℕ
no_counts = replicate max_types 0

-- a table with a place for each type entry, and its tally: the number of entries with a kept count
pub record TallyOf (counts : List ℕ) (t : Tally) : Type 0 where
  pub equals : t.counted ≡ kept counts
  pub sized : length counts ≡ max_types

----------------------------------------------------------------
-- One count

-- an entry with a place in the table and no kept count, so that it is counted at most once
pub record Uncounted (counts : List ℕ) (i : ℕ) : Type 0 where
  pub place : i < length counts
  pub none : get_or counts i 0 ≡ 0

-- The nodes of type entry `i` at `at` are counted: `counts` and `t` before, `counts'` and `t'` after.
pub record CountMade (xs : List ℕ) (at i : ℕ) (counts counts' : List ℕ) (t t' : Tally) : Type 0 where
  pub keeps : counts' ≡ set counts i (nodes_of counts (type_at xs at))
  pub raises : t'.counted ≡ suc t.counted
  pub tally : TallyOf counts' t'

----------------------------------------------------------------
-- The counts of a check

-- the count of a type: its nodes, or the mark that they are over 1,024
unfoldable pub count_of : Ty → ℕ
count_of τ = min ceiling (nodes τ)

-- What a check of the program `xs`, with its type entries at these offsets, leaves, whether it is accepted or refused: the tally equals the number of
-- entries with a kept count, and each count is right or marked as over 1,024.
pub record Tallied (xs types counts : List ℕ) (t : Tally) : Type 0 where
  pub equals : t.counted ≡ kept counts
  pub right : (i : ℕ) → HasCount counts i → (i < length types) × (get_or counts i 0 ≡ count_of (type_of (map (type_at xs) types) i))

----------------------------------------------------------------
-- The types that a program names

-- each of these types has a kept count
abbrev pub AllCounted : List ℕ → List ℕ → Type 0
AllCounted counts is = (i : ℕ) → member i is ≡ true → HasCount counts i

-- every type entry has a kept count, and so has every type that an entry names
pub record NamedCounted (E : Entries) (counts : List ℕ) : Type 0 where
  pub each : (i : ℕ) → i < length E.types → HasCount counts i
  pub by_type : (i : ℕ) → i < length E.types → AllCounted counts (types_of_type (get_or E.types i y_unit))
  pub by_term : (k : ℕ) → k < length E.terms → AllCounted counts (types_of_term (get_or E.terms k n_unit))
  pub by_function : (g : ℕ) (h : FunctionEntry) → nth E.functions g ≡ some h → AllCounted counts (types_of_function h)
