-- Cases of the tally (02, F-4), gathered in one proposition: section 6's five types, and types at the limit of 1,024 nodes and past it.
use Rattle.std.specs.Prelude.{ℕ, zero, suc, ◌-◌, ◌≡◌, List, [], ◌∷◌, ◌++◌, map, length, replicate}
use package.Rattle.rules.specs.Limits.{max_types}
use package.Rattle.calls.specs.Answer.{accepted}
use package.Rattle.calls.specs.Fields.{Layout, layout}
use package.Rattle.calls.specs.Entries.{TypeEntry, type_at, type_of, entries_at}
use package.Rattle.calls.specs.Figures.{nodes_of, figures}
use package.Rattle.calls.specs.Cases.{nat_types}
use package.Rattle.calls.specs.Borders.{doubled, big_types}
use package.Rattle.entries.specs.Tally.{TallyOf, count_of, Tallied, NamedCounted}
use package.Rattle.entries.specs.declared.measures.Tally.{Tally}

-- the counts of the trees of so many entries, from entry `i` on
unfoldable pub counts_from : ℕ → ℕ → List TypeEntry → List ℕ
counts_from zero i ys = []
counts_from (suc n) i ys = count_of (type_of ys i) ∷ counts_from n (suc i) ys

-- where the fields of a program of types alone stand
abbrev pub only_types : List ℕ → Layout
only_types offsets = record { types = offsets; terms = []; functions = [] }

-- A program of types alone, with its fields at these offsets: the counts of its entries, and the tally of a check.
pub record CountedSo (xs offsets counts : List ℕ) (n : ℕ) : Type 0 where
  pub read : layout xs ≡ accepted (only_types offsets)
  -- made one after another, each from those before it
  pub made : figures nodes_of [] (map (type_at xs) offsets) ≡ counts
  -- each is that of the entry's tree
  pub right : counts_from (length offsets) 0 (map (type_at xs) offsets) ≡ counts
  -- they stand at the front of the table, zeros behind them
  pub table : TallyOf (counts ++ replicate (max_types - length counts) 0) (record { counted = n })
  -- a check by which the promise is kept answers no other tally, whatever its table
  pub only : (ns : List ℕ) (t : Tally) → Tallied xs offsets ns t → NamedCounted (entries_at xs (only_types offsets)) ns → t.counted ≡ n

pub record TallyTable : Type 0 where
  pub section_6 : CountedSo nat_types (0 ∷ 4 ∷ 9 ∷ 17 ∷ 23 ∷ []) (1 ∷ 1 ∷ 3 ∷ 4 ∷ 6 ∷ []) 5
  -- a unit, then products of the one before twice: the last two would have 2,047 and 4,095 nodes, and are marked
  pub over : CountedSo (doubled 11) (0 ∷ 4 ∷ 12 ∷ 20 ∷ 28 ∷ 36 ∷ 44 ∷ 52 ∷ 60 ∷ 68 ∷ 76 ∷ 84 ∷ [])
      (1 ∷ 3 ∷ 7 ∷ 15 ∷ 31 ∷ 63 ∷ 127 ∷ 255 ∷ 511 ∷ 1023 ∷ 1025 ∷ 1025 ∷ []) 12
  -- entries 10 and 13 have 1,024 nodes, which is a count and no mark
  pub limit : CountedSo big_types (0 ∷ 4 ∷ 12 ∷ 20 ∷ 28 ∷ 36 ∷ 44 ∷ 52 ∷ 60 ∷ 68 ∷ 76 ∷ 82 ∷ 88 ∷ 94 ∷ [])
      (1 ∷ 3 ∷ 7 ∷ 15 ∷ 31 ∷ 63 ∷ 127 ∷ 255 ∷ 511 ∷ 1023 ∷ 1024 ∷ 1025 ∷ 512 ∷ 1024 ∷ []) 14
