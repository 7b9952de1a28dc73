-- What is kept of each type entry (02, F-4), made once, bottom up, so that nothing is counted while types are compared: a canonical number,
-- which entries that are equal as trees share; what the nodes of an unfolding follow from; and an entry that a part of an unfolding is equal to, if
-- one was found. Laws: proofs/Closing, Figuring.
use Rattle.std.specs.Prelude.{ℕ, suc, ◌+◌, ◌*◌, ◌<◌, ◌≤◌, pred, min, ◌≡◌, cond, List, length, eqb, Option, Some, None}
use package.Rattle.octets.specs.Numbers.{get16}
use package.Rattle.rules.specs.Ty.{Ty, one, prod, sum, mu, tyvar, plug}
use package.Rattle.calls.specs.Entries.{TypeEntry, type_of}
use package.Rattle.calls.specs.Figures.{ceiling, free}
use package.Rattle.types.specs.Layout.{figure_bytes, figures_from, typing_bytes}

----------------------------------------------------------------
-- The outermost free variable

-- how often variable `n` stands in the type
unfoldable pub occurs : ℕ → Ty → ℕ
occurs n one = 0
occurs n (prod a b) = occurs n a + occurs n b
occurs n (sum a b) = occurs n a + occurs n b
occurs n (mu a) = occurs (suc n) a
occurs n (tyvar m) = cond (eqb m n) 1 0

-- the same of the outermost free variable; 0 of a closed type
unfoldable pub outer : Ty → ℕ
outer a = occurs (pred (free a)) a

-- `c` put for the outermost free variable: where `mu a` is closed, that is what it unfolds to for `c` the whole
unfoldable pub closed_by : Ty → Ty → Ty
closed_by c a = plug c (pred (free a)) a

----------------------------------------------------------------
-- In lent bytes

unfoldable pub number_at : List ℕ → ℕ → ℕ
number_at heap i = get16 heap (figures_from + figure_bytes * i)

unfoldable pub free_at : List ℕ → ℕ → ℕ
free_at heap i = get16 heap (figures_from + figure_bytes * i + 2)

unfoldable pub outer_at : List ℕ → ℕ → ℕ
outer_at heap i = get16 heap (figures_from + figure_bytes * i + 4)

-- one more than the entry that stands for the outermost free variable in the alias; 0 if there is none
unfoldable pub stand_at : List ℕ → ℕ → ℕ
stand_at heap i = get16 heap (figures_from + figure_bytes * i + 6)

unfoldable pub alias_at : List ℕ → ℕ → ℕ
alias_at heap i = get16 heap (figures_from + figure_bytes * i + 8)

-- the alias of entry `i` for entry `j`, if one is kept
unfoldable pub alias_for : List ℕ → ℕ → ℕ → Option ℕ
alias_for heap i j = cond (eqb (stand_at heap i) (j + 1)) (Some (alias_at heap i)) None

-- Entry `i`, its outermost free variable standing for entry `j`, is equal as a tree to the entry that is its alias.
pub record Alias (ys : List TypeEntry) (heap : List ℕ) (n i j : ℕ) : Type 0 where
  pub stands : j < n
  pub there : alias_at heap i < n
  pub tree : type_of ys (alias_at heap i) ≡ closed_by (type_of ys j) (type_of ys i)

-- The first `n` entries have their figures. An entry's number is that of an entry which is equal to it as a tree, and entries that are equal as
-- trees have one number. An alias is right; there need not be one.
pub record Figured (ys : List TypeEntry) (heap : List ℕ) (n : ℕ) : Type 0 where
  pub held : typing_bytes ≤ length heap
  pub number_lower : (i : ℕ) → i < n → number_at heap i ≤ i
  pub number_tree : (i : ℕ) → i < n → type_of ys (number_at heap i) ≡ type_of ys i
  pub number_one : (i j : ℕ) → i < n → j < n → type_of ys i ≡ type_of ys j → number_at heap i ≡ number_at heap j
  pub free_is : (i : ℕ) → i < n → free_at heap i ≡ free (type_of ys i)
  pub outer_is : (i : ℕ) → i < n → outer_at heap i ≡ min ceiling (outer (type_of ys i))
  pub alias_is : (i j : ℕ) → i < n → stand_at heap i ≡ suc j → Alias ys heap n i j
