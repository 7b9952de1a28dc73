-- What the code notes of entries, in arrays with one number an entry: how often each term is used, and the figures of types. What the
-- notes mean is said by the lists of calls/specs/Named.
use Rattle.std.specs.Prelude.{ℕ, ◌≤◌, ◌<◌, ◌≡◌, Bool, true, ◌&&◌, List, [], ◌∷◌, ◌++◌, length, get_or, take, eqb, ltb, leb}
use package.Rattle.rules.specs.Limits.{max_nodes}
use package.Rattle.calls.specs.Entries.{TypeEntry}
use package.Rattle.calls.specs.Named.{member, fresh}
use package.Rattle.calls.specs.Figures.{nodes_of, free_of, figures}
use package.Rattle.calls.specs.Closed.{Lower}

----------------------------------------------------------------
-- Uses of terms

-- `us` has a use of exactly the terms in `used`
pub record Marks (us used : List ℕ) : Type 0 where
  pub marked : (t : ℕ) → t < length us → member t used ≡ ltb 0 (get_or us t 0)

-- The answer is whether the terms `ts` were unused, and if so they are used now: `us` before, `us'` after.
pub record Used (us us' ts : List ℕ) (r : Bool) : Type 0 where
  pub answer : (used : List ℕ) → Marks us used → r ≡ fresh used ts
  pub marks : (used : List ℕ) → Marks us used → r ≡ true → Marks us' (ts ++ used)

----------------------------------------------------------------
-- Figures of types

-- `plain` by noted figures
unfoldable pub plain_in : List ℕ → List ℕ → ℕ → Bool
plain_in nodes free i = eqb (get_or free i 0) 0 && leb (get_or nodes i 0) max_nodes

unfoldable pub all_plain_in : List ℕ → List ℕ → List ℕ → Bool
unfolding plain_in
all_plain_in nodes free [] = true
all_plain_in nodes free (i ∷ is) = plain_in nodes free i && all_plain_in nodes free is

-- the fronts of the arrays have the figures of the entries `ys`, which each name lower ones
pub record Measured (ys : List TypeEntry) (nodes free : List ℕ) : Type 0 where
  pub types_lower : Lower ys
  pub nodes_front : take (length ys) nodes ≡ figures nodes_of [] ys
  pub free_front : take (length ys) free ≡ figures free_of [] ys
  pub nodes_room : length ys ≤ length nodes
  pub free_room : length ys ≤ length free
