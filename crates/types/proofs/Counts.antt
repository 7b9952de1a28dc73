-- Laws of counts that stop one above the limit: by the form of a code, from what is kept (02, F-4).
use Prim.Native.Nat.{ℕ, ◌+◌, ◌*◌, ◌-◌, ◌<◌, ◌≤◌, min}
use native.Mathlib.Omega.{arith}
use native.Mathlib.Decide.{dec_lt}
use mathlib.Core.Path.{◌≡◌, refl, sym, ap, ◌∙◌}
use mathlib.Core.List.{List, map}
use lib.ListN.{length, get_or}
use lib.Dec.{leb}
use borrow.Author.Tests.{le-leb, lt-leb}
use package.Rattle.rules.specs.Limits.{max_nodes}
use package.Rattle.rules.specs.Ty.{nodes}
use package.Rattle.calls.specs.Entries.{type_at, type_of}
use package.Rattle.calls.specs.Figures.{ceiling}
use package.Rattle.types.specs.Figures.{outer_at}
use package.Rattle.types.specs.Codes.{unit_code, entry_code, under_code, product_code, count_at, of_code, tree_of, tree_in, Sources}
use package.Rattle.types.specs.Counts.{Counted}
use package.Rattle.types.proofs.Closing.{one-at-least, closed-counted}
use package.Rattle.types.proofs.Trees.{tree-under, tree-product}

----------------------------------------------------------------
-- Counting that stops

pub stops : (n : ℕ) → max_nodes < n → max_nodes + 1 ≡ min ceiling n
unfolding ceiling
stops n h = omega arith

pub goes_on : (n : ℕ) → n ≤ max_nodes → n ≡ min ceiling n
unfolding ceiling
goes_on n h = omega arith

----------------------------------------------------------------
-- By form

module _ {xs types heap counts : List ℕ} {top : ℕ} (S : Sources xs types heap top) (C : Counted xs types counts) where
  pub unit-counted : 1 ≡ min ceiling (nodes (tree_in xs types heap unit_code))
  unfolding nodes ceiling tree_of of_code
  unit-counted = refl

  pub entry-counted : (i : ℕ) → i < length types → get_or counts i 0 ≡ min ceiling (nodes (tree_in xs types heap (entry_code i)))
  unfolding tree_of of_code
  entry-counted i l = C.count i l

  pub product-counted : (n : ℕ) → n < top → count_at heap n ≡ min ceiling (nodes (tree_in xs types heap (product_code n)))
  unfolding ceiling
  product-counted n l =
      let N = S.products.node n l in
      omega (arith, N.count, N.small, ap nodes (tree-product (map (type_at xs) types) heap (product_code n) refl))

  -- with a variable that stands for an entry
  module _ (i j : ℕ) (l : i < length types) (m : j < length types) where
    pub under-each : (j < length counts) × (1 ≤ get_or counts j 0) × (get_or counts j 0 ≤ ceiling)
    unfolding ceiling
    under-each = (
      omega (arith, C.held),
      omega (arith, C.count j m, one-at-least (type_of (map (type_at xs) types) j)),
      omega (arith, C.count j m),
    )

    pub under-counted : {r : ℕ} → r ≡ min ceiling (get_or counts i 0 + outer_at heap i * (get_or counts j 0 - 1))
        → r ≡ min ceiling (nodes (tree_in xs types heap (under_code i j)))
    under-counted q =
        q
        ∙ closed-counted (type_of (map (type_at xs) types) j) (type_of (map (type_at xs) types) i) (C.count i l) (S.figures.outer_is i l) (C.count j m)
        ∙ ap (λ t. min ceiling (nodes t)) (sym (tree-under (map (type_at xs) types) heap (under_code i j) refl))

----------------------------------------------------------------
-- The limit

-- counting that stops one above the limit decides it
pub limit-decided : (n : ℕ) {m : ℕ} → m ≡ min ceiling n → leb m max_nodes ≡ leb n max_nodes
unfolding ceiling
limit-decided n {m} e = go (dec_lt max_nodes n)
  where
    go : Dec (max_nodes < n) → leb m max_nodes ≡ leb n max_nodes
    go (yes l) = lt-leb m max_nodes (omega arith) ∙ sym (lt-leb n max_nodes l)
    go (no l) = le-leb m max_nodes (omega arith) ∙ sym (le-leb n max_nodes (omega arith))
