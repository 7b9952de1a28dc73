-- Laws of the trees of codes: by form; of a product node from its parts.
use Prim.Native.Nat.{ℕ, zero, suc, ◌<◌}
use native.Mathlib.Omega.{arith}
use mathlib.Core.Path.{◌≡◌, refl, ap₂}
use mathlib.Core.List.{List}
use package.Rattle.rules.specs.Ty.{Ty, one, prod}
use package.Rattle.calls.specs.Entries.{TypeEntry, type_of}
use package.Rattle.types.specs.declared.codes.Code.{Code}
use package.Rattle.types.specs.declared.codes.Code.TheVariants as code
use package.Rattle.types.specs.Figures.{closed_by}
use package.Rattle.types.specs.Codes.{unit_code, entry_code, under_code, product_code, left_at, right_at}
use package.Rattle.types.specs.Codes.{of_code, product_within, product_at, tree_of, Names, Known, Products}

----------------------------------------------------------------
-- By form

module _ (ys : List TypeEntry) (heap : List ℕ) (c : Code) where
  pub tree-unit : c ≡ unit_code → tree_of ys heap c ≡ one
  unfolding tree_of of_code
  tree-unit e = rw e

  pub tree-entry : {i : ℕ} → c ≡ entry_code i → tree_of ys heap c ≡ type_of ys i
  unfolding tree_of of_code
  tree-entry e = rw e

  pub tree-under : {i j : ℕ} → c ≡ under_code i j → tree_of ys heap c ≡ closed_by (type_of ys j) (type_of ys i)
  unfolding tree_of of_code
  tree-under e = rw e

  pub tree-product : {n : ℕ} → c ≡ product_code n → tree_of ys heap c ≡ product_at ys heap n
  unfolding tree_of of_code
  tree-product e = rw e

----------------------------------------------------------------
-- Product nodes

-- trees agree if those of the product nodes that the code may name do
pub code_agrees : (ys : List TypeEntry) (go go' : ℕ → Ty) {n top : ℕ} {c : Code} → Known n top c → ((k : ℕ) → k < top → go k ≡ go' k)
    → of_code ys go c ≡ of_code ys go' c
unfolding of_code
code_agrees ys go go' {n} {top} {c} K s = by c K.names
  where
    by : (c : Code) → Names n top c → of_code ys go c ≡ of_code ys go' c
    by code.Unit h = refl
    by (code.Entry i) h = refl
    by (code.Under i j) h = refl
    by (code.Product k) h = s k h

module _ {ys : List TypeEntry} {n : ℕ} {heap : List ℕ} {top : ℕ} (P : Products ys n heap top) where
  -- a bound that is enough is as good as another
  pub enough : (d d' k : ℕ) → k < top → k < d → k < d' → product_within d ys heap k ≡ product_within d' ys heap k
  unfolding product_within
  enough zero d' k t p q = absurd (omega arith)
  enough (suc d) zero k t p q = absurd (omega arith)
  enough (suc d) (suc d') k t p q =
      ap₂ prod
      (code_agrees ys _ _ (P.node k t).left λ j l. enough d d' j (omega arith) (omega arith) (omega arith))
      (code_agrees ys _ _ (P.node k t).right λ j l. enough d d' j (omega arith) (omega arith) (omega arith))

  pub product-parts : (k : ℕ) → k < top → product_at ys heap k ≡ prod (tree_of ys heap (left_at heap k)) (tree_of ys heap (right_at heap k))
  unfolding product_at product_within tree_of
  product-parts k t =
      ap₂ prod
      (code_agrees ys _ _ (P.node k t).left λ j l. enough k (suc j) j (omega arith) l (omega arith))
      (code_agrees ys _ _ (P.node k t).right λ j l. enough k (suc j) j (omega arith) l (omega arith))
