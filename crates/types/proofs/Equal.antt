-- When two types are equal as trees, by the codes that theirs settle to and by the nodes of these; and the parts of a type have fewer nodes.
use Prim.Native.Nat.{ℕ, ◌<◌}
use native.Mathlib.Omega.{arith}
use mathlib.Core.Path.{◌≡◌, refl, sym, ap, ap₂, subst, ◌∙◌}
use mathlib.Core.Bool.{Bool, true, false, ◌&&◌}
use mathlib.Core.List.{List, map}
use lib.Dec.{eqb}
use package.Rattle.rules.specs.Ty.{Ty, nodes, is_unit, same_ty}
use package.Rattle.rules.proofs.Typing.Tests.{same_ty_refl, same_ty_eq}
use package.Rattle.calls.specs.Entries.{type_at, type_of}
use package.Rattle.types.specs.declared.codes.Code.{Code}
use package.Rattle.types.specs.declared.shapes.Shape.{Shape}
use package.Rattle.types.specs.declared.shapes.Shape.TheVariants as shape
use package.Rattle.types.specs.Codes.{entry_code, tree_in, Sources}
use package.Rattle.types.specs.Shapes.{shape_tree, plain_shape, Shaped, Settled}
use package.Rattle.types.proofs.Trees.{tree-entry}
use package.Rattle.types.proofs.Outer.{names_by}

-- trees that differ are not equal
pub differing : (a b : Ty) → ¬ (a ≡ b) → false ≡ same_ty a b
differing a b d = go (same_ty a b) refl
  where
    go : (r : Bool) → same_ty a b ≡ r → false ≡ r
    go true e = absurd (d (same_ty_eq a b e))
    go false e = refl

----------------------------------------------------------------
-- One type

-- the node of the code that its code settles to
pub node-of : {xs types heap : List ℕ} {top : ℕ} {c v : Code} {s : Shape} → Settled xs types heap top c v → s ≡ plain_shape xs types heap v
    → Shaped xs types heap top c s
node-of {xs} {types} {heap} {top} {c} S k = subst (Shaped xs types heap top c) (sym k) S.shaped

module _ {xs types heap : List ℕ} {top : ℕ} {c : Code} where
  pub unit-node : Shaped xs types heap top c shape.Unit → true ≡ is_unit (tree_in xs types heap c)
  unfolding shape_tree
  unit-node S = ap is_unit S.tree

  pub other-node : {s : Shape} → Shaped xs types heap top c s → ¬ (s ≡ shape.Unit) → false ≡ is_unit (tree_in xs types heap c)
  unfolding shape_tree
  other-node {s} S n = by s n ∙ ap is_unit S.tree
    where
      by : (s : Shape) → ¬ (s ≡ shape.Unit) → false ≡ is_unit (shape_tree (map (type_at xs) types) heap s)
      by shape.Unit n = absurd (n refl)
      by (shape.Product a b) n = refl
      by (shape.Sum a b) n = refl
      by (shape.Recursive a) n = refl
      by (shape.Variable k) n = refl

  -- the parts have fewer nodes
  module _ {a b : Code} where
    pub product-fewer : Shaped xs types heap top c (shape.Product a b)
        → (nodes (tree_in xs types heap a) < nodes (tree_in xs types heap c)) × (nodes (tree_in xs types heap b) < nodes (tree_in xs types heap c))
    unfolding shape_tree nodes
    product-fewer S = let e = ap nodes S.tree in (omega (arith, e), omega (arith, e))

    pub sum-fewer : Shaped xs types heap top c (shape.Sum a b)
        → (nodes (tree_in xs types heap a) < nodes (tree_in xs types heap c)) × (nodes (tree_in xs types heap b) < nodes (tree_in xs types heap c))
    unfolding shape_tree nodes
    sum-fewer S = let e = ap nodes S.tree in (omega (arith, e), omega (arith, e))

  pub recursive-fewer : {a : Code} → Shaped xs types heap top c (shape.Recursive a) → nodes (tree_in xs types heap a) < nodes (tree_in xs types heap c)
  unfolding shape_tree nodes
  recursive-fewer S = let e = ap nodes S.tree in omega (arith, e)

----------------------------------------------------------------
-- Two types

abbrev pub variant : Shape → ℕ
variant shape.Unit = 0
variant (shape.Product a b) = 1
variant (shape.Sum a b) = 2
variant (shape.Recursive a) = 3
variant (shape.Variable k) = 4

-- nodes of one kind, by what the other is not
module _ {s s' : Shape} where
  pub not-unit : s ≡ shape.Unit → ¬ (s' ≡ shape.Unit) → ¬ (variant s ≡ variant s')
  not-unit p n e = go s' n (sym (ap variant p) ∙ e)
    where
      go : (s' : Shape) → ¬ (s' ≡ shape.Unit) → ¬ (0 ≡ variant s')
      go shape.Unit n q = n refl
      go (shape.Product a b) n q = omega (arith, q)
      go (shape.Sum a b) n q = omega (arith, q)
      go (shape.Recursive a) n q = omega (arith, q)
      go (shape.Variable k) n q = omega (arith, q)

  pub not-product : {x y : Code} → s ≡ shape.Product x y → ((a b : Code) → ¬ (s' ≡ shape.Product a b)) → ¬ (variant s ≡ variant s')
  not-product p n e = go s' n (sym (ap variant p) ∙ e)
    where
      go : (s' : Shape) → ((a b : Code) → ¬ (s' ≡ shape.Product a b)) → ¬ (1 ≡ variant s')
      go shape.Unit n q = omega (arith, q)
      go (shape.Product a b) n q = n a b refl
      go (shape.Sum a b) n q = omega (arith, q)
      go (shape.Recursive a) n q = omega (arith, q)
      go (shape.Variable k) n q = omega (arith, q)

  pub not-sum : {x y : Code} → s ≡ shape.Sum x y → ((a b : Code) → ¬ (s' ≡ shape.Sum a b)) → ¬ (variant s ≡ variant s')
  not-sum p n e = go s' n (sym (ap variant p) ∙ e)
    where
      go : (s' : Shape) → ((a b : Code) → ¬ (s' ≡ shape.Sum a b)) → ¬ (2 ≡ variant s')
      go shape.Unit n q = omega (arith, q)
      go (shape.Product a b) n q = omega (arith, q)
      go (shape.Sum a b) n q = n a b refl
      go (shape.Recursive a) n q = omega (arith, q)
      go (shape.Variable k) n q = omega (arith, q)

  pub not-recursive : {x : Code} → s ≡ shape.Recursive x → ((a : Code) → ¬ (s' ≡ shape.Recursive a)) → ¬ (variant s ≡ variant s')
  not-recursive p n e = go s' n (sym (ap variant p) ∙ e)
    where
      go : (s' : Shape) → ((a : Code) → ¬ (s' ≡ shape.Recursive a)) → ¬ (3 ≡ variant s')
      go shape.Unit n q = omega (arith, q)
      go (shape.Product a b) n q = omega (arith, q)
      go (shape.Sum a b) n q = omega (arith, q)
      go (shape.Recursive a) n q = n a refl
      go (shape.Variable k) n q = omega (arith, q)

  pub not-variable : {x : ℕ} → s ≡ shape.Variable x → ((k : ℕ) → ¬ (s' ≡ shape.Variable k)) → ¬ (variant s ≡ variant s')
  not-variable p n e = go s' n (sym (ap variant p) ∙ e)
    where
      go : (s' : Shape) → ((k : ℕ) → ¬ (s' ≡ shape.Variable k)) → ¬ (4 ≡ variant s')
      go shape.Unit n q = omega (arith, q)
      go (shape.Product a b) n q = omega (arith, q)
      go (shape.Sum a b) n q = omega (arith, q)
      go (shape.Recursive a) n q = omega (arith, q)
      go (shape.Variable k) n q = n k refl

module _ {xs types heap : List ℕ} {top : ℕ} {c d : Code} where
  -- whose codes settle alike
  pub one_code : {v w : Code} → Settled xs types heap top c v → Settled xs types heap top d w → v ≡ w
      → true ≡ same_ty (tree_in xs types heap c) (tree_in xs types heap d)
  one_code S S' e = sym (same_ty_refl _) ∙ ap (same_ty (tree_in xs types heap c)) (sym S.tree ∙ ap (tree_in xs types heap) e ∙ S'.tree)

  -- that are entries of other numbers
  pub other-numbers : Sources xs types heap top → {v w : Code} → Settled xs types heap top c v → Settled xs types heap top d w → {i j : ℕ}
      → v ≡ entry_code i → w ≡ entry_code j → ¬ (v ≡ w) → false ≡ same_ty (tree_in xs types heap c) (tree_in xs types heap d)
  other-numbers S {v} {w} T T' {i} {j} p q n = differing _ _ λ same. n (p ∙ one same ∙ sym q)
    where
      trees : tree_in xs types heap c ≡ tree_in xs types heap d → type_of (map (type_at xs) types) i ≡ type_of (map (type_at xs) types) j
      trees same = sym (tree-entry (map (type_at xs) types) heap v p) ∙ T.tree ∙ same ∙ sym T'.tree ∙ tree-entry (map (type_at xs) types) heap w q

      one : tree_in xs types heap c ≡ tree_in xs types heap d → entry_code i ≡ entry_code j
      one same = ap entry_code (sym (T.own i p) ∙ S.figures.number_one i j (names_by p T.known) (names_by q T'.known) (trees same) ∙ T'.own j q)

  by_nodes : {s s' : Shape} → Shaped xs types heap top c s → Shaped xs types heap top d s' → {r : Bool}
      → r ≡ same_ty (shape_tree (map (type_at xs) types) heap s) (shape_tree (map (type_at xs) types) heap s')
      → r ≡ same_ty (tree_in xs types heap c) (tree_in xs types heap d)
  by_nodes S S' e = e ∙ ap₂ same_ty S.tree S'.tree

  pub units : Shaped xs types heap top c shape.Unit → Shaped xs types heap top d shape.Unit → true ≡ same_ty (tree_in xs types heap c) (tree_in xs types heap d)
  unfolding shape_tree same_ty
  units S S' = by_nodes S S' refl

  pub variables : {n m : ℕ} → Shaped xs types heap top c (shape.Variable n) → Shaped xs types heap top d (shape.Variable m)
      → eqb n m ≡ same_ty (tree_in xs types heap c) (tree_in xs types heap d)
  unfolding shape_tree same_ty
  variables S S' = by_nodes S S' refl

  pub recursives : {a b : Code} → Shaped xs types heap top c (shape.Recursive a) → Shaped xs types heap top d (shape.Recursive b) → {r : Bool}
      → r ≡ same_ty (tree_in xs types heap a) (tree_in xs types heap b) → r ≡ same_ty (tree_in xs types heap c) (tree_in xs types heap d)
  unfolding shape_tree same_ty
  recursives S S' e = by_nodes S S' e

  module _ {a b a' b' : Code} {r : Bool} (p : r ≡ same_ty (tree_in xs types heap a) (tree_in xs types heap a')) where
    pub products_differ : Shaped xs types heap top c (shape.Product a b) → Shaped xs types heap top d (shape.Product a' b') → r ≡ false
        → false ≡ same_ty (tree_in xs types heap c) (tree_in xs types heap d)
    unfolding shape_tree same_ty
    products_differ S S' f = by_nodes S S' (ap (λ x. x && same_ty (tree_in xs types heap b) (tree_in xs types heap b')) (sym f ∙ p))

    pub sums_differ : Shaped xs types heap top c (shape.Sum a b) → Shaped xs types heap top d (shape.Sum a' b') → r ≡ false
        → false ≡ same_ty (tree_in xs types heap c) (tree_in xs types heap d)
    unfolding shape_tree same_ty
    sums_differ S S' f = by_nodes S S' (ap (λ x. x && same_ty (tree_in xs types heap b) (tree_in xs types heap b')) (sym f ∙ p))

    module _ (t : r ≡ true) {r' : Bool} (q : r' ≡ same_ty (tree_in xs types heap b) (tree_in xs types heap b')) where
      pub products : Shaped xs types heap top c (shape.Product a b) → Shaped xs types heap top d (shape.Product a' b')
          → r' ≡ same_ty (tree_in xs types heap c) (tree_in xs types heap d)
      unfolding shape_tree same_ty
      products S S' = by_nodes S S' (q ∙ ap (λ x. x && same_ty (tree_in xs types heap b) (tree_in xs types heap b')) (sym t ∙ p))

      pub sums : Shaped xs types heap top c (shape.Sum a b) → Shaped xs types heap top d (shape.Sum a' b')
          → r' ≡ same_ty (tree_in xs types heap c) (tree_in xs types heap d)
      unfolding shape_tree same_ty
      sums S S' = by_nodes S S' (q ∙ ap (λ x. x && same_ty (tree_in xs types heap b) (tree_in xs types heap b')) (sym t ∙ p))

  -- whose nodes are of other kinds
  pub others : {s s' : Shape} → Shaped xs types heap top c s → Shaped xs types heap top d s' → ¬ (variant s ≡ variant s')
      → false ≡ same_ty (tree_in xs types heap c) (tree_in xs types heap d)
  unfolding shape_tree same_ty
  others {s} {s'} S S' n = by_nodes S S' (by s s' n)
    where
      by : (s s' : Shape) → ¬ (variant s ≡ variant s')
          → false ≡ same_ty (shape_tree (map (type_at xs) types) heap s) (shape_tree (map (type_at xs) types) heap s')
      by shape.Unit shape.Unit n = absurd (n refl)
      by shape.Unit (shape.Product a b) n = refl
      by shape.Unit (shape.Sum a b) n = refl
      by shape.Unit (shape.Recursive a) n = refl
      by shape.Unit (shape.Variable k) n = refl
      by (shape.Product x y) shape.Unit n = refl
      by (shape.Product x y) (shape.Product a b) n = absurd (n refl)
      by (shape.Product x y) (shape.Sum a b) n = refl
      by (shape.Product x y) (shape.Recursive a) n = refl
      by (shape.Product x y) (shape.Variable k) n = refl
      by (shape.Sum x y) shape.Unit n = refl
      by (shape.Sum x y) (shape.Product a b) n = refl
      by (shape.Sum x y) (shape.Sum a b) n = absurd (n refl)
      by (shape.Sum x y) (shape.Recursive a) n = refl
      by (shape.Sum x y) (shape.Variable k) n = refl
      by (shape.Recursive x) shape.Unit n = refl
      by (shape.Recursive x) (shape.Product a b) n = refl
      by (shape.Recursive x) (shape.Sum a b) n = refl
      by (shape.Recursive x) (shape.Recursive a) n = absurd (n refl)
      by (shape.Recursive x) (shape.Variable k) n = refl
      by (shape.Variable x) shape.Unit n = refl
      by (shape.Variable x) (shape.Product a b) n = refl
      by (shape.Variable x) (shape.Sum a b) n = refl
      by (shape.Variable x) (shape.Recursive a) n = refl
      by (shape.Variable x) (shape.Variable k) n = absurd (n refl)
