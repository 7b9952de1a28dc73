-- What typing asks of a type (rules/specs/Check), answered by the outermost node of its code.
use Prim.Native.Nat.{ℕ}
use mathlib.Core.Path.{◌≡◌, refl, sym, ap, ◌∙◌}
use mathlib.Core.List.{List, map}
use package.Rattle.rules.specs.Ty.{Ty, prod, sum}
use package.Rattle.rules.specs.Check.{Site, Checked, bad, as_sum, as_prod}
use package.Rattle.calls.specs.Entries.{type_at}
use package.Rattle.types.specs.declared.codes.Code.{Code}
use package.Rattle.types.specs.declared.shapes.Shape.{Shape}
use package.Rattle.types.specs.declared.shapes.Shape.TheVariants as shape
use package.Rattle.types.specs.Codes.{tree_in}
use package.Rattle.types.specs.Shapes.{shape_tree, Shaped}

module _ {xs types heap : List ℕ} {top : ℕ} {c : Code} where
  module _ {a b : Code} where
    pub sum-tree : Shaped xs types heap top c (shape.Sum a b) → tree_in xs types heap c ≡ sum (tree_in xs types heap a) (tree_in xs types heap b)
    unfolding shape_tree
    sum-tree S = sym S.tree

    pub product-tree : Shaped xs types heap top c (shape.Product a b) → tree_in xs types heap c ≡ prod (tree_in xs types heap a) (tree_in xs types heap b)
    unfolding shape_tree
    product-tree S = sym S.tree

    module _ {A : Type 0} (at : Site) (f : Ty → Ty → Checked A) where
      pub a_sum : Shaped xs types heap top c (shape.Sum a b) → as_sum at (tree_in xs types heap c) f ≡ f (tree_in xs types heap a) (tree_in xs types heap b)
      unfolding as_sum
      a_sum S = rw (sum-tree S)

      pub a-product : Shaped xs types heap top c (shape.Product a b)
          → as_prod at (tree_in xs types heap c) f ≡ f (tree_in xs types heap a) (tree_in xs types heap b)
      unfolding as_prod
      a-product S = rw (product-tree S)

  module _ {s : Shape} (S : Shaped xs types heap top c s) {A : Type 0} (at : Site) (f : Ty → Ty → Checked A) where
    pub no-sum : ((a b : Code) → ¬ (s ≡ shape.Sum a b)) → as_sum at (tree_in xs types heap c) f ≡ bad 6 at
    unfolding shape_tree as_sum
    no-sum n = ap (λ t. as_sum at t f) (sym S.tree) ∙ by s n
      where
        by : (s : Shape) → ((a b : Code) → ¬ (s ≡ shape.Sum a b)) → as_sum at (shape_tree (map (type_at xs) types) heap s) f ≡ bad 6 at
        by shape.Unit n = refl
        by (shape.Product a b) n = refl
        by (shape.Sum a b) n = absurd (n a b refl)
        by (shape.Recursive a) n = refl
        by (shape.Variable k) n = refl

    pub no-product : ((a b : Code) → ¬ (s ≡ shape.Product a b)) → as_prod at (tree_in xs types heap c) f ≡ bad 6 at
    unfolding shape_tree as_prod
    no-product n = ap (λ t. as_prod at t f) (sym S.tree) ∙ by s n
      where
        by : (s : Shape) → ((a b : Code) → ¬ (s ≡ shape.Product a b)) → as_prod at (shape_tree (map (type_at xs) types) heap s) f ≡ bad 6 at
        by shape.Unit n = refl
        by (shape.Product a b) n = absurd (n a b refl)
        by (shape.Sum a b) n = refl
        by (shape.Recursive a) n = refl
        by (shape.Variable k) n = refl
