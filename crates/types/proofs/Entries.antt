-- The figures of an entry, by the kind in its field; and looking for a key.
use Prim.Native.Nat.{ℕ, ◌<◌, ◌≤◌}
use native.Mathlib.Omega.{arith}
use mathlib.Core.Path.{◌≡◌, refl, sym, ap, ap₂, ◌∙◌}
use mathlib.Core.Bool.{true}
use mathlib.Core.List.{List, [], ◌∷◌}
use Rattle.std.specs.Prelude.{Option, Some, None, IfSome}
use package.Rattle.rules.specs.Limits.{max_types}
use package.Rattle.calls.specs.Fields.{kind_at}
use package.Rattle.calls.specs.Entries.{type_at}
use package.Rattle.calls.specs.Named.{below, types_of_type}
use package.Rattle.calls.proofs.Entries.{below-head}
use package.Rattle.program.specs.Parts.{first, second, variable}
use package.Rattle.program.specs.Kinds.{product_kind, sum_kind}
use package.Rattle.program.proofs.Shapes.{type-unit, type-prod, type-sum, type-mu, type-var}
use package.Rattle.types.specs.declared.numbering.Figure.{Figure}
use package.Rattle.types.specs.Numbering.{figure_is, two_of, recursive_of, bound_of, figure_of, Finds}

----------------------------------------------------------------
-- By the kind in the field at `at`

module _ (heap xs : List ℕ) (at : ℕ) where
  pub unit_figure : 0 ≡ kind_at xs at → figure_is 0 0 0 ≡ figure_of heap (type_at xs at)
  unfolding figure_of
  unit_figure g = rw (type-unit xs at (sym g))

  module _ {a b : ℕ} (p : a ≡ first xs at) (q : b ≡ second xs at) {r : Figure} where
    pub product_figure : 1 ≡ kind_at xs at → r ≡ two_of heap product_kind a b → r ≡ figure_of heap (type_at xs at)
    unfolding figure_of
    product_figure g e = e ∙ ap₂ (two_of heap product_kind) p q ∙ rw (type-prod xs at (sym g))

    pub sum_figure : 2 ≡ kind_at xs at → r ≡ two_of heap sum_kind a b → r ≡ figure_of heap (type_at xs at)
    unfolding figure_of
    sum_figure g e = e ∙ ap₂ (two_of heap sum_kind) p q ∙ rw (type-sum xs at (sym g))

  pub recursive_figure : 3 ≡ kind_at xs at → {a : ℕ} {r : Figure} → a ≡ first xs at → r ≡ recursive_of heap a → r ≡ figure_of heap (type_at xs at)
  unfolding figure_of
  recursive_figure g p e = e ∙ ap (recursive_of heap) p ∙ rw (type-mu xs at (sym g))

  pub bound_figure : 4 ≡ kind_at xs at → {k : ℕ} {r : Figure} → k ≡ variable xs at → r ≡ bound_of k → r ≡ figure_of heap (type_at xs at)
  unfolding figure_of
  bound_figure g p e = e ∙ ap bound_of p ∙ rw (type-var xs at (omega (arith, g)))

  -- what is named is a type entry
  module _ (e : below max_types (types_of_type (type_at xs at)) ≡ true) where
    split : below max_types (first xs at ∷ second xs at ∷ []) ≡ true → (first xs at < max_types) × (second xs at < max_types)
    split e = ((below-head max_types (first xs at) _ e).0, (below-head max_types (second xs at) [] (below-head max_types (first xs at) _ e).1).0)

    pub product-asked : 1 ≡ kind_at xs at → (first xs at < max_types) × (second xs at < max_types)
    unfolding types_of_type
    product-asked g = split (rw (type-prod xs at (sym g)) at e)

    pub sum-asked : 2 ≡ kind_at xs at → (first xs at < max_types) × (second xs at < max_types)
    unfolding types_of_type
    sum-asked g = split (rw (type-sum xs at (sym g)) at e)

    pub recursive-asked : 3 ≡ kind_at xs at → first xs at < max_types
    unfolding types_of_type
    recursive-asked g = (below-head max_types (first xs at) [] (rw (type-mu xs at (sym g)) at e)).0

----------------------------------------------------------------
-- Looking for a key

-- a key is found among those of entries
pub found-few : {keys : List ℕ} {n key : ℕ} (r : Option ℕ) → Finds keys n key r → n ≤ max_types → IfSome r (λ k. k < max_types)
found-few None D h = tt
found-few (Some k) D h = omega (arith, (D.there k refl).0)
