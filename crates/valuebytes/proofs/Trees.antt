-- The trees of type entries that were read, by the kind in the field, and that an entry names lower ones.
use Prim.Native.Nat.{ℕ, zero, suc, ◌≤◌, ◌<◌}
use native.Mathlib.Omega.{arith}
use mathlib.Core.Path.{◌≡◌, refl, ap, subst, ◌∙◌}
use mathlib.Core.Bool.{true}
use mathlib.Core.List.{List, [], ◌∷◌, map}
use lib.ListN.{length, get_or}
use package.Rattle.rules.specs.Ty.{one, prod, sum, mu, tyvar}
use package.Rattle.rules.proofs.Basics.{given}
use package.Rattle.calls.specs.Fields.{kind_at}
use package.Rattle.calls.specs.Entries.{TypeEntry, y_unit, type_at, type_tree, type_of}
use package.Rattle.calls.specs.Named.{types_of_type, below}
use package.Rattle.calls.proofs.Entries.{below-head, type-unfolds}
use package.Rattle.program.specs.Parts.{variable, first, second}
use package.Rattle.program.proofs.Shapes.{type-unit, type-prod, type-sum, type-mu, type-var}
use package.Rattle.program.specs.Kinds.{unit_type_kind, product_kind, sum_kind, recursive_kind}
use package.Rattle.valuebytes.specs.Typing.{entries_of, TypesRead}

get_d_map : {A B : Type 0} (f : A → B) (l : List A) (a : A) (b : B) (i : ℕ) → i < length l → get_or (map f l) i b ≡ f (get_or l i a)
get_d_map f [] a b i h = absurd (omega arith)
get_d_map f (x ∷ l) a b zero h = refl
get_d_map f (x ∷ l) a b (suc i) h = get_d_map f l a b i (omega arith)

module _ (xs os : List ℕ) (T : TypesRead xs os) (i : ℕ) (l : i < length os) where
  entry_at : get_or (entries_of xs os) i y_unit ≡ type_at xs (get_or os i 0)
  entry_at = get_d_map (type_at xs) os 0 y_unit i l

  tree_by : {y : TypeEntry} → type_at xs (get_or os i 0) ≡ y → type_of (entries_of xs os) i ≡ type_tree (type_of (entries_of xs os)) y
  tree_by e = type-unfolds (entries_of xs os) T.lower i ∙ ap (type_tree (type_of (entries_of xs os))) (entry_at ∙ e)

  names_by : {y : TypeEntry} → type_at xs (get_or os i 0) ≡ y → below i (types_of_type y) ≡ true
  names_by e = subst (λ y. below i (types_of_type y) ≡ true) (entry_at ∙ e) (T.lower i)

  ----------------------------------------------------------------
  -- By kind

  pub tree-unit : kind_at xs (get_or os i 0) ≡ unit_type_kind → type_of (entries_of xs os) i ≡ one
  unfolding type_tree
  tree-unit e = tree_by (type-unit xs (get_or os i 0) e)

  pub tree-prod : kind_at xs (get_or os i 0) ≡ product_kind
      → type_of (entries_of xs os) i ≡ prod (type_of (entries_of xs os) (first xs (get_or os i 0))) (type_of (entries_of xs os) (second xs (get_or os i 0)))
  unfolding type_tree
  tree-prod e = tree_by (type-prod xs (get_or os i 0) e)

  pub tree-sum : kind_at xs (get_or os i 0) ≡ sum_kind
      → type_of (entries_of xs os) i ≡ sum (type_of (entries_of xs os) (first xs (get_or os i 0))) (type_of (entries_of xs os) (second xs (get_or os i 0)))
  unfolding type_tree
  tree-sum e = tree_by (type-sum xs (get_or os i 0) e)

  pub tree-mu : kind_at xs (get_or os i 0) ≡ recursive_kind → type_of (entries_of xs os) i ≡ mu (type_of (entries_of xs os) (first xs (get_or os i 0)))
  unfolding type_tree
  tree-mu e = tree_by (type-mu xs (get_or os i 0) e)

  pub tree-var : 4 ≤ kind_at xs (get_or os i 0) → type_of (entries_of xs os) i ≡ tyvar (variable xs (get_or os i 0))
  unfolding type_tree
  tree-var h = tree_by (type-var xs (get_or os i 0) h)

  ----------------------------------------------------------------
  -- What is named exists

  two-known : {y : TypeEntry} {a b : ℕ} → type_at xs (get_or os i 0) ≡ y → types_of_type y ≡ a ∷ b ∷ [] → (a < length os) × (b < length os)
  two-known {y} {a} {b} e t =
      given (below-head i a (b ∷ []) (subst (λ l. below i l ≡ true) t (names_by e))) λ (h, r).
      given (below-head i b [] r) λ (h', r'). (omega arith, omega arith)

  pub prod-known : kind_at xs (get_or os i 0) ≡ product_kind → (first xs (get_or os i 0) < length os) × (second xs (get_or os i 0) < length os)
  unfolding types_of_type
  prod-known e = two-known (type-prod xs (get_or os i 0) e) refl

  pub sum-known : kind_at xs (get_or os i 0) ≡ sum_kind → (first xs (get_or os i 0) < length os) × (second xs (get_or os i 0) < length os)
  unfolding types_of_type
  sum-known e = two-known (type-sum xs (get_or os i 0) e) refl

  pub mu-known : kind_at xs (get_or os i 0) ≡ recursive_kind → first xs (get_or os i 0) < length os
  unfolding types_of_type
  mu-known e = given (below-head i (first xs (get_or os i 0)) [] (names_by (type-mu xs (get_or os i 0) e))) λ (h, r). omega arith
