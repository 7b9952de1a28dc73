-- The figures of one type entry, by its kind, as the code finds them.
use Prim.Native.Nat.{ℕ, zero, suc, ◌+◌, ◌-◌, ◌≤◌, ◌<◌, pred, min, max}
use native.Mathlib.Omega.{arith}
use native.Mathlib.Decide.{dec_lt}
use mathlib.Core.Path.{◌≡◌, refl, sym, ap, ap₂, ◌∙◌}
use mathlib.Core.Bool.{true}
use mathlib.Core.Logic.{◌⊎◌, inl, inr}
use mathlib.Core.List.{List, [], ◌∷◌}
use lib.ListN.{length, get_or}
use package.Rattle.rules.proofs.Basics.{given}
use package.Rattle.calls.specs.Fields.{kind_at}
use package.Rattle.calls.specs.Entries.{type_at}
use package.Rattle.calls.specs.Named.{types_of_type, below}
use package.Rattle.calls.specs.Figures.{ceiling, nodes_of, free_of}
use package.Rattle.calls.proofs.Entries.{below-head}
use package.Rattle.program.specs.Parts.{TypeField, variable, first, second}
use package.Rattle.program.specs.KindNumbers.{type_kind_number}
use package.Rattle.program.specs.declared.kinds.TypeKind.{TypeKind}
use package.Rattle.program.specs.declared.kinds.TypeKind.TheVariants.{Product, Sum}
use package.Rattle.program.proofs.Shapes.{type-unit, type-prod, type-sum, type-mu, type-var}
use package.Rattle.program.proofs.Rooms.{type-kind, prod-room, sum_room, tyvar-room}

-- the numbers of products and sums
pub pair-number : {kind : TypeKind} {n : ℕ} → type_kind_number kind ≡ n → (kind ≡ Product) ⊎ (kind ≡ Sum) → (1 ≤ n) × (n < 3)
pair-number e (inl p) = let h = ap type_kind_number p in (omega arith, omega arith)
pair-number e (inr p) = let h = ap type_kind_number p in (omega arith, omega arith)

-- one binder fewer, where there is one
pub one_fewer : (n : ℕ) → n - 1 ≡ pred n
one_fewer zero = refl
one_fewer (suc n) = omega arith

-- products and sums alike
two_kinds : {C : Type 0} (k : ℕ) → 1 ≤ k → k < 3 → (k ≡ 1 → C) → (k ≡ 2 → C) → C
two_kinds {C} k l h f g = go (dec_lt k 2)
  where
    go : Dec (k < 2) → C
    go (yes m) = f (omega arith)
    go (no m) = g (omega arith)

module _ (xs : List ℕ) (at : ℕ) where
  ----------------------------------------------------------------
  -- The bytes are there

  pub pair-room : TypeField xs at → 1 ≤ kind_at xs at → kind_at xs at < 3 → at + 8 ≤ length xs
  pair-room F l h = two_kinds (kind_at xs at) l h (prod-room F) (sum_room F)

  pub variable-room : TypeField xs at → 4 ≤ kind_at xs at → at + 5 ≤ length xs
  variable-room F l = tyvar-room F (let e : kind_at xs at ≡ 4 = omega (arith, type-kind F) in e)

  ----------------------------------------------------------------
  -- The types that are named are lower

  pub pair-below : (n : ℕ) → 1 ≤ kind_at xs at → kind_at xs at < 3 → below n (types_of_type (type_at xs at)) ≡ true → (first xs at < n) × (second xs at < n)
  unfolding types_of_type
  pair-below n l h e = two_kinds (kind_at xs at) l h (λ k. both (ap types_of_type (type-prod xs at k))) (λ k. both (ap types_of_type (type-sum xs at k)))
    where
      both : types_of_type (type_at xs at) ≡ first xs at ∷ second xs at ∷ [] → (first xs at < n) × (second xs at < n)
      both s =
          given (below-head n (first xs at) (second xs at ∷ []) (ap (below n) (sym s) ∙ e)) λ (a, e₁).
          (a, (below-head n (second xs at) [] e₁).0)

  pub one_below : (n : ℕ) → kind_at xs at ≡ 3 → below n (types_of_type (type_at xs at)) ≡ true → first xs at < n
  unfolding types_of_type
  one_below n k e = (below-head n (first xs at) [] (ap (λ y. below n (types_of_type y)) (sym (type-mu xs at k)) ∙ e)).0

  ----------------------------------------------------------------
  -- Nodes

  module _ (ns : List ℕ) where
    pub nodes-pair : (a b : ℕ) → a ≡ first xs at → b ≡ second xs at → 1 ≤ kind_at xs at → kind_at xs at < 3
        → min ceiling (suc (get_or ns a 0 + get_or ns b 0)) ≡ nodes_of ns (type_at xs at)
    unfolding nodes_of
    nodes-pair a b p q l h =
        ap₂ (λ a b. min ceiling (suc (get_or ns a 0 + get_or ns b 0))) p q
        ∙ two_kinds (kind_at xs at) l h (λ k. ap (nodes_of ns) (sym (type-prod xs at k))) (λ k. ap (nodes_of ns) (sym (type-sum xs at k)))

    pub nodes-one : (a : ℕ) → a ≡ first xs at → kind_at xs at ≡ 3 → min ceiling (suc (get_or ns a 0 + 0)) ≡ nodes_of ns (type_at xs at)
    unfolding nodes_of
    nodes-one a p k =
        (let z : min ceiling (suc (get_or ns a 0 + 0)) ≡ min ceiling (suc (get_or ns a 0)) = omega arith in z)
        ∙ ap (λ a. min ceiling (suc (get_or ns a 0))) p ∙ ap (nodes_of ns) (sym (type-mu xs at k))

    pub nodes-unit : kind_at xs at < 1 → 1 ≡ nodes_of ns (type_at xs at)
    unfolding nodes_of
    nodes-unit h = ap (nodes_of ns) (sym (type-unit xs at (let e : kind_at xs at ≡ 0 = omega arith in e)))

    pub nodes-variable : 4 ≤ kind_at xs at → 1 ≡ nodes_of ns (type_at xs at)
    unfolding nodes_of
    nodes-variable h = ap (nodes_of ns) (sym (type-var xs at h))

  ----------------------------------------------------------------
  -- Recursive types that would close it

  module _ (fs : List ℕ) where
    pub free-unit : kind_at xs at ≡ 0 → 0 ≡ free_of fs (type_at xs at)
    unfolding free_of
    free-unit k = ap (free_of fs) (sym (type-unit xs at k))

    pub free-pair : (a b : ℕ) → a ≡ first xs at → b ≡ second xs at → 1 ≤ kind_at xs at → kind_at xs at < 3
        → max (get_or fs a 0) (get_or fs b 0) ≡ free_of fs (type_at xs at)
    unfolding free_of
    free-pair a b p q l h =
        ap₂ (λ a b. max (get_or fs a 0) (get_or fs b 0)) p q
        ∙ two_kinds (kind_at xs at) l h (λ k. ap (free_of fs) (sym (type-prod xs at k))) (λ k. ap (free_of fs) (sym (type-sum xs at k)))

    pub free_one : (a : ℕ) → a ≡ first xs at → kind_at xs at ≡ 3 → pred (get_or fs a 0) ≡ free_of fs (type_at xs at)
    unfolding free_of
    free_one a p k = ap (λ a. pred (get_or fs a 0)) p ∙ ap (free_of fs) (sym (type-mu xs at k))

    pub free-variable : (v : ℕ) → v ≡ variable xs at → 4 ≤ kind_at xs at → v + 1 ≡ free_of fs (type_at xs at)
    unfolding free_of
    free-variable v p h = (let z : v + 1 ≡ suc v = omega arith in z) ∙ ap suc p ∙ ap (free_of fs) (sym (type-var xs at h))
