-- May-yield by numbers of kinds: a form yields values of one kind alone.
use Prim.Native.Nat.{ℕ, zero, suc, ◌≤◌}
use native.Mathlib.Omega.{arith}
use mathlib.Core.Path.{◌≡◌, refl}
use mathlib.Core.Bool.{false}
use mathlib.Core.List.{List}
use lib.Dec.{eqb, eqb-suc-zero}
use package.Rattle.rules.specs.Val.{Val, same}
use package.Rattle.rules.specs.Ty.{Ty}
use package.Rattle.rules.specs.Term.{Term, tunit, tinl, tinr, tpair, troll}
use package.Rattle.rules.specs.Yield.{may_yield}
use package.Rattle.valuegraph.specs.Nodes.{of_kind}

----------------------------------------------------------------
-- Values of another kind than the form makes

module _ (a : List Val) (k : ℕ) (v w : Val) where
  pub unit-only : (n : ℕ) → eqb n 0 ≡ may_yield a (tunit k) (of_kind n v w)
  unfolding may_yield of_kind same
  unit-only zero = refl
  unit-only (suc zero) = refl
  unit-only (suc (suc zero)) = refl
  unit-only (suc (suc (suc zero))) = refl
  unit-only (suc (suc (suc (suc n)))) = eqb-suc-zero (suc (suc (suc n)))

  pub inl_only : (c : Ty) (e : Term) (n : ℕ) → ¬ (n ≡ 1) → false ≡ may_yield a (tinl k c e) (of_kind n v w)
  unfolding may_yield of_kind
  inl_only c e zero d = refl
  inl_only c e (suc zero) d = absurd (d refl)
  inl_only c e (suc (suc zero)) d = refl
  inl_only c e (suc (suc (suc zero))) d = refl
  inl_only c e (suc (suc (suc (suc n)))) d = refl

  pub inr_only : (c : Ty) (e : Term) (n : ℕ) → ¬ (n ≡ 2) → false ≡ may_yield a (tinr k c e) (of_kind n v w)
  unfolding may_yield of_kind
  inr_only c e zero d = refl
  inr_only c e (suc zero) d = refl
  inr_only c e (suc (suc zero)) d = absurd (d refl)
  inr_only c e (suc (suc (suc zero))) d = refl
  inr_only c e (suc (suc (suc (suc n)))) d = refl

  pub pair-only : (e e' : Term) (n : ℕ) → ¬ (n ≡ 3) → false ≡ may_yield a (tpair k e e') (of_kind n v w)
  unfolding may_yield of_kind
  pair-only e e' zero d = refl
  pair-only e e' (suc zero) d = refl
  pair-only e e' (suc (suc zero)) d = refl
  pair-only e e' (suc (suc (suc zero))) d = absurd (d refl)
  pair-only e e' (suc (suc (suc (suc n)))) d = refl

  pub roll-only : (c : Ty) (e : Term) (n : ℕ) → ¬ (n ≡ 4) → n ≤ 4 → false ≡ may_yield a (troll k c e) (of_kind n v w)
  unfolding may_yield of_kind
  roll-only c e zero d h = refl
  roll-only c e (suc zero) d h = refl
  roll-only c e (suc (suc zero)) d h = refl
  roll-only c e (suc (suc (suc zero))) d h = refl
  roll-only c e (suc (suc (suc (suc n)))) d h = absurd (d (omega arith))
