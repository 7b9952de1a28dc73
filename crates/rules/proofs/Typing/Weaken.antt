-- Sets of variables up to dynamic ones of type unit: T-UNIT-ELM, used again and again, takes a derivation from one set to any
-- other that differs by such variables.
use Prim.Native.Nat.{ℕ, zero, suc, ◌<◌}
use native.Mathlib.Omega.{arith}
use native.Mathlib.Decide.{dec_lt}
use mathlib.Core.Path.{◌≡◌, refl, sym, ap, subst, ◌∙◌, fun_ext}
use mathlib.Core.Bool.{Bool, true, false, false≢true}
use mathlib.Core.List.{◌∷◌}
use mathlib.Core.Logic.{◌⊎◌, inl as left, inr as right, ⊎_elim}
use lib.ListN.{length}
use lib.Dec.{eqb}
use package.Rattle.rules.specs.Ty.{Ty, one}
use package.Rattle.rules.specs.Term.{Term, Program}
use package.Rattle.rules.specs.Typing.{Binding, Context, Vars, only, ◌∪◌, ◌∶◌, Types, t_unit_elm}
use package.Rattle.rules.proofs.Basics.{given, or_left, or_right, or_elim, eqb_yes, eqb-sound}
use package.Rattle.rules.proofs.Scope.{look_lt}
use package.Rattle.rules.proofs.Typing.Contexts.{Dynamic, dynamic-old}
use package.Rattle.rules.proofs.Typing.Tests.{bool_ext}

-- variable `i` is dynamic and of type unit
abbrev pub IsUnitVar : Context → ℕ → Type 0
IsUnitVar Δ i = Dynamic Δ i one

-- `W` has all of `U`, and beyond it only such variables
pub record UpToUnits (Δ : Context) (U W : Vars) : Type 0 where
  pub keeps : (i : ℕ) → U i ≡ true → W i ≡ true
  pub extra : (i : ℕ) → W i ≡ true → (U i ≡ true) ⊎ IsUnitVar Δ i

----------------------------------------------------------------
-- Weakening

-- the same, with all that is beyond `U` below `n`
record UpToBelow (n : ℕ) (Δ : Context) (U W : Vars) : Type 0 where
  keeps : (i : ℕ) → U i ≡ true → W i ≡ true
  extra : (i : ℕ) → W i ≡ true → (U i ≡ true) ⊎ ((i < n) × IsUnitVar Δ i)

-- where the sets agree on `n`, too, what is beyond is below `n`
lower : {n : ℕ} {Δ : Context} {U W : Vars} → (W n ≡ true → U n ≡ true) → UpToBelow (suc n) Δ U W → UpToBelow n Δ U W
lower {n} {Δ} {U} {W} s h = record { keeps = h.keeps; extra = λ i x. ⊎_elim left (λ (l, p). go i x l p (dec_lt i n)) (h.extra i x) }
  where
    go : (i : ℕ) → W i ≡ true → i < suc n → IsUnitVar Δ i → Dec (i < n) → (U i ≡ true) ⊎ ((i < n) × IsUnitVar Δ i)
    go i x l p (yes m) = right (m, p)
    go i x l p (no m) = let e : i ≡ n = omega arith in left (ap U e ∙ s (ap W (sym e) ∙ x))

-- `n` put into the smaller set
raise : {n : ℕ} {Δ : Context} {U W : Vars} → W n ≡ true → UpToBelow (suc n) Δ U W → UpToBelow (suc n) Δ (U ∪ only n) W
raise {n} {Δ} {U} {W} y h = record {
  keeps = λ i. or_elim (U i) (eqb i n) (h.keeps i) (λ e. ap W (eqb-sound i n e) ∙ y);
  extra = λ i x. ⊎_elim (λ z. left (or_left (eqb i n) z)) right (h.extra i x);
}

module _ (variables most : ℕ) (P : Program) {Δ : Context} {t : Term} {τ : Ty} where
  -- one variable less to go: `n` is in both sets, or comes into the smaller one by T-UNIT-ELM
  narrow : (n : ℕ) (U W : Vars) → UpToBelow (suc n) Δ U W → Types variables most P Δ U (t ∶ τ)
      → (U' : Vars) × UpToBelow n Δ U' W × Types variables most P Δ U' (t ∶ τ)
  narrow n U W h d = go (W n) refl
    where
      go : (b : Bool) → W n ≡ b → (U' : Vars) × UpToBelow n Δ U' W × Types variables most P Δ U' (t ∶ τ)
      go true y = ⊎_elim (λ x. (U, lower (λ y. x) h, d))
          (λ (l, p). (U ∪ only n, lower (λ y. or_right (U n) (eqb_yes n)) (raise y h), t_unit_elm n p.1 d)) (h.extra n y)
      go false y = (U, lower (λ x. absurd (false≢true (sym y ∙ x))) h, d)

  weaken-below : (n : ℕ) (U W : Vars) → UpToBelow n Δ U W → Types variables most P Δ U (t ∶ τ) → Types variables most P Δ W (t ∶ τ)
  weaken-below zero U W h d = subst (λ W. Types variables most P Δ W (t ∶ τ)) (fun_ext λ i. bool_ext (U i) (W i) (h.keeps i)
      (λ x. ⊎_elim (λ y. y) (λ (l, p). absurd (omega (arith, l))) (h.extra i x))) d
  weaken-below (suc n) U W h d = given (narrow n U W h d) λ (U', h', d'). weaken-below n U' W h' d'

  pub weaken : {U W : Vars} → UpToUnits Δ U W → Types variables most P Δ U (t ∶ τ) → Types variables most P Δ W (t ∶ τ)
  weaken {U} {W} h = weaken-below (length Δ) U W (record {
    keeps = h.keeps;
    extra = λ i x. ⊎_elim left (λ p. right (look_lt Δ i p.1, p)) (h.extra i x);
  })

----------------------------------------------------------------
-- Laws

module _ {Δ : Context} where
  -- sets with the same variables
  pub same_set : {U W : Vars} → ((i : ℕ) → U i ≡ true → W i ≡ true) → ((i : ℕ) → W i ≡ true → U i ≡ true) → UpToUnits Δ U W
  same_set s s' = record { keeps = s; extra = λ i x. left (s' i x) }

  pub up_trans : {U W X : Vars} → UpToUnits Δ U W → UpToUnits Δ W X → UpToUnits Δ U X
  up_trans h h' = record { keeps = λ i x. h'.keeps i (h.keeps i x); extra = λ i x. ⊎_elim (h.extra i) right (h'.extra i x) }

  pub up_union : {U W : Vars} (X : Vars) → UpToUnits Δ U W → UpToUnits Δ (U ∪ X) (W ∪ X)
  up_union {U} {W} X h = record {
    keeps = λ i. or_elim (U i) (X i) (λ x. or_left (X i) (h.keeps i x)) (or_right (W i));
    extra = λ i. or_elim (W i) (X i) (λ x. ⊎_elim (λ y. left (or_left (X i) y)) right (h.extra i x)) (λ x. left (or_right (U i) x));
  }

  pub up_bound : {U W : Vars} (x : Binding) → UpToUnits Δ U W → UpToUnits (x ∷ Δ) U W
  up_bound x h = record { keeps = h.keeps; extra = λ i y. ⊎_elim left (λ p. right (dynamic-old Δ x i p)) (h.extra i y) }
