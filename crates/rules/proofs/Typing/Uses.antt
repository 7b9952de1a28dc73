-- Which variables a derivation uses up: the dynamic variables that the term uses, and no other variable but dynamic ones of type
-- unit (T-UNIT-ELM). So the use tests of typing as a function hold where the rules type.
use Prim.Native.Nat.{ℕ, suc}
use native.Mathlib.Omega.{arith}
use mathlib.Core.Path.{◌≡◌, refl, sym, ap, subst, ◌∙◌}
use mathlib.Core.Bool.{Bool, true, false, ◌||◌, false≢true}
use mathlib.Core.Option.{some}
use mathlib.Core.List.{◌∷◌}
use mathlib.Core.Logic.{⊎_elim}
use lib.ListN.{length}
use lib.Dec.{eqb}
use package.Rattle.rules.specs.Ty.{Ty, one, is_unit}
use package.Rattle.rules.specs.Term.{Term, tcase, Program, look, used_in}
use package.Rattle.rules.specs.Typing.{Binding, dynamic, Context, Vars, ∅, only, ◌∪◌, Subject, ◌∶◌, arguments, mark, Types, t_var1, t_var2, t_var3}
use package.Rattle.rules.specs.Typing.{t_unit, t_unit_elm, t_inl, t_inr, t_prod, t_let1, t_let2, t_sum, t_app1, t_app2, t_app2_end, t_roll, t_unroll}
use package.Rattle.rules.proofs.Basics.{given, some_inj, or_left, or_right, or_elim, eqb_yes, eqb-sound, eqb-differs}
use package.Rattle.rules.proofs.Scope.{look_lt}
use package.Rattle.rules.proofs.Typing.Tests.{bool_ext}
use package.Rattle.rules.proofs.Typing.Contexts.{static≢dynamic, barred≢dynamic, Dynamic, dynamic_unique, dynamic-old}
use package.Rattle.rules.proofs.Typing.Contexts.{dynamic-newest, dynamic_cases, dynamic-at, dynamic-mark, dynamic_unmark}

-- the variables that a term uses
abbrev pub uses_of : Term → Vars
uses_of t = λ i. used_in i t

-- `U` is what a derivation uses up of a term that uses the variables of `N`
pub record Uses (Δ : Context) (U N : Vars) : Type 0 where
  -- a dynamic variable that the term uses is used up
  pub taken : (i : ℕ) (c : Ty) → Dynamic Δ i c → N i ≡ true → U i ≡ true
  -- what is used up is a dynamic variable, and is used by the term or unit
  pub spent : (i : ℕ) → U i ≡ true → (c : Ty) × (Dynamic Δ i c) × ((is_unit c || N i) ≡ true)

----------------------------------------------------------------
-- Laws of uses

-- what the one term uses the other uses
or_map : (u : Bool) {n n' : Bool} → (n ≡ true → n' ≡ true) → (u || n) ≡ true → (u || n') ≡ true
or_map true s h = refl
or_map false s h = s h

module _ {Δ : Context} where
  -- nothing is used up where no dynamic variable is used
  uses_none : {N : Vars} → ((i : ℕ) (c : Ty) → Dynamic Δ i c → N i ≡ false) → Uses Δ ∅ N
  uses_none h = record { taken = λ i c p x. sym (h i c p) ∙ x; spent = λ i x. absurd (false≢true x) }

  uses-only : (i : ℕ) {c : Ty} → Dynamic Δ i c → Uses Δ (only i) (only i)
  uses-only i {c} p = record { taken = λ j d q x. x; spent = λ j x. (c, dynamic-at Δ (eqb-sound j i x) p, or_right (is_unit c) x) }

  -- T-UNIT-ELM
  uses-unit : {U N : Vars} (i : ℕ) → Dynamic Δ i one → Uses Δ U N → Uses Δ (U ∪ only i) N
  uses-unit {U} i p h = record {
    taken = λ j c q x. or_left (eqb j i) (h.taken j c q x);
    spent = λ j x. or_elim (U j) (eqb j i) (h.spent j) (λ e. (one, dynamic-at Δ (eqb-sound j i e) p, refl)) x;
  }

  -- parts that split the variables by union
  uses-both : {U U' N N' : Vars} → Uses Δ U N → Uses Δ U' N' → Uses Δ (U ∪ U') (N ∪ N')
  uses-both {U} {U'} {N} {N'} h h' = record {
    taken = λ i c p. or_elim (N i) (N' i) (λ x. or_left (U' i) (h.taken i c p x)) (λ x. or_right (U i) (h'.taken i c p x));
    spent = λ i. or_elim (U i) (U' i)
        (λ x. given (h.spent i x) λ (c, p, s). (c, p, or_map (is_unit c) (or_left (N' i)) s))
        (λ x. given (h'.spent i x) λ (c, p, s). (c, p, or_map (is_unit c) (or_right (N i)) s));
  }

  -- branches with one set
  uses_branches : {U N N' : Vars} → Uses Δ U N → Uses Δ U N' → Uses Δ U (N ∪ N')
  uses_branches {U} {N} {N'} h h' = record {
    taken = λ i c p. or_elim (N i) (N' i) (h.taken i c p) (h'.taken i c p);
    spent = λ i x. given (h.spent i x) λ (c, p, s). (c, p, or_map (is_unit c) (or_left (N' i)) s);
  }

  -- a variable of type `c` that is used up is used, or `c` is unit
  spent-at : {U N : Vars} → Uses Δ U N → (i : ℕ) (c : Ty) → Dynamic Δ i c → U i ≡ true → (is_unit c || N i) ≡ true
  spent-at {U} {N} h i c p x = given (h.spent i x) λ (d, q, s). subst (λ c. (is_unit c || N i) ≡ true) (dynamic_unique Δ i q p) s

  -- branches with one set name the same dynamic variables that are not unit
  pub uses-agree : {U N N' : Vars} → Uses Δ U N → Uses Δ U N' → (i : ℕ) (c : Ty) → Dynamic Δ i c → is_unit c ≡ false → N i ≡ N' i
  uses-agree {U} {N} {N'} h h' i c p u = bool_ext (N i) (N' i) (across h h') (across h' h)
    where
      across : {M M' : Vars} → Uses Δ U M → Uses Δ U M' → M i ≡ true → M' i ≡ true
      across h h' x = or_elim _ _ (λ y. absurd (false≢true (sym u ∙ y))) (λ y. y) (spent-at h' i c p (h.taken i c p x))

module _ {Δ : Context} where
  -- the newest variable, bound for a body that uses it and `U`
  pub uses-newest : (U : Vars) {N : Vars} {m : Bool} {c : Ty} → Uses (dynamic m c ∷ Δ) (U ∪ only (length Δ)) N → (is_unit c || N (length Δ)) ≡ true
  uses-newest U {m = m} {c} h = spent-at h (length Δ) c (dynamic-newest m c Δ) (or_right (U (length Δ)) (eqb_yes (length Δ)))

  -- what such a body uses of the variables bound before
  pub uses-outer : (U : Vars) {N : Vars} {m : Bool} {c : Ty} → Uses (dynamic m c ∷ Δ) (U ∪ only (length Δ)) N → U (length Δ) ≡ false → Uses Δ U N
  uses-outer U {N} {m} {c} h z = record {
    taken = λ i d p x. or_elim (U i) (eqb i (length Δ)) (λ y. y) (λ e. absurd (outside i p.1 (eqb-sound i (length Δ) e)))
        (h.taken i d (dynamic-old Δ (dynamic m c) i p) x);
    spent = λ i x. given (h.spent i (or_left (eqb i (length Δ)) x)) λ (d, p, s).
        (d, ⊎_elim (λ (e, y). absurd (false≢true (sym z ∙ ap U (sym e) ∙ x))) (λ q. q) (dynamic_cases Δ m c i p), s);
  }
    where
      outside : (i : ℕ) {x : Binding} → look Δ i ≡ some x → i ≡ length Δ → ⊥
      outside i p e = omega (arith, look_lt Δ i p)

-- under two new variables: what a body uses of all but the second
pub uses-first : {Δ : Context} (U : Vars) {N : Vars} {m : Bool} {c c' : Ty}
    → Uses (dynamic m c' ∷ dynamic m c ∷ Δ) (U ∪ only (length Δ) ∪ only (suc (length Δ))) N
    → U (suc (length Δ)) ≡ false → Uses (dynamic m c ∷ Δ) (U ∪ only (length Δ)) N
uses-first {Δ} U h z = uses-outer (U ∪ only (length Δ)) h (rw (z, eqb-differs (suc (length Δ)) (length Δ) λ e. omega arith))

-- marks are no matter
pub uses-mark : (M : Vars) (Δ : Context) {U N : Vars} → Uses (mark M Δ) U N → Uses Δ U N
uses-mark M Δ h = record {
  taken = λ i c p x. h.taken i c (dynamic-mark M Δ i p) x;
  spent = λ i x. given (h.spent i x) λ (c, p, s). (c, dynamic_unmark M Δ i p, s);
}

----------------------------------------------------------------
-- Derivations

module _ (variables most : ℕ) (P : Program) where
  abbrev UsesOf : Context → Vars → Subject → Type 0
  UsesOf Δ U (t ∶ τ) = Uses Δ U (uses_of t)
  UsesOf Δ U (arguments ts τs) = Unit {0}

  pub uses : {Δ : Context} {U : Vars} {s : Subject} → Types variables most P Δ U s → UsesOf Δ U s
  uses (t_var1 {i = i} p) = uses_none λ j c (m, q). eqb-differs j i λ e. static≢dynamic (some_inj (sym p ∙ ap (look _) (sym e) ∙ q))
  uses (t_var2 {i = i} {m = m} p) = uses-only i (m, p)
  uses (t_var3 {i = i} p) = uses_none λ j c (m, q). eqb-differs j i λ e. barred≢dynamic (some_inj (sym p ∙ ap (look _) (sym e) ∙ q))
  uses t_unit = uses_none λ i c p. refl
  uses (t_unit_elm {m = m} i p d) = uses-unit i (m, p) (uses d)
  uses (t_inl d) = uses d
  uses (t_inr d) = uses d
  uses (t_prod d d' s) = uses-both (uses d) (uses d')
  uses (t_let1 {Δ = Δ} {b = b} U' r d d' z) = uses-both (uses-mark (uses_of b) Δ (uses d)) (uses-outer U' (uses d') z)
  uses (t_let2 {Δ = Δ} {b = b} U' r d d' z z') = uses-both (uses-mark (uses_of b) Δ (uses d)) (uses-outer U' (uses-first U' (uses d') z') z)
  uses (t_sum U' r d d₁ d₂ z) = uses-both (uses d) (uses_branches (uses-outer U' (uses d₁) z) (uses-outer U' (uses d₂) z))
  uses (t_app1 g a d) = uses d
  uses (t_app2 d a) = tt
  uses t_app2_end = tt
  uses (t_roll d) = uses d
  uses (t_unroll d s) = uses d

  -- both branches of a case have one set
  pub branches_agree : {Δ : Context} {U : Vars} {k : ℕ} {e b b' : Term} {τ : Ty} → Types variables most P Δ U (tcase k e b b' ∶ τ)
      → (m : Bool) (i : ℕ) (c : Ty) → look Δ i ≡ some (dynamic m c) → is_unit c ≡ false → used_in i b ≡ used_in i b'
  branches_agree (t_unit_elm j q d) m i c p u = branches_agree d m i c p u
  branches_agree (t_sum U' r d d₁ d₂ z) m i c p u = uses-agree (uses-outer U' (uses d₁) z) (uses-outer U' (uses d₂) z) i c (m, p) u
