-- The dynamic variables that a term uses: the least set with which the rules can type it. How the set of a term comes from
-- those of its parts, up to dynamic variables of type unit.
use Prim.Native.Nat.{ℕ, ◌≤◌}
use mathlib.Core.Path.{◌≡◌, refl, sym, ap, subst, ◌∙◌}
use mathlib.Core.Bool.{Bool, true, false, ◌&&◌, ◌||◌, false≢true, and-or_distrib_left}
use mathlib.Core.Option.{Option, none, some}
use mathlib.Core.List.{◌∷◌}
use mathlib.Core.Logic.{◌⊎◌, inl as left, inr as right, ⊎_elim}
use lib.ListN.{length}
use lib.Dec.{eqb}
use package.Rattle.rules.specs.Ty.{Ty, is_unit}
use package.Rattle.rules.specs.Term.{Term, look, used_in}
use package.Rattle.rules.specs.Typing.{Binding, static, dynamic, barred, Context, Vars, ∅, only, ◌∪◌, mark}
use package.Rattle.rules.specs.Check.{is_dynamic, dynamics}
use package.Rattle.rules.proofs.Basics.{given, and_both, or_left, or_right, or_elim, eqb_yes, eqb-sound}
use package.Rattle.rules.proofs.Scope.{look_none}
use package.Rattle.rules.proofs.Typing.Contexts.{Dynamic, dynamic-old, dynamic-newest, dynamic_cases, dynamic-at, dynamics-mark}
use package.Rattle.rules.proofs.Typing.Tests.{is_unit_eq}
use package.Rattle.rules.proofs.Typing.Uses.{uses_of}
use package.Rattle.rules.proofs.Typing.Weaken.{IsUnitVar, UpToUnits, same_set, up_trans, up_union, up_bound}

-- the dynamic variables of `N`
abbrev pub dynamics_of : Context → Vars → Vars
dynamics_of Δ N = λ i. dynamics Δ i && N i

-- the dynamic variables that a term uses
abbrev pub used : Context → Term → Vars
used Δ t = dynamics_of Δ (uses_of t)

module _ (Δ : Context) where
  pub used_in_lem : (N : Vars) (i : ℕ) {c : Ty} → Dynamic Δ i c → N i ≡ true → dynamics_of Δ N i ≡ true
  unfolding is_dynamic
  used_in_lem N i p x = rw (p.1, x)

  pub used-out : (N : Vars) (i : ℕ) → dynamics_of Δ N i ≡ true → (c : Ty) × (Dynamic Δ i c) × (N i ≡ true)
  unfolding is_dynamic
  used-out N i x = given (and_both (dynamics Δ i) (N i) x) λ (y, z). go (look Δ i) refl y z
    where
      go : (o : Option Binding) → look Δ i ≡ o → is_dynamic o ≡ true → N i ≡ true → (c : Ty) × (Dynamic Δ i c) × (N i ≡ true)
      go none e y z = absurd (false≢true y)
      go (some (static c)) e y z = absurd (false≢true y)
      go (some (dynamic m c)) e y z = (c, (m, e), z)
      go (some (barred m c)) e y z = absurd (false≢true y)

  -- a variable yet to be bound is not among them
  pub used-free : (N : Vars) (i : ℕ) → length Δ ≤ i → dynamics_of Δ N i ≡ false
  unfolding is_dynamic
  used-free N i l = rw (look_none Δ i l)

  pub used-both : (N N' : Vars) → UpToUnits Δ (dynamics_of Δ N ∪ dynamics_of Δ N') (dynamics_of Δ (N ∪ N'))
  used-both N N' = same_set (λ i x. split i ∙ x) (λ i x. sym (split i) ∙ x)
    where
      split : (i : ℕ) → dynamics_of Δ (N ∪ N') i ≡ (dynamics_of Δ N ∪ dynamics_of Δ N') i
      split i = and-or_distrib_left (dynamics Δ i) (N i) (N' i)

  -- a branch's own variables, and more, of which those that are not unit are its own
  pub used-branch : (N M : Vars) → ((i : ℕ) → N i ≡ true → M i ≡ true)
      → ((i : ℕ) (c : Ty) → Dynamic Δ i c → is_unit c ≡ false → M i ≡ true → N i ≡ true) → UpToUnits Δ (dynamics_of Δ N) (dynamics_of Δ M)
  used-branch N M s s' = record {
    keeps = λ i x. given (used-out N i x) λ (c, p, y). used_in_lem M i p (s i y);
    extra = λ i x. given (used-out M i x) λ (c, p, y). go i c p y (is_unit c) refl;
  }
    where
      go : (i : ℕ) (c : Ty) → Dynamic Δ i c → M i ≡ true → (b : Bool) → is_unit c ≡ b → (dynamics_of Δ N i ≡ true) ⊎ IsUnitVar Δ i
      go i c p y true e = right (subst (Dynamic Δ i) (is_unit_eq c e) p)
      go i c p y false e = left (used_in_lem N i p (s' i c p e y))

  -- a context without dynamic variables
  pub used_none : (N : Vars) → ((i : ℕ) (c : Ty) → Dynamic Δ i c → ⊥) → UpToUnits Δ (dynamics_of Δ N) ∅
  used_none N s = same_set (λ i x. given (used-out N i x) λ (c, p, y). absurd (s i c p)) (λ i x. absurd (false≢true x))

-- under one variable more, which is spent
pub used-newest : (Δ : Context) (N : Vars) (m : Bool) (c : Ty) → (is_unit c || N (length Δ)) ≡ true
    → UpToUnits (dynamic m c ∷ Δ) (dynamics_of (dynamic m c ∷ Δ) N) (dynamics_of Δ N ∪ only (length Δ))
used-newest Δ N m c s = record {
  keeps = λ i x. given (used-out (dynamic m c ∷ Δ) N i x) λ (d, p, y). ⊎_elim
      (λ (e, q). or_right (dynamics_of Δ N i) (ap (λ j. eqb j (length Δ)) e ∙ eqb_yes (length Δ)))
      (λ q. or_left (eqb i (length Δ)) (used_in_lem Δ N i q y)) (dynamic_cases Δ m c i p);
  extra = λ i. or_elim (dynamics_of Δ N i) (eqb i (length Δ))
      (λ x. given (used-out Δ N i x) λ (d, p, y). left (used_in_lem (dynamic m c ∷ Δ) N i (dynamic-old Δ (dynamic m c) i p) y))
      (λ e. newest i (eqb-sound i (length Δ) e));
}
  where
    newest : (i : ℕ) → i ≡ length Δ → (dynamics_of (dynamic m c ∷ Δ) N i ≡ true) ⊎ IsUnitVar (dynamic m c ∷ Δ) i
    newest i e = given {X = Dynamic (dynamic m c ∷ Δ) i c} (dynamic-at (dynamic m c ∷ Δ) e (dynamic-newest m c Δ)) λ p.
        or_elim (is_unit c) (N (length Δ)) (λ x. right (subst (Dynamic (dynamic m c ∷ Δ) i) (is_unit_eq c x) p))
        (λ x. left (used_in_lem (dynamic m c ∷ Δ) N i p (ap N e ∙ x))) s

-- the same, where more is used of the variables bound before
pub used-under : (Δ : Context) (N : Vars) (m : Bool) (c : Ty) {W : Vars} → (is_unit c || N (length Δ)) ≡ true → UpToUnits Δ (dynamics_of Δ N) W
    → UpToUnits (dynamic m c ∷ Δ) (dynamics_of (dynamic m c ∷ Δ) N) (W ∪ only (length Δ))
used-under Δ N m c s h = up_trans (used-newest Δ N m c s) (up_union (only (length Δ)) (up_bound (dynamic m c) h))

-- marks are no matter
pub used-mark : (M : Vars) (Δ : Context) (t : Term) → used (mark M Δ) t ≡ used Δ t
used-mark M Δ t = ap (λ (D : Vars). λ i. D i && used_in i t) (dynamics-mark M Δ)
