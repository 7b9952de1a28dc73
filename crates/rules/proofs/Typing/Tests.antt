-- The tests of typing decide: equality of types, being unit, limits, and whether two branches use the same variables.
use Prim.Native.Nat.{ℕ, ◌≤◌}
use mathlib.Core.Path.{◌≡◌, refl, sym, ap, ap₂, subst}
use mathlib.Core.Bool.{Bool, true, false, not, ◌||◌, beq, false≢true}
use mathlib.Core.Option.{some}
use mathlib.Core.List.{[], ◌∷◌}
use mathlib.Core.Logic.{⊎_elim}
use lib.ListN.{length}
use lib.Dec.{leb, leb→le, le→leb}
use package.Rattle.rules.specs.Ty.{Ty, one, prod, sum, mu, tyvar, is_unit, same_ty}
use package.Rattle.rules.specs.Term.{Term, look, used_in}
use package.Rattle.rules.specs.Typing.{Binding, static, dynamic, barred, Context}
use package.Rattle.rules.specs.Check.{must_use, same_use}
use package.Rattle.rules.proofs.Basics.{given, none≢some, and_both, T_true, eqb_yes, eqb-sound}
use package.Rattle.rules.proofs.Scope.{look_newest}
use package.Rattle.rules.proofs.Typing.Contexts.{look_cases, Dynamic, dynamic-old}

----------------------------------------------------------------
-- Types

pub same_ty_refl : (a : Ty) → same_ty a a ≡ true
unfolding same_ty
same_ty_refl one = refl
same_ty_refl (prod a b) = rw (same_ty_refl a, same_ty_refl b)
same_ty_refl (sum a b) = rw (same_ty_refl a, same_ty_refl b)
same_ty_refl (mu a) = same_ty_refl a
same_ty_refl (tyvar n) = eqb_yes n

pub same_ty_eq : (a b : Ty) → same_ty a b ≡ true → a ≡ b
unfolding same_ty
same_ty_eq one one h = refl
same_ty_eq one (prod c d) h = absurd (false≢true h)
same_ty_eq one (sum c d) h = absurd (false≢true h)
same_ty_eq one (mu c) h = absurd (false≢true h)
same_ty_eq one (tyvar m) h = absurd (false≢true h)
same_ty_eq (prod a b) one h = absurd (false≢true h)
same_ty_eq (prod a b) (prod c d) h = given (and_both (same_ty a c) (same_ty b d) h) λ (x, y). ap₂ prod (same_ty_eq a c x) (same_ty_eq b d y)
same_ty_eq (prod a b) (sum c d) h = absurd (false≢true h)
same_ty_eq (prod a b) (mu c) h = absurd (false≢true h)
same_ty_eq (prod a b) (tyvar m) h = absurd (false≢true h)
same_ty_eq (sum a b) one h = absurd (false≢true h)
same_ty_eq (sum a b) (prod c d) h = absurd (false≢true h)
same_ty_eq (sum a b) (sum c d) h = given (and_both (same_ty a c) (same_ty b d) h) λ (x, y). ap₂ sum (same_ty_eq a c x) (same_ty_eq b d y)
same_ty_eq (sum a b) (mu c) h = absurd (false≢true h)
same_ty_eq (sum a b) (tyvar m) h = absurd (false≢true h)
same_ty_eq (mu a) one h = absurd (false≢true h)
same_ty_eq (mu a) (prod c d) h = absurd (false≢true h)
same_ty_eq (mu a) (sum c d) h = absurd (false≢true h)
same_ty_eq (mu a) (mu c) h = ap mu (same_ty_eq a c h)
same_ty_eq (mu a) (tyvar m) h = absurd (false≢true h)
same_ty_eq (tyvar n) one h = absurd (false≢true h)
same_ty_eq (tyvar n) (prod c d) h = absurd (false≢true h)
same_ty_eq (tyvar n) (sum c d) h = absurd (false≢true h)
same_ty_eq (tyvar n) (mu c) h = absurd (false≢true h)
same_ty_eq (tyvar n) (tyvar m) h = ap tyvar (eqb-sound n m h)

pub is_unit_eq : (a : Ty) → is_unit a ≡ true → a ≡ one
is_unit_eq one h = refl
is_unit_eq (prod a b) h = absurd (false≢true h)
is_unit_eq (sum a b) h = absurd (false≢true h)
is_unit_eq (mu a) h = absurd (false≢true h)
is_unit_eq (tyvar n) h = absurd (false≢true h)

----------------------------------------------------------------
-- Limits

pub leb_yes : (m n : ℕ) → m ≤ n → leb m n ≡ true
leb_yes m n h = T_true (le→leb m n h)

pub leb-sound : (m n : ℕ) → leb m n ≡ true → m ≤ n
leb-sound m n e = leb→le m n (rw e tt)

----------------------------------------------------------------
-- Uses

-- Booleans that are true together are equal
pub bool_ext : (b b' : Bool) → (b ≡ true → b' ≡ true) → (b' ≡ true → b ≡ true) → b ≡ b'
bool_ext true b' s s' = sym (s refl)
bool_ext false true s s' = s' refl
bool_ext false false s s' = refl

beq_refl : (b : Bool) → beq b b ≡ true
beq_refl true = refl
beq_refl false = refl

beq_eq : (x y : Bool) → beq x y ≡ true → x ≡ y
beq_eq true true h = refl
beq_eq true false h = absurd (false≢true h)
beq_eq false true h = absurd (false≢true h)
beq_eq false false h = refl

-- both branches name the same dynamic variables that are not unit
abbrev pub AgreeIn : Context → Term → Term → Type 0
AgreeIn Δ b b' = (i : ℕ) (c : Ty) → Dynamic Δ i c → is_unit c ≡ false → used_in i b ≡ used_in i b'

pub same_use_yes : (Δ : Context) (b b' : Term) → AgreeIn Δ b b' → same_use Δ b b' ≡ true
unfolding same_use must_use
same_use_yes [] b b' h = refl
same_use_yes (x ∷ Δ) b b' h = rw (newest x (look_newest x Δ), same_use_yes Δ b b' λ i c p u. h i c (dynamic-old Δ x i p) u)
  where
    newest : (y : Binding) → look (x ∷ Δ) (length Δ) ≡ some y → (not (must_use y) || beq (used_in (length Δ) b) (used_in (length Δ) b')) ≡ true
    newest (static c) p = refl
    newest (dynamic m c) p = decided (is_unit c) refl
      where
        decided : (u : Bool) → is_unit c ≡ u → (not (not u) || beq (used_in (length Δ) b) (used_in (length Δ) b')) ≡ true
        decided true e = refl
        decided false e = rw (h (length Δ) c (m, p) e, beq_refl (used_in (length Δ) b'))
    newest (barred m c) p = refl

pub same_use-sound : (Δ : Context) (b b' : Term) → same_use Δ b b' ≡ true → AgreeIn Δ b b'
unfolding same_use must_use look
same_use-sound [] b b' h i c p u = absurd (none≢some p.1)
same_use-sound (x ∷ Δ) b b' h i c p u = given (and_both _ (same_use Δ b b') h) λ (now, then).
    ⊎_elim (λ (e, y). subst (λ i. used_in i b ≡ used_in i b') (sym e) (newest p.0 x y now))
    (λ q. same_use-sound Δ b b' then i c (p.0, q) u) (look_cases Δ x i p.1)
  where
    newest : (m : Bool) (y : Binding) → y ≡ dynamic m c → (not (must_use y) || beq (used_in (length Δ) b) (used_in (length Δ) b')) ≡ true
        → used_in (length Δ) b ≡ used_in (length Δ) b'
    newest m y e now = beq_eq _ _ (rw (e, u) at now)
