-- Theorem 1 of the source: what a term yields, it may yield.
use Prim.Native.Nat.{ℕ, zero, suc, ◌≤◌, ◌<◌}
use native.Mathlib.Omega.{arith}
use mathlib.Core.Path.{◌≡◌, refl, sym, ◌∙◌}
use mathlib.Core.Bool.{Bool, true}
use mathlib.Core.Option.{Option, none, some}
use mathlib.Core.List.{List, [], ◌∷◌, ◌++◌}
use lib.ListN.{length}
use package.Rattle.rules.specs.Val.{Val, unit}
use package.Rattle.rules.specs.Term.{Term, Program, look}
use package.Rattle.rules.specs.Yield.{may_be, may_yield}
use package.Rattle.rules.specs.Rules.{Judgement, Rule, e_var, e_unit, e_inl, e_inr, e_prod, e_let, e_letp, e_casel, e_caser, e_app, e_roll, e_unroll, Ev}
use package.Rattle.rules.specs.Claims.{Theorem1}
use package.Rattle.rules.proofs.Basics.{or_right}
use package.Rattle.rules.proofs.Scope.{look_lt, look_skip}
use package.Rattle.rules.proofs.Val.{same_refl}

-- the ancilla parameters `a` are the oldest variables of `ρ`
abbrev pub Under : List Val → List Val → Type 0
Under a ρ = (length a ≤ length ρ) × ((i : ℕ) (w : Val) → look a i ≡ some w → look ρ i ≡ some w)

pub under_refl : (a : List Val) → Under a a
under_refl a = (omega arith, λ i w p. p)

pub under-push : (a ρ : List Val) (v : Val) → Under a ρ → Under a (v ∷ ρ)
under-push a ρ v (l, u) = (omega arith, λ i w p. look_skip ρ v i (let h : i < length a = look_lt a i p in omega arith) ∙ u i w p)

-- whatever was bound later
under_later : (a vs : List Val) → Under a (vs ++ a)
under_later a [] = under_refl a
under_later a (v ∷ vs) = under-push a (vs ++ a) v (under_later a vs)

var-may : (o : Option Val) (v : Val) → ((w : Val) → o ≡ some w → some w ≡ some v) → may_be o v ≡ true
unfolding may_be
var-may none v h = refl
var-may (some w) v h = let e : w ≡ v = unsome (h w refl) in rw e (same_refl v)
  where
    unsome : {x y : Val} → some x ≡ some y → x ≡ y
    unsome p = cc

module _ (fits : Val → Bool) (P : Program) where
  abbrev pub May : Judgement → Type 0
  May R = (a ρ : List Val) (t : Term) (v : Val) (n : ℕ) → R a ρ t v n → Under a ρ → may_yield a t v ≡ true

  step-may : (R : Judgement) → May R → May (Rule fits P R)
  unfolding may_yield
  step-may R M a ρ t v n (e_var {i = i} x ft) u = var-may (look a i) v λ w p. sym (u.1 i w p) ∙ x
  step-may R M a ρ t v n (e_unit ft) u = same_refl unit
  step-may R M a ρ t v n (e_inl d ft) u = M _ _ _ _ _ d u
  step-may R M a ρ t v n (e_inr d ft) u = M _ _ _ _ _ d u
  step-may R M a ρ t v n (e_prod d d' ft) u = rw (M _ _ _ _ _ d u, M _ _ _ _ _ d' u)
  step-may R M a ρ t v n (e_let d d') u = M _ _ _ _ _ d' (under-push a ρ _ u)
  step-may R M a ρ t v n (e_letp d d') u = M _ _ _ _ _ d' (under-push a _ _ (under-push a ρ _ u))
  step-may R M a ρ t v n (e_casel d d') u = rw (M _ _ _ _ _ d' (under-push a ρ _ u))
  step-may R M a ρ t v n (e_caser {b = b} d d' y) u = or_right (may_yield a b v) (M _ _ _ _ _ d' (under-push a ρ _ u))
  step-may R M a ρ t v n (e_app x ds d d') u = refl
  step-may R M a ρ t v n (e_roll d ft) u = M _ _ _ _ _ d u
  step-may R M a ρ t v n (e_unroll d ft) u = refl

  pub may : (r : ℕ) → May (Ev fits P r)
  may zero a ρ t v n d = absurd d
  may (suc r) a ρ t v n d = step-may (Ev fits P r) (may r) a ρ t v n d

pub theorem1 : (P : Program) → Theorem1 P
theorem1 P fits r a vs t v n d = may fits P r a (vs ++ a) t v n d (under_later a vs)
