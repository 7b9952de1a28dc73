-- The parts of a call: what is admitted to a run, and what is answered for it.
use Prim.Native.Nat.{ℕ, ◌-◌, ◌≤◌}
use native.Mathlib.Omega.{arith}
use mathlib.Core.Path.{◌≡◌, refl, sym, ap, subst, ◌∙◌}
use mathlib.Core.Bool.{true, ◌&&◌}
use mathlib.Core.Option.{Option, some}
use mathlib.Core.List.{List}
use mathlib.Core.Logic.{◌↔◌}
use lib.ListN.{length}
use lib.Dec.{eqb}
use package.Rattle.rules.specs.Val.{Val}
use package.Rattle.rules.specs.Ty.{Ty, HasTy, HasTys}
use package.Rattle.rules.specs.Term.{Fun, Program, nth}
use package.Rattle.rules.specs.Run.{Res, ok, stop, stuck}
use package.Rattle.rules.proofs.Basics.{given, and_both, eqb_yes}
use package.Rattle.rules.proofs.Numbers.{EndsBy, answers, refuses, sticks}
use package.Rattle.rules.proofs.Preserve.{env-length}
use package.Rattle.rules.proofs.Run.{stop≢ok, stuck≢ok}
use package.Rattle.calls.specs.Answer.{accepted, refused, require, present}
use package.Rattle.calls.specs.Named.{member}
use package.Rattle.calls.specs.Values.{has_ty, has_tys}
use package.Rattle.calls.specs.Runs.{Given, admit, ran}
use package.Rattle.calls.specs.Claims.{call_numbers, answer}
use package.Rattle.calls.proofs.Answer.{refused≢accepted, accepted_inj, via, unbind, require_yes, required, present_some, presented}
use package.Rattle.calls.proofs.Refusals.{Numbered, accepts, refuses as rejects, numbered-present, numbered_bind, numbered-test}

----------------------------------------------------------------
-- What is admitted to a run

module _ (P : Program) (fn : ℕ) (as? : Option (List Val)) (v? : Option Val) (side : Fun → Ty) where
  pub record Admits (a : Given) : Type 0 where
    pub function : nth P fn ≡ some a.fun
    pub ancillae_read : as? ≡ some a.ancillae
    pub value_read : v? ≡ some a.value
    pub ancillae_typed : HasTys a.ancillae a.fun.ancillae
    pub value_typed : HasTy a.value (side a.fun)

  pub admit_iff : (a : Given) → (admit P fn as? v? side ≡ accepted a) ↔ Admits a
  unfolding admit
  admit_iff a = (
    λ e.
        given (unbind (present (nth P fn) 9) _ e) λ (h, p, e₁).
        given (unbind (present as? 10) _ e₁) λ (vs, q, e₂).
        given (unbind (present v? 10) _ e₂) λ (v, r, e₃).
        given (unbind (require (eqb (length vs) (length h.ancillae)) 10 0) _ e₃) λ (number, s, e₄).
        given (unbind (require (has_tys vs h.ancillae && has_ty v (side h)) 11 0) _ e₄) λ (typed, t, e₅).
        given (and_both (has_tys vs h.ancillae) (has_ty v (side h)) (required _ 11 0 t)) λ (x, y).
        subst Admits (accepted_inj e₅) (record {
          function = presented (nth P fn) 9 p;
          ancillae_read = presented as? 10 q;
          value_read = presented v? 10 r;
          ancillae_typed = x;
          value_typed = y;
        }),
    λ A.
        via _ (present_some 9 A.function)
        (via _ (present_some 10 A.ancillae_read)
        (via _ (present_some 10 A.value_read)
        (via _ (require_yes 10 0
        (rw (env-length a.ancillae a.fun.ancillae A.ancillae_typed) (eqb_yes (length a.fun.ancillae))))
        (via _ (require_yes 11 0 (rw A.ancillae_typed A.value_typed)) refl)))),
  )

  pub admit-numbered : Numbered call_numbers (admit P fn as? v? side)
  unfolding admit member
  admit-numbered = numbered_bind _ (numbered-present (nth P fn) _ refl) λ h p. numbered_bind _ (numbered-present as? _ refl) λ vs q.
      numbered_bind _ (numbered-present v? _ refl) λ v r. numbered-test _ _ 0 _ refl λ number. numbered-test _ _ 0 _ refl λ typed. accepts

----------------------------------------------------------------
-- What is answered for a run

module _ (fuel : ℕ) where
  -- a run that leaves no more fuel than it was given
  pub ran_iff : (x : Res Val) → ((w : Val) (g : ℕ) → x ≡ ok w g → g ≤ fuel) → (w : Val) (n : ℕ)
      → (ran fuel x ≡ answer w n) ↔ ((x ≡ ok w (fuel - n)) × (n ≤ fuel))
  unfolding ran
  ran_iff (ok v g) left w n = (
    λ e.
        let p : v ≡ w = ap (λ r. r.value) (accepted_inj e) in
        let q : fuel - g ≡ n = ap (λ r. r.steps) (accepted_inj e) in
        let l : g ≤ fuel = left v g refl in
        (ap (λ v. ok v g) p ∙ ap (ok w) (let z : g ≡ fuel - n = omega arith in z), omega arith),
    λ (e, l). ap (ran fuel) e ∙ ap (answer w) (let z : fuel - (fuel - n) ≡ n = omega arith in z),
  )
  ran_iff (stop c k) left w n = (λ e. absurd (refused≢accepted e), λ (e, l). absurd (stop≢ok e))
  ran_iff stuck left w n = (λ e. absurd (refused≢accepted e), λ (e, l). absurd (stuck≢ok e))

  -- a run that is not stuck
  pub ran-numbered : {ns : List ℕ} {Q : Val → Type 0} {x : Res Val} → EndsBy (λ n k. member n ns ≡ true) Q x → ¬ (x ≡ stuck) → Numbered ns (ran fuel x)
  unfolding ran
  ran-numbered (answers q) s = accepts
  ran-numbered (refuses l) s = rejects l
  ran-numbered sticks s = absurd (s refl)

  pub ran-refused : (x : Res Val) {n k : ℕ} → ¬ (x ≡ stuck) → ran fuel x ≡ refused n k → x ≡ stop n k
  unfolding ran
  ran-refused (ok v g) s e = absurd (refused≢accepted (sym e))
  ran-refused (stop c k) s e = cc
  ran-refused stuck s e = absurd (s refl)
