-- A call as a whole. Forward and backward differ in the side of the function that the given value is held to, and in the run; what
-- both runs obey is a direction, and a call in any direction is answered and refused alike.
use Prim.Native.Nat.{ℕ, ◌-◌, ◌≤◌}
use native.Mathlib.Omega.{arith}
use mathlib.Core.Path.{◌≡◌, refl, sym, ap, subst, ◌∙◌}
use mathlib.Core.Bool.{true}
use mathlib.Core.Option.{Option}
use mathlib.Core.List.{List}
use mathlib.Core.Logic.{◌↔◌}
use lib.Dec.{leb}
use package.Rattle.rules.specs.Limits.{fits, max_height, max_variables, max_nodes, max_value_bytes}
use package.Rattle.rules.specs.Val.{Val, unit, size}
use package.Rattle.rules.specs.Ty.{Ty}
use package.Rattle.rules.specs.Term.{Fun, Program}
use package.Rattle.rules.specs.Typing.{WellTyped}
use package.Rattle.rules.specs.Run.{Res, ok, stop, stuck}
use package.Rattle.rules.specs.Machine.{run_forward, run_backward}
use package.Rattle.rules.proofs.Backward.Fits.{run-backward-ends}
use package.Rattle.rules.proofs.Basics.{given}
use package.Rattle.rules.proofs.Numbers.{EndsBy, Ends, ends-wider, run-forward-numbers, run-forward-ends}
use package.Rattle.rules.proofs.Theorems.{tree-forward_iff_rules, backward-then-forward, tree-never-stuck}
use package.Rattle.rules.proofs.Typing.Tests.{leb_yes, leb-sound}
use package.Rattle.calls.specs.Answer.{Answer, accepted, refused, ◌>>=◌, require}
use package.Rattle.calls.specs.Named.{below, member}
use package.Rattle.calls.specs.Values.{value, ancillae}
use package.Rattle.calls.specs.Runs.{prepared, Given, admit, Ran, ran, forward_call, backward_call}
use package.Rattle.calls.specs.Claims.{program_numbers, call_numbers, forward_numbers, backward_numbers, Admitted, answer}
use package.Rattle.calls.proofs.Answer.{refused≢accepted, accepted_inj, via, unbind, first, later, unstop, require_yes, required, require-number}
use package.Rattle.calls.proofs.Refusals.{member_below, range, in_range, number}
use package.Rattle.calls.proofs.Load.{prepared-numbered, prepared_iff}
use package.Rattle.calls.proofs.Runs.Parts.{Admits, admit_iff, admit-numbered, ran_iff, ran-refused}

-- what a run is given
abbrev pub gives : Fun → List Val → Val → Given
gives h vs v = record { fun = h; ancillae = vs; value = v }

----------------------------------------------------------------
-- Directions

pub record Direction : Type 0 where
  -- the type that the given value is held to
  pub side : Fun → Ty
  pub run : Program → Given → ℕ → Res Val
  -- a run of a typed program to which it is admitted leaves no more fuel than was given
  pub left : (P : Program) (fn : ℕ) (as? : Option (List Val)) (v? : Option Val) (a : Given) (f : ℕ) → WellTyped max_variables max_nodes P
      → Admits P fn as? v? side a → (w : Val) (g : ℕ) → run P a f ≡ ok w g → g ≤ f
  -- answers fit, and refusals have a run's numbers
  pub ends : (P : Program) (a : Given) (f : ℕ) → Ends (λ w. fits w ≡ true) (run P a f)
  -- the numbers of refusals
  pub numbers : List ℕ
  pub numbered : (P : Program) (a : Given) (f : ℕ) → EndsBy (λ n k. member n numbers ≡ true) (λ w. fits w ≡ true) (run P a f)
  -- what is admitted to a run of a typed program does not stick
  pub safe : (P : Program) (fn : ℕ) (as? : Option (List Val)) (v? : Option Val) (a : Given) (f : ℕ) → WellTyped max_variables max_nodes P
      → Admits P fn as? v? side a → ¬ (run P a f ≡ stuck)

pub forward-left : (P : Program) (h : Fun) (vs : List Val) (v w : Val) (f g : ℕ) → run_forward fits P max_height h vs v f ≡ ok w g → g ≤ f
forward-left P h vs v w f g p = given ((tree-forward_iff_rules P fits max_height h vs v w f g).0 p) λ (n, d, e). omega arith

pub unit-fits : fits unit ≡ true
unfolding fits max_value_bytes size
unit-fits = refl

pub forward-numbers : (P : Program) (h : Fun) (vs : List Val) (v : Val) (f : ℕ)
    → EndsBy (λ n k. member n forward_numbers ≡ true) (λ w. fits w ≡ true) (run_forward fits P max_height h vs v f)
unfolding range
forward-numbers P h vs v f = ends-wider (λ c k l. in_range 12 4 c l.0 (omega arith)) (run-forward-numbers fits P max_height h vs v f)

pub backward-numbers : (P : Program) (h : Fun) (vs : List Val) (v : Val) (f : ℕ)
    → EndsBy (λ n k. member n backward_numbers ≡ true) (λ w. fits w ≡ true) (run_backward fits P max_height h vs v f)
unfolding range
backward-numbers P h vs v f = ends-wider (λ c k l. in_range 12 5 c l.0 (omega arith)) (run-backward-ends fits P unit-fits max_height h vs v f)

abbrev pub onward : Direction
onward = record {
  side = λ h. h.dynamic;
  run = λ P a f. run_forward fits P max_height a.fun a.ancillae a.value f;
  left = λ P fn as? v? a f T A w g p. forward-left P a.fun a.ancillae a.value w f g p;
  ends = λ P a f. run-forward-ends fits P max_height a.fun a.ancillae a.value f;
  numbers = forward_numbers;
  numbered = λ P a f. forward-numbers P a.fun a.ancillae a.value f;
  safe = λ P fn as? v? a f T A. (tree-never-stuck max_variables max_nodes P T fn a.fun A.function a.ancillae A.ancillae_typed fits max_height f a.value).0 A.value_typed;
}

abbrev pub back : Direction
back = record {
  side = λ h. h.result;
  run = λ P a f. run_backward fits P max_height a.fun a.ancillae a.value f;
  left = λ P fn as? v? a f T A v g p. forward-left P a.fun a.ancillae v a.value f g
      (backward-then-forward max_variables max_nodes P T fn a.fun A.function a.ancillae A.ancillae_typed
      fits max_height v a.value f g A.value_typed p);
  ends = λ P a f. run-backward-ends fits P unit-fits max_height a.fun a.ancillae a.value f;
  numbers = backward_numbers;
  numbered = λ P a f. backward-numbers P a.fun a.ancillae a.value f;
  safe = λ P fn as? v? a f T A. (tree-never-stuck max_variables max_nodes P T fn a.fun A.function a.ancillae A.ancillae_typed fits max_height f a.value).1 A.value_typed;
}

----------------------------------------------------------------
-- The parts before the run

module _ (side : Fun → Ty) (ws fuel fn : ℕ) (program anc bytes : List ℕ) where
  -- they are accepted exactly if the call is admitted
  pub admitted_iff : (P : Program) (a : Given)
      → ((prepared program fuel ws ≡ accepted P) × (admit P fn (ancillae anc) (value bytes) side ≡ accepted a))
      ↔ Admitted program fn anc bytes fuel ws side P a.fun a.ancillae a.value
  admitted_iff P a = (
    λ (p, q). given ((prepared_iff ws fuel program P).0 p) λ (l, F, T). given ((admit_iff P fn (ancillae anc) (value bytes) side a).0 q) λ A. record {
      enough = l;
      formed = F;
      typed = T;
      function = A.function;
      ancillae_read = A.ancillae_read;
      value_read = A.value_read;
      ancillae_typed = A.ancillae_typed;
      value_typed = A.value_typed;
    },
    λ A. (
      (prepared_iff ws fuel program P).1 (A.enough, A.formed, A.typed),
      (admit_iff P fn (ancillae anc) (value bytes) side a).1 (record {
        function = A.function;
        ancillae_read = A.ancillae_read;
        value_read = A.value_read;
        ancillae_typed = A.ancillae_typed;
        value_typed = A.value_typed;
      }),
    ),
  )

----------------------------------------------------------------
-- A call in a direction

module _ (D : Direction) (ws out fuel fn : ℕ) (program anc bytes : List ℕ) where
  -- forward and backward are this call, each in its direction
  unfoldable pub directed : Answer Ran
  directed = do
    P ← prepared program fuel ws
    a ← admit P fn (ancillae anc) (value bytes) D.side
    r ← ran fuel (D.run P a fuel)
    room ← require (leb (size r.value) out) 17 0
    accepted r

  -- it was admitted, its run answers within the fuel, and the output is long enough
  abbrev pub Answers : Val → ℕ → Type 0
  Answers w n = (P : Program) × (h : Fun) × (vs : List Val) × (v : Val) × Admitted program fn anc bytes fuel ws D.side P h vs v
      × (D.run P (gives h vs v) fuel ≡ ok w (fuel - n)) × (n ≤ fuel) × (size w ≤ out)

  directed_iff : (w : Val) (n : ℕ) → (directed ≡ answer w n) ↔ Answers w n
  unfolding directed
  directed_iff w n = (
    λ e.
        given (unbind (prepared program fuel ws) _ e) λ (P, p, e₁).
        given (unbind (admit P fn (ancillae anc) (value bytes) D.side) _ e₁) λ (a, q, e₂).
        given (unbind (ran fuel (D.run P a fuel)) _ e₂) λ (r, s, e₃).
        given (unbind (require (leb (size r.value) out) 17 0) _ e₃) λ (room, t, e₄).
        given ((prepared_iff ws fuel program P).0 p) λ (enough, F, T).
        given ((admit_iff P fn (ancillae anc) (value bytes) D.side a).0 q) λ A.
        given ((ran_iff fuel (D.run P a fuel) (D.left P fn (ancillae anc) (value bytes) a fuel T A) w n).0 (s ∙ e₄)) λ (x, l). (
          P,
          a.fun,
          a.ancillae,
          a.value,
          (admitted_iff D.side ws fuel fn program anc bytes P a).0 (p, q),
          x,
          l,
          subst (λ r. size r.value ≤ out) (accepted_inj e₄) (leb-sound (size r.value) out (required _ 17 0 t)),
        ),
    λ (P, h, vs, v, A, x, l, s).
        given ((admitted_iff D.side ws fuel fn program anc bytes P (gives h vs v)).1 A) λ (p, q).
        given ((admit_iff P fn (ancillae anc) (value bytes) D.side (gives h vs v)).0 q) λ As.
        via _ p (via _ q (via _ ((ran_iff fuel (D.run P (gives h vs v) fuel)
        (D.left P fn (ancillae anc) (value bytes) (gives h vs v) fuel A.typed As) w n).1 (x, l))
        (via _ (require_yes 17 0 (leb_yes (size w) out s)) refl))),
  )

  -- a refusal: before the run, of the run, or of the output
  pub data Refuses (n k : ℕ) : Type 0 where
    before : n ≤ 11 → Refuses n k
    running : (P : Program) (h : Fun) (vs : List Val) (v : Val) → Admitted program fn anc bytes fuel ws D.side P h vs v
        → D.run P (gives h vs v) fuel ≡ stop n k → Refuses n k
    short : n ≡ 17 → Refuses n k

  directed-refused : {n k : ℕ} → directed ≡ refused n k → Refuses n k
  unfolding directed below
  directed-refused {n} {k} e = elim (unstop (prepared program fuel ws) _ e) [
    | first p ↦ before (omega (arith, member_below n 9 program_numbers refl (number (prepared-numbered ws fuel program) p)))
    | later P p e₁ ↦ elim (unstop (admit P fn (ancillae anc) (value bytes) D.side) _ e₁) [
      | first q ↦ before (omega (arith, member_below n 12 call_numbers refl (number (admit-numbered P fn (ancillae anc) (value bytes) D.side) q)))
      | later a q e₂ ↦ elim (unstop (ran fuel (D.run P a fuel)) _ e₂) [
        | first s ↦ during P a p q s
        | later r s e₃ ↦ elim (unstop (require (leb (size r.value) out) 17 0) _ e₃) [
          | first t ↦ short (sym (require-number _ 17 0 t))
          | later room t e₄ ↦ absurd (refused≢accepted (sym e₄))
        ]
      ]
    ]
  ]
    where
      during : (P : Program) (a : Given) → prepared program fuel ws ≡ accepted P → admit P fn (ancillae anc) (value bytes) D.side ≡ accepted a
          → ran fuel (D.run P a fuel) ≡ refused n k → Refuses n k
      during P a p q s = running P a.fun a.ancillae a.value ((admitted_iff D.side ws fuel fn program anc bytes P a).0 (p, q))
          (ran-refused fuel (D.run P a fuel) (D.safe P fn (ancillae anc) (value bytes) a fuel ((prepared_iff ws fuel program P).0 p).2
          ((admit_iff P fn (ancillae anc) (value bytes) D.side a).0 q)) s)

  -- what is admitted is refused as its run is
  pub directed-stops : (P : Program) (h : Fun) (vs : List Val) (v : Val) → Admitted program fn anc bytes fuel ws D.side P h vs v
      → {n k : ℕ} → D.run P (gives h vs v) fuel ≡ stop n k → directed ≡ refused n k
  unfolding directed ran ◌>>=◌
  directed-stops P h vs v A x = given ((admitted_iff D.side ws fuel fn program anc bytes P (gives h vs v)).1 A) λ (p, q).
      via _ p (via _ q (ap (λ y. ran fuel y >>= λ r. require (leb (size r.value) out) 17 0 >>= λ room. accepted r) x))

----------------------------------------------------------------
-- The calls

module _ (ws out fuel fn : ℕ) (program anc bytes : List ℕ) where
  pub forward-call_iff : (w : Val) (n : ℕ) → (forward_call program fn anc bytes fuel ws out ≡ answer w n) ↔ Answers onward ws out fuel fn program anc bytes w n
  unfolding forward_call directed
  forward-call_iff w n = directed_iff onward ws out fuel fn program anc bytes w n

  pub backward-call_iff : (w : Val) (n : ℕ) → (backward_call program fn anc bytes fuel ws out ≡ answer w n) ↔ Answers back ws out fuel fn program anc bytes w n
  unfolding backward_call directed
  backward-call_iff w n = directed_iff back ws out fuel fn program anc bytes w n

  pub forward-call-refused : {n k : ℕ} → forward_call program fn anc bytes fuel ws out ≡ refused n k → Refuses onward ws out fuel fn program anc bytes n k
  unfolding forward_call directed
  forward-call-refused e = directed-refused onward ws out fuel fn program anc bytes e

  pub backward-call-refused : {n k : ℕ} → backward_call program fn anc bytes fuel ws out ≡ refused n k → Refuses back ws out fuel fn program anc bytes n k
  unfolding backward_call directed
  backward-call-refused e = directed-refused back ws out fuel fn program anc bytes e
