-- The claims of specs/Claims about check, forward and backward, each proved under its name.
use Prim.Native.Nat.{ℕ, ◌+◌, ◌-◌, ◌≤◌}
use native.Mathlib.Omega.{arith}
use mathlib.Core.Path.{◌≡◌, refl, sym, ap, subst, ◌∙◌}
use mathlib.Core.Bool.{false, false≢true}
use mathlib.Core.Option.{some}
use mathlib.Core.List.{List, [], ◌++◌}
use mathlib.Core.Logic.{◌⊎◌, inl as left, inr as right, ◌↔◌}
use package.Rattle.rules.specs.Limits.{fits, max_height, max_variables, max_nodes}
use package.Rattle.rules.specs.Val.{Val, size, encode}
use package.Rattle.rules.specs.Ty.{Ty, HasTy, HasTys}
use package.Rattle.rules.specs.Term.{Fun, Program, nth}
use package.Rattle.rules.specs.Typing.{WellTyped}
use package.Rattle.rules.specs.Run.{ok, stop}
use package.Rattle.rules.specs.Machine.{run_forward, run_backward}
use package.Rattle.rules.specs.Claims.{Carries, ChoosesAt}
use package.Rattle.rules.proofs.Basics.{given, some_inj}
use package.Rattle.rules.proofs.Numbers.{answer-ends}
use package.Rattle.rules.proofs.Theorems as Rules
use package.Rattle.calls.specs.Answer.{Answer, refused}
use package.Rattle.calls.specs.Named.{member}
use package.Rattle.calls.specs.Values.{read, value}
use package.Rattle.calls.specs.Runs.{workspace_for, prepared, goes, returns, check_call, forward_call, backward_call}
use package.Rattle.calls.specs.Claims.{CheckIffTyped, Admitted, ForwardIffRules, BackwardIffRules, BackwardIffForward, NoInput, NoValue}
use package.Rattle.calls.specs.Claims.{NeverAtChoice, Injective, MoreNeverChanges, NeverStuck, OldConversionsReturn}
use package.Rattle.calls.proofs.Answer.{accepted_inj, via, unbind}
use package.Rattle.calls.proofs.Values.{got-value, read-encode, value-encode, value-sound}
use package.Rattle.calls.proofs.Refusals.{Numbered, number}
use package.Rattle.calls.proofs.Load.{load_iff, prepared_iff}
use package.Rattle.calls.proofs.Runs.Calls.{gives, Direction, onward, back, directed, Answers, Refuses, before, running, short, directed-stops, forward-call_iff, backward-call_iff, forward-call-refused, backward-call-refused}
use package.Rattle.calls.proofs.Runs.Numbers.{forward-numbered, backward-numbered, convert_numbered, rollback_numbered}

----------------------------------------------------------------
-- Check, forward and backward by the rules

pub check_iff_typed : CheckIffTyped
unfolding check_call
check_iff_typed ws program = (
  λ e. given (unbind (prepared program 0 ws) _ e) λ (P, p, q). given ((prepared_iff ws 0 program P).0 p) λ (l, F, T). (l, (P, F, T)),
  λ (l, (P, F, T)). via _ ((prepared_iff ws 0 program P).1 (l, F, T)) refl,
)

pub forward_iff_rules : ForwardIffRules
forward_iff_rules ws out fuel fn program anc bytes w n = (
  λ e.
      given ((forward-call_iff ws out fuel fn program anc bytes w n).0 e) λ (P, h, vs, v, A, x, l, s).
      given ((Rules.tree-forward_iff_rules P fits max_height h vs v w fuel (fuel - n)).0 x) λ (m, d, y).
      (P, h, vs, v, A, subst (Carries fits P max_height h vs v w) (let z : m ≡ n = omega arith in z) d, l, s),
  λ (P, h, vs, v, A, d, l, s).
      (forward-call_iff ws out fuel fn program anc bytes w n).1
      (P, h, vs, v, A, (Rules.tree-forward_iff_rules P fits max_height h vs v w fuel (fuel - n)).1 (n, d, omega arith), l, s),
)

pub backward_iff_rules : BackwardIffRules
backward_iff_rules ws out fuel fn program anc bytes v n = (
  λ e.
      given ((backward-call_iff ws out fuel fn program anc bytes v n).0 e) λ (P, h, vs, w, A, x, l, s).
      given ((of P h vs w A).0 x) λ (hv, (m, d, y)).
      (P, h, vs, w, A, hv, subst (Carries fits P max_height h vs v w) (let z : m ≡ n = omega arith in z) d, l, s),
  λ (P, h, vs, w, A, hv, d, l, s). (backward-call_iff ws out fuel fn program anc bytes v n).1 (P, h, vs, w, A, (of P h vs w A).1 (hv, (n, d, omega arith)), l, s),
)
  where
    of : (P : Program) (h : Fun) (vs : List Val) (w : Val) → Admitted program fn anc bytes fuel ws (λ h. h.result) P h vs w
        → (run_backward fits P max_height h vs w fuel ≡ ok v (fuel - n))
        ↔ (HasTy v h.dynamic × ((m : ℕ) × Carries fits P max_height h vs v w m × (fuel ≡ m + (fuel - n))))
    of P h vs w A =
        Rules.tree-backward_iff_rules max_variables max_nodes P A.typed fn h A.function vs A.ancillae_typed
        fits max_height v w fuel (fuel - n) A.value_typed

----------------------------------------------------------------
-- Backward is forward, turned

-- what is read from a value's bytes is the value
read_back : (v : Val) {w : Val} → value (encode v) ≡ some w → v ≡ w
read_back v {w} e = got-value (sym (read-encode v (size v + size w) [] (omega arith))
    ∙ ap (λ xs. read (size v + size w) (xs ++ [])) (value-sound (encode v) e).0 ∙ read-encode w (size v + size w) [] (omega arith))

module _ (D D' : Direction) where
  -- an answer in one direction, run in the other, gives what was given
  abbrev Turns : Type 0
  Turns = (P : Program) → WellTyped max_variables max_nodes P → (fn : ℕ) (h : Fun) → nth P fn ≡ some h → (vs : List Val) → HasTys vs h.ancillae
      → (v w : Val) (f g : ℕ) → HasTy v (D.side h) → D.run P (gives h vs v) f ≡ ok w g
      → HasTy w (D'.side h) × (D'.run P (gives h vs w) f ≡ ok v g)

  turn : Turns → (ws out out' fuel fn : ℕ) (program anc : List ℕ) (v w : Val) (n : ℕ) → size v ≤ out'
      → Answers D ws out fuel fn program anc (encode v) w n → Answers D' ws out' fuel fn program anc (encode w) v n
  turn T ws out out' fuel fn program anc v w n s (P, h, vs, u, A, x, l, s') =
      given (T P A.typed fn h A.function vs A.ancillae_typed u w fuel (fuel - n) A.value_typed x) λ (hw, y). (
        P,
        h,
        vs,
        w,
        record {
          enough = A.enough;
          formed = A.formed;
          typed = A.typed;
          function = A.function;
          ancillae_read = A.ancillae_read;
          value_read = value-encode w (answer-ends (D.ends P (gives h vs u) fuel) x);
          ancillae_typed = A.ancillae_typed;
          value_typed = hw;
        },
        y ∙ ap (λ u. ok u (fuel - n)) (sym (read_back v A.value_read)),
        l,
        s,
      )

onward-turns : Turns onward back
onward-turns P T fn h p vs hs v w f g hv x =
    given ((Rules.keeps-types max_variables max_nodes P T fn h p vs hs fits max_height f g v w).0 hv x) λ hw.
    (hw, (Rules.tree-backward_iff_forward max_variables max_nodes P T fn h p vs hs fits max_height v w f g hw).1 (hv, x))

back-turns : Turns back onward
back-turns P T fn h p vs hs w v f g hw x = (Rules.tree-backward_iff_forward max_variables max_nodes P T fn h p vs hs fits max_height v w f g hw).0 x

pub backward_iff_forward : BackwardIffForward
backward_iff_forward ws out out' fuel fn program anc v w n s s' = (
  λ e. (forward-call_iff ws out' fuel fn program anc (encode v) w n).1
      (turn back onward back-turns ws out out' fuel fn program anc w v n s' ((backward-call_iff ws out fuel fn program anc (encode w) v n).0 e)),
  λ e. (backward-call_iff ws out fuel fn program anc (encode w) v n).1
      (turn onward back onward-turns ws out' out fuel fn program anc v w n s ((forward-call_iff ws out' fuel fn program anc (encode v) w n).0 e)),
)

----------------------------------------------------------------
-- Refusals

pub no_input : NoInput
no_input ws out fuel fn program anc bytes k e = elim (backward-call-refused ws out fuel fn program anc bytes e) [
  | before l ↦ absurd (omega arith)
  | running P h vs w A x ↦ (
    P,
    h,
    vs,
    w,
    A,
    λ fits' r n v hv d.
        Rules.tree-no_input max_variables max_nodes P A.typed fn h A.function vs A.ancillae_typed fits fits' max_height r v w fuel k n hv x d,
  )
  | short e' ↦ absurd (omega arith)
]

pub no_value : NoValue
no_value ws out fuel fn program anc bytes k e = elim (forward-call-refused ws out fuel fn program anc bytes e) [
  | before l ↦ absurd (omega arith)
  | running P h vs v A x ↦ (P, h, vs, v, A, λ fits' r n w d. Rules.tree-no-value P fits fits' max_height r h vs v w fuel k n x d)
  | short e' ↦ absurd (omega arith)
]

pub never-at_choice : NeverAtChoice
never-at_choice ws out fuel fn program anc bytes k = (
  λ e. elim (forward-call-refused ws out fuel fn program anc bytes e) [
    | before l ↦ absurd (omega arith)
    | running P h vs v A x ↦ (P, h, vs, v, A, λ C. (spared P h vs A.typed A.function A.ancillae_typed C v).0 x)
    | short e' ↦ absurd (omega arith)
  ],
  λ e. elim (backward-call-refused ws out fuel fn program anc bytes e) [
    | before l ↦ absurd (omega arith)
    | running P h vs w A x ↦ (P, h, vs, w, A, λ C. (spared P h vs A.typed A.function A.ancillae_typed C w).1 x)
    | short e' ↦ absurd (omega arith)
  ],
)
  where
    spared : (P : Program) (h : Fun) (vs : List Val) → WellTyped max_variables max_nodes P → nth P fn ≡ some h → HasTys vs h.ancillae → ChoosesAt P k
        → (v : Val) → (¬ (run_forward fits P max_height h vs v fuel ≡ stop 15 k)) × (¬ (run_backward fits P max_height h vs v fuel ≡ stop 15 k))
    spared P h vs T found hs C v = Rules.tree-never-at_choice max_variables max_nodes P T fn h found vs hs k C fits max_height fuel v

-- numbers begin with 1
not_zero : {A : Type 0} {ns : List ℕ} {k : ℕ} {x : Answer A} → member 0 ns ≡ false → Numbered ns x → ¬ (x ≡ refused 0 k)
not_zero z h e = false≢true (sym z ∙ number h e)

pub never_stuck : NeverStuck
unfolding member
never_stuck ws out fuel fn program anc bytes k = (
  not_zero refl (forward-numbered ws out fuel fn program anc bytes),
  not_zero refl (backward-numbered ws out fuel fn program anc bytes),
  not_zero refl (convert_numbered ws fuel fn program anc bytes),
  not_zero refl (rollback_numbered ws fuel program bytes),
)

----------------------------------------------------------------
-- Other inputs, and more fuel, workspace or output

-- what the rules carry in a program, function and ancillae, they carry in equal ones
carried : {P P' : Program} {h h' : Fun} {vs vs' : List Val} (v w : Val) (n : ℕ) → P ≡ P' → h ≡ h' → vs ≡ vs'
    → Carries fits P max_height h vs v w n → Carries fits P' max_height h' vs' v w n
carried {P} {P'} {h} {h'} {vs} {vs'} v w n p q r d = subst (λ P. Carries fits P max_height h' vs' v w n) p
    (subst (λ h. Carries fits P max_height h vs' v w n) q (subst (λ vs. Carries fits P max_height h vs v w n) r d))

pub injective : Injective
injective ws ws' out out' fuel fuel' fn program anc bytes bytes' w n n' e e' =
    given ((forward_iff_rules ws out fuel fn program anc bytes w n).0 e) λ (P, h, vs, v, A, d, l, s).
    given ((forward_iff_rules ws' out' fuel' fn program anc bytes' w n').0 e') λ (P', h', vs', v', A', d', l', s').
    given (accepted_inj (sym ((load_iff program P').1 (A'.formed, A'.typed)) ∙ (load_iff program P).1 (A.formed, A.typed))) λ p.
    given (some_inj (sym A'.function ∙ ap (λ P. nth P fn) p ∙ A.function)) λ q.
    given (some_inj (sym A'.ancillae_read ∙ A.ancillae_read)) λ r.
    given (Rules.tree-injective max_variables max_nodes P A.typed fn h A.function vs A.ancillae_typed fits fits max_height max_height v v' w n n'
    A.value_typed (subst (λ h. HasTy v' h.dynamic) q A'.value_typed) d (carried v' w n' p q r d')) λ same.
    (value-sound bytes A.value_read).0 ∙ ap encode same ∙ sym (value-sound bytes' A'.value_read).0

-- a call that is admitted, with another workspace that suffices for other fuel
enough : {ws fuel fn : ℕ} {program anc bytes : List ℕ} {side : Fun → Ty} {P : Program} {h : Fun} {vs : List Val} {v : Val} (ws' fuel' : ℕ)
    → workspace_for fuel' ≤ ws' → Admitted program fn anc bytes fuel ws side P h vs v → Admitted program fn anc bytes fuel' ws' side P h vs v
enough ws' fuel' m A = record {
  enough = m;
  formed = A.formed;
  typed = A.typed;
  function = A.function;
  ancillae_read = A.ancillae_read;
  value_read = A.value_read;
  ancillae_typed = A.ancillae_typed;
  value_typed = A.value_typed;
}

-- a refusal 15 or 16 is the run's, and the run meets it with more fuel too
module _ {ws out fuel fn : ℕ} {program anc bytes : List ℕ} (ws' out' fuel' : ℕ) (m : workspace_for fuel' ≤ ws') (f : fuel ≤ fuel') where
  still-refused : (D : Direction) {c k : ℕ}
      → ((P : Program) (h : Fun) (vs : List Val) (v : Val) → D.run P (gives h vs v) fuel ≡ stop c k → D.run P (gives h vs v) (fuel + (fuel' - fuel)) ≡ stop c k)
      → (c ≡ 15) ⊎ (c ≡ 16) → Refuses D ws out fuel fn program anc bytes c k → directed D ws' out' fuel' fn program anc bytes ≡ refused c k
  still-refused D grows (left e) (before l) = absurd (omega arith)
  still-refused D grows (right e) (before l) = absurd (omega arith)
  still-refused D grows c (running P h vs v A x) =
      directed-stops D ws' out' fuel' fn program anc bytes P h vs v (enough ws' fuel' m A)
      (ap (D.run P (gives h vs v)) (let z : fuel' ≡ fuel + (fuel' - fuel) = omega arith in z) ∙ grows P h vs v x)
  still-refused D grows (left e) (short e') = absurd (omega arith)
  still-refused D grows (right e) (short e') = absurd (omega arith)

pub more-never_changes : MoreNeverChanges
unfolding forward_call backward_call goes returns directed
more-never_changes ws ws' out out' fuel fuel' fn program anc bytes m o f = (
  (
    λ w n e. given ((forward_iff_rules ws out fuel fn program anc bytes w n).0 e) λ (P, h, vs, v, A, d, l, s).
        (forward_iff_rules ws' out' fuel' fn program anc bytes w n).1 (P, h, vs, v, enough ws' fuel' m A, d, omega arith, omega arith),
    λ c k n e. still-refused ws' out' fuel' m f onward
        (λ P h vs v x. ((Rules.tree-more-never_changes P h vs v).0 fits fits max_height max_height fuel (fuel' - fuel) (λ u t. t) (omega arith)).1 c k n x)
        n (forward-call-refused ws out fuel fn program anc bytes e),
  ),
  (
    λ w n e. given ((backward_iff_rules ws out fuel fn program anc bytes w n).0 e) λ (P, h, vs, v, A, hw, d, l, s).
        (backward_iff_rules ws' out' fuel' fn program anc bytes w n).1 (P, h, vs, v, enough ws' fuel' m A, hw, d, omega arith, omega arith),
    λ c k n e. still-refused ws' out' fuel' m f back
        (λ P h vs v x. ((Rules.tree-more-never_changes P h vs v).1 fits fits max_height max_height fuel (fuel' - fuel) (λ u t. t) (omega arith)).1 c k n x)
        n (backward-call-refused ws out fuel fn program anc bytes e),
  ),
)

----------------------------------------------------------------
-- Wider limits

pub old-conversions_return : OldConversionsReturn
old-conversions_return variables most P T fn h p vs hs narrow wide r r' f g n v w wider l hv d e =
    given ((Rules.tree-forward_iff_rules P narrow r h vs v w f g).1 (n, d, e)) λ x.
    given ((Rules.keeps-types variables most P T fn h p vs hs narrow r f g v w).0 hv x) λ hw.
    given ((Rules.tree-backward_iff_forward variables most P T fn h p vs hs narrow r v w f g hw).1 (hv, x)) λ y.
    given (((Rules.tree-more-never_changes P h vs w).1 narrow wide r r' f 0 wider l).0 v g y) λ z.
    ap (run_backward wide P r' h vs w) (let q : f ≡ f + 0 = omega arith in q) ∙ z ∙ ap (ok v) (let q : g + 0 ≡ g = omega arith in q)
