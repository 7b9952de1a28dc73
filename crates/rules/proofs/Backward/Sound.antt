-- What backward answers, the rules yield.
use Prim.Native.Nat.{ℕ, zero, suc, ◌+◌, ◌<◌}
use native.Mathlib.Omega.{arith}
use mathlib.Core.Path.{◌≡◌, refl, sym, ap, subst, ◌∙◌}
use mathlib.Core.Bool.{Bool, true, false, not}
use mathlib.Core.Option.{none, some}
use mathlib.Core.List.{List, [], ◌∷◌, map}
use lib.ListN.{length}
use package.Rattle.rules.specs.Val.{Val, unit, inl, inr, pair, roll}
use package.Rattle.rules.specs.Ty.{Ty, prod, sum, mu, unfold_ty}
use package.Rattle.rules.specs.Term.{Term, var, tunit, tinl, tinr, tpair, tlet, tletp, tcase, tcall, troll, tunroll, Terms, Fun, Program}
use package.Rattle.rules.specs.Term.{nth, scope, by_ancilla}
use package.Rattle.rules.specs.Yield.{may_yield, first_match}
use package.Rattle.rules.specs.Rules.{Rule, e_var, e_unit, e_inl, e_inr, e_prod, e_let, e_letp, e_casel, e_caser, e_app, e_roll, e_unroll, Ev}
use package.Rattle.rules.specs.Run.{ok, Run, ◌>>=◌, enter}
use package.Rattle.rules.specs.Machine.{on_sum, State, leave, filled, each, forward, branch_back, case_back, backward_step, backward}
use package.Rattle.rules.proofs.OfType.{OfType, OfTypes}
use package.Rattle.rules.proofs.Basics.{given, some_inj, or_left, or_right}
use package.Rattle.rules.proofs.Backward.Safe.{BackSafe, scrutinee, backward-safe}
use package.Rattle.rules.proofs.Choice.{scrutinee-allowed}
use package.Rattle.rules.proofs.Directed.{WithinAll, allowed, lend, nothing, Spent, Typed, TypedAll, TypedProgram}
use package.Rattle.rules.proofs.Fine.{fine-answer}
use package.Rattle.rules.proofs.Forward.Safe.{Safe, each-safe, forward-safe}
use package.Rattle.rules.proofs.Known.{Knows, Mono, knows-full, enough-filled}
use package.Rattle.rules.proofs.Preserve.{types-length}
use package.Rattle.rules.proofs.Scope.{length-scope}
use package.Rattle.rules.proofs.StateTy.{StateTy, state-length, length-full, Gives, gives-filled, Left, pop_inv, fill-typed}
use package.Rattle.rules.proofs.StateTy.{Here, here-push, here-bound, here_grow, here-lend, here-call}
use package.Rattle.rules.proofs.Forward.Sound.{Yields, Sound, each-sound, sound}
use package.Rattle.rules.proofs.Run.{unbind, stop≢ok, stuck≢ok, ok-value, ok-fuel, test_inv, some_inv, pair_inv, roll_inv, unit_inv, left_inv, right_inv}
use package.Rattle.rules.proofs.State.{Agree, agree-length, full-agree, fill, agree-fill, meet-sound, Enough}

-- a state that knows no less than all ancillae
pub all_known : (vs : List Val) (σ : State) (cs : List Ty) → OfTypes vs cs → StateTy σ (scope cs [])
    → Mono (map some (scope vs [])) σ → (i : ℕ) → i < length σ → Knows σ i
all_known vs σ cs h st mo i l =
    let l₁ : length (scope vs []) ≡ length vs + 0 = length-scope vs [] in
    let l₂ : length vs ≡ length cs = types-length vs cs h in
    let l₃ : length (scope cs []) ≡ length cs + 0 = length-scope cs [] in
    let l₄ : length σ ≡ length (scope cs []) = state-length σ (scope cs []) st in
    mo i (knows-full (scope vs []) i (omega arith))

module _ (fits : Val → Bool) (P : Program) (W : TypedProgram P) where
  -- `go` answers bindings only with which the rules yield the value, and takes none back. Of a program that is not typed that does not
  -- hold: a term run forward reads as unit what is not met, whatever it is bound to later.
  abbrev pub BackSound : ℕ → (List Val → State → Term → Val → Run State) → Type 0
  BackSound r go = (a : List Val) (σ : State) (t : Term) (v : Val) (f : ℕ) (σ' : State) (g : ℕ) → go a σ t v f ≡ ok σ' g
      → (q : ℕ) (M : ℕ → Bool) (Γ : List Ty) (τ : Ty) → Typed P q M Γ t τ → OfType v τ → Here a q M Γ σ
      → (ρ : List Val) → Agree σ' ρ → OfTypes ρ Γ → Yields fits P r a ρ t v f g × Agree σ ρ

  module _ (r : ℕ) (fw : List Val → State → Term → Run Val) (S : Sound fits P r fw) (SF : Safe fits P W fw)
      (go : List Val → State → Term → Val → Run State) (B : BackSound r go) (BS : BackSafe fits P W go)
      (a : List Val) (σ : State) (v : Val) (f : ℕ) (σ' : State) (g : ℕ) (q : ℕ) (M : ℕ → Bool) (Γ : List Ty) (hr : Here a q M Γ σ)
      (ρ : List Val) (h : Agree σ' ρ) (env : OfTypes ρ Γ) (ft : fits v ≡ true) where
    abbrev Goal : Term → Type 0
    Goal t = Yields fits P (suc r) a ρ t v (suc f) g × Agree σ ρ

    l : length σ ≡ length Γ
    l = state-length σ Γ hr.state

    -- what a term reads that is run forward here
    given_here : Gives (allowed M q (length Γ)) (filled σ) Γ
    given_here = gives-filled M q Γ σ hr.state hr.anc hr.lent

    enough-here : Agree σ ρ → Enough (allowed M q (length Γ)) (filled σ) ρ
    enough-here ag = enough-filled M q Γ σ ρ ag env hr.anc hr.lent

    -- the body `b` ran back to `σ₁`, the newest variable left, and `e` ran back with its value
    let_back : (b : Term) (c τ : Ty) (σ₁ : State) (f₁ : ℕ) (C : Type 0) (k : Val → State → Run State)
        → Typed P q M (c ∷ Γ) b τ → OfType v τ → Spent (length Γ) c b
        → go a (none ∷ σ) b v f ≡ ok σ₁ f₁ → leave σ₁ k f₁ ≡ ok σ' g
        → ((w : Val) (σ₂ : State) → OfType w c → Left q Γ b σ σ₂ → k w σ₂ f₁ ≡ ok σ' g → (Agree σ₂ ρ → Yields fits P r a (w ∷ ρ) b v f f₁ × Agree σ ρ) → C) → C
    let_back b c τ σ₁ f₁ C k T hv s p p' on =
        given (pop_inv k q Γ c b none σ σ₁ l hr.le s (fine-answer (BS a (none ∷ σ) b v q M (c ∷ Γ) τ T hv (here-push c hr) f) p) p')
        λ (m, σ₂, w, x, fit, hw, L, p₂).
        on w σ₂ hw L p₂ λ h₁.
        given (B a (none ∷ σ) b v f (m ∷ σ₂) f₁ (p ∙ ap (λ σ. ok σ f₁) x) q M (c ∷ Γ) τ T hv (here-push c hr) (w ∷ ρ) (fit, h₁) (hw, env)) λ (y, h₂). (y, h₂.1)

    -- a branch ran back with its variable bound
    branch_back_lem : (u : Term) (c τ : Ty) (w : Val) (f₁ : ℕ) → Typed P q M (c ∷ Γ) u τ → OfType v τ → OfType w c → Spent (length Γ) c u
        → branch_back go a σ u v w f₁ ≡ ok σ' g → Yields fits P r a (w ∷ ρ) u v f₁ g × Agree σ ρ
    unfolding branch_back
    branch_back_lem u c τ w f₁ T hv hw s p =
        given (unbind _ _ p) λ (σ₁, f₂, p₁, p₂). given (here-bound c w hw hr) λ hb.
        given (pop_inv _ q Γ c u (some w) σ σ₁ l hr.le s (fine-answer (BS a (some w ∷ σ) u v q M (c ∷ Γ) τ T hv hb f₁) p₁) p₂)
        λ (m, σ₂, x, same, fit, hx, L, z).
        given (B a (some w ∷ σ) u v f₁ (m ∷ σ₂) f₂ (p₁ ∙ ap (λ σ. ok σ f₂) same) q M (c ∷ Γ) τ T hv hb (x ∷ ρ)
        (fit, subst (λ σ. Agree σ ρ) (sym (ok-value z)) h) (hx, env)) λ (y, (e, h₁)).
        (subst (λ g. Yields fits P r a (w ∷ ρ) u v f₁ g) (ok-fuel z) (subst (λ x. Yields fits P r a (x ∷ ρ) u v f₁ f₂) (sym e) y), h₁)

    -- a case that chooses by an ancilla (02, F-3): the scrutinee ran forward, then the branch `u` for its value ran back
    chosen-back : (e u : Term) (c d τ : Ty) (s w : Val) (f₁ : ℕ) → by_ancilla (length a) (length σ) e ≡ true → Typed P q M Γ e d → Typed P q M (c ∷ Γ) u τ
        → OfType v τ → (OfType s d → OfType w c) → Spent (length Γ) c u → fw a (filled σ) e f ≡ ok s f₁ → branch_back go a σ u v w f₁ ≡ ok σ' g
        → Yields fits P r a ρ e s f f₁ × Yields fits P r a (w ∷ ρ) u v f₁ g × Agree σ ρ
    chosen-back e u c d τ s w f₁ x T T' hv hk sp p p' =
        given (scrutinee-allowed q (length Γ) e M (scrutinee fits P W fw SF go BS a σ q M Γ hr e x)) λ inner.
        given (branch_back_lem u c τ w f₁ T' hv (hk (fine-answer (SF a (filled σ) e q M Γ d T (allowed M q (length Γ)) inner given_here f) p)) sp p') λ (y, h₁).
        (S a (filled σ) ρ (allowed M q (length Γ)) (enough-here h₁) e inner f s f₁ p, y, h₁)

    ancilla-back : (k : ℕ) (e b b' : Term) (τ : Ty) (s : Val) (f₁ : ℕ) → Typed P q M Γ (tcase k e b b') τ → OfType v τ
        → by_ancilla (length a) (length σ) e ≡ true → fw a (filled σ) e f ≡ ok s f₁
        → on_sum s (branch_back go a σ b v) (branch_back go a σ b' v) f₁ ≡ ok σ' g → Goal (tcase k e b b')
    unfolding on_sum first_match
    ancilla-back k e b b' τ unit f₁ T hv x p p' = absurd (stuck≢ok p')
    ancilla-back k e b b' τ (inl w) f₁ (c, c', T, T₁, T₂, u, u', su) hv x p p' =
        given (chosen-back e b c (sum c c') τ (inl w) w f₁ x T T₁ hv (λ h. h) u p p') λ ((n, d, s), (m, d', s'), h₁).
        ((suc (n + m), e_casel d d', omega arith), h₁)
    ancilla-back k e b b' τ (inr w) f₁ (c, c', T, T₁, T₂, u, u', su) hv x p p' =
        given (chosen-back e b' c' (sum c c') τ (inr w) w f₁ x T T₂ hv (λ h. h) u' p p') λ ((n, d, s), (m, d', s'), h₁).
        given (subst (λ n. by_ancilla (length a) n e ≡ true) (agree-length σ ρ h₁) x) λ chooses.
        ((suc (n + m), e_caser d d' (or_left (not (may_yield a b v)) chooses), omega arith), h₁)
    ancilla-back k e b b' τ (pair w w') f₁ T hv x p p' = absurd (stuck≢ok p')
    ancilla-back k e b b' τ (roll w) f₁ T hv x p p' = absurd (stuck≢ok p')

    case_back_lem : (k : ℕ) (e b b' : Term) (τ : Ty) (c y : Bool) → Typed P q M Γ (tcase k e b b') τ → OfType v τ → by_ancilla (length a) (length σ) e ≡ c
        → may_yield a b v ≡ y → case_back fw go a σ e b b' v c y f ≡ ok σ' g → Goal (tcase k e b b')
    unfolding case_back first_match
    case_back_lem k e b b' τ true y T hv x z p = given (unbind _ _ p) λ (s, f₁, p₁, p₂). ancilla-back k e b b' τ s f₁ T hv x p₁ p₂
    case_back_lem k e b b' τ false true (c, c', T, T₁, T₂, u, u', su) hv x y p =
        given (unbind _ _ p) λ (σ₁, f₁, p₁, p₂).
        let_back b c τ σ₁ f₁ (Goal (tcase k e b b')) _ T₁ hv u p₁ p₂ λ w σ₂ hw (st, mo, bd) p₃ on.
        given (B a σ₂ e (inl w) f₁ σ' g p₃ q M Γ (sum c c') T hw (here_grow σ₂ hr st mo) ρ h env) λ ((n, d, s), h₁).
        given (on h₁) λ ((m, d', s'), h₂).
        ((suc (n + m), e_casel d d', omega arith), h₂)
    case_back_lem k e b b' τ false false (c, c', T, T₁, T₂, u, u', su) hv x y p =
        given (unbind _ _ p) λ (σ₁, f₁, p₁, p₂).
        let_back b' c' τ σ₁ f₁ (Goal (tcase k e b b')) _ T₂ hv u' p₁ p₂ λ w σ₂ hw (st, mo, bd) p₃ on.
        given (B a σ₂ e (inr w) f₁ σ' g p₃ q M Γ (sum c c') T hw (here_grow σ₂ hr st mo) ρ h env) λ ((n, d, s), h₁).
        given (on h₁) λ ((m, d', s'), h₂).
        ((suc (n + m), e_caser d d' (or_right (by_ancilla (length a) (length ρ) e) (ap not y)), omega arith), h₂)

    -- the ancilla terms ran forward, the called body back, and the dynamic term back
    call_back : (k j : ℕ) (ts : Terms) (e : Term) (τ : Ty) (fn : Fun) (vs : List Val) (f₁ : ℕ)
        → nth P j ≡ some fn → TypedAll P (length Γ) M Γ ts fn.ancillae → Typed P q M Γ e fn.dynamic
        → OfType v fn.result → WithinAll (allowed M q (length Γ)) ts → each (fw a (filled σ)) ts f ≡ ok vs f₁
        → (go (scope vs []) (none ∷ map some (scope vs [])) fn.body v >>= λ σ₁. leave σ₁ λ w σ₂. go a σ e w) f₁ ≡ ok σ' g → Goal (tcall k j ts e)
    call_back k j ts e τ fn vs f₁ x Ts T hv ins p₁ p =
        given (unbind _ _ p) λ (σ₁, f₂, p₂, p₃).
        given (fine-answer (each-safe fits P W fw SF a (filled σ) q M Γ (allowed M q (length Γ)) given_here (length Γ) ts fn.ancillae Ts ins f) p₁) λ hs.
        given (here-call vs fn.ancillae fn.dynamic hs) λ hc.
        let l₁ : length (scope vs []) ≡ length vs + 0 = length-scope vs [] in
        let l₂ : length vs ≡ length fn.ancillae = types-length vs fn.ancillae hs in
        let l₃ : length (scope fn.ancillae []) ≡ length fn.ancillae + 0 = length-scope fn.ancillae [] in
        let l₄ : length (map some (scope vs [])) ≡ length (scope vs []) = length-full (scope vs []) in
        given (pop_inv _ (length fn.ancillae) (scope fn.ancillae []) fn.dynamic fn.body none (map some (scope vs [])) σ₁ (omega arith) (omega arith)
        (subst (λ i. Spent i fn.dynamic fn.body) (let y : length fn.ancillae ≡ length (scope fn.ancillae []) = omega arith in y) (W j fn x).1)
        (fine-answer (BS (scope vs []) (none ∷ map some (scope vs [])) fn.body v (length fn.ancillae) nothing (fn.dynamic ∷ scope fn.ancillae [])
        fn.result (W j fn x).0 hv hc f₁) p₂)
        p₃) λ (m₁, σ₂, w, y, fit, hw, (st, mo, bd), p₄).
        given (B a σ e w f₂ σ' g p₄ q M Γ fn.dynamic T hw hr ρ h env) λ ((m, d, s), h₁).
        given (each-sound fits P r fw S a (filled σ) ρ (allowed M q (length Γ)) (enough-here h₁) ts ins f vs f₁ p₁) λ (n, ds, s₁).
        given (B (scope vs []) (none ∷ map some (scope vs [])) fn.body v f₁ (m₁ ∷ σ₂) f₂ (p₂ ∙ ap (λ σ. ok σ f₂) y)
        (length fn.ancillae) nothing (fn.dynamic ∷ scope fn.ancillae [])
        fn.result (W j fn x).0 hv hc (w ∷ fill σ₂) (fit, agree-fill σ₂)
        (hw, fill-typed σ₂ (scope fn.ancillae []) st (all_known vs σ₂ fn.ancillae hs st mo))) λ ((k', d', s₃), h₂).
        given (full-agree (scope vs []) (fill σ₂) h₂.1) λ z.
        ((suc (n + (m + k')), e_app x ds d (subst (λ ρ. Ev fits P r (scope vs []) (w ∷ ρ) fn.body v k') (sym z) d'), omega arith), h₁)

    step_back : (t : Term) (τ : Ty) → Typed P q M Γ t τ → OfType v τ → backward_step fits P fw go a σ t v f ≡ ok σ' g → Goal t
    unfolding backward_step
    step_back (var k i) τ T hv p =
        given (meet-sound k σ i v f σ' g p ρ h) λ (x, h₁, y).
        ((1, e_var x ft, omega arith), h₁)
    step_back (tunit k) τ T hv p =
        given (unit_inv v _ p) λ (x, p₁). (
          (1, subst (λ v. Rule fits P (Ev fits P r) a ρ (tunit k) v 1) x (e_unit (subst (λ v. fits v ≡ true) (sym x) ft)), omega (arith, ok-fuel p₁)),
          subst (λ σ. Agree σ ρ) (sym (ok-value p₁)) h,
        )
    step_back (tinl k c e) τ (a₁, b₁, y, z, T) hv p =
        given (left_inv v _ _ _ p) λ (w, x, p₁).
        given (subst (λ v. OfType v (sum a₁ b₁)) (sym x) (subst (OfType v) (sym (y ∙ z)) hv)) λ hw.
        given (B a σ e w f σ' g p₁ q M Γ a₁ T hw hr ρ h env) λ ((n, d, s), h₁).
        ((suc n, subst (λ v. Rule fits P (Ev fits P r) a ρ (tinl k c e) v (suc n)) x (e_inl d (subst (λ v. fits v ≡ true) (sym x) ft)), omega arith), h₁)
    step_back (tinr k c e) τ (a₁, b₁, y, z, T) hv p =
        given (right_inv v _ _ _ p) λ (w, x, p₁).
        given (subst (λ v. OfType v (sum a₁ b₁)) (sym x) (subst (OfType v) (sym (y ∙ z)) hv)) λ hw.
        given (B a σ e w f σ' g p₁ q M Γ b₁ T hw hr ρ h env) λ ((n, d, s), h₁).
        ((suc n, subst (λ v. Rule fits P (Ev fits P r) a ρ (tinr k c e) v (suc n)) x (e_inr d (subst (λ v. fits v ≡ true) (sym x) ft)), omega arith), h₁)
    step_back (tpair k e e') τ (a₁, b₁, y, T, T') hv p =
        given (pair_inv v _ p) λ (w, w', x, p₀).
        given (subst (λ v. OfType v (prod a₁ b₁)) x (subst (OfType v) (sym y) hv)) λ (hw, hw').
        given (unbind _ _ p₀) λ (σ₁, f₁, p₁, p₂).
        given (fine-answer (BS a σ e w q M Γ a₁ T hw hr f) p₁) λ (st, mo, bd).
        given (B a σ₁ e' w' f₁ σ' g p₂ q M Γ b₁ T' hw' (here_grow σ₁ hr st mo) ρ h env) λ ((m, d', s'), h₁).
        given (B a σ e w f σ₁ f₁ p₁ q M Γ a₁ T hw hr ρ h₁ env) λ ((n, d, s), h₂).
        ((suc (n + m), subst (λ v. Rule fits P (Ev fits P r) a ρ (tpair k e e') v (suc (n + m))) (sym x) (e_prod d d' (subst (λ v. fits v ≡ true) x ft)), omega arith), h₂)
    step_back (tlet k e b) τ (c, T, T', u) hv p =
        given (unbind _ _ p) λ (σ₁, f₁, p₁, p₂).
        let_back b c τ σ₁ f₁ (Goal (tlet k e b)) _ T' hv u p₁ p₂ λ w σ₂ hw L p₃ on.
        given (B a σ₂ e w f₁ σ' g p₃ q (lend M (length Γ) b) Γ c T hw (here-lend b σ₂ hr L) ρ h env) λ ((n, d, s), h₁).
        given (on h₁) λ ((m, d', s'), h₂).
        ((suc (n + m), e_let d d', omega arith), h₂)
    step_back (tletp k e b) τ (c, c', T, T', u, u') hv p =
        given (unbind _ _ p) λ (σ₁, f₁, p₁, p₀).
        given (here-push c' (here-push c hr)) λ hb.
        given (pop_inv _ q (c ∷ Γ) c' b none (none ∷ σ) σ₁ (ap suc l) (omega (arith, hr.le)) u'
        (fine-answer (BS a (none ∷ none ∷ σ) b v q M (c' ∷ c ∷ Γ) τ T' hv hb f) p₁) p₀)
        λ (m₁, σ₂, w₁, x₁, fit₁, hw₁, L₁, p₂).
        given (pop_inv _ q Γ c b none σ σ₂ l hr.le u L₁ p₂) λ (m₂, σ₃, w₂, x₂, fit₂, hw₂, L₂, p₃).
        given (B a σ₃ e (pair w₂ w₁) f₁ σ' g p₃ q (lend M (length Γ) b) Γ (prod c c') T (hw₂, hw₁) (here-lend b σ₃ hr L₂) ρ h env) λ ((n, d, s), h₁).
        given (B a (none ∷ none ∷ σ) b v f (m₁ ∷ m₂ ∷ σ₃) f₁ (p₁ ∙ ap (λ σ. ok σ f₁) (x₁ ∙ ap (λ σ. m₁ ∷ σ) x₂))
        q M (c' ∷ c ∷ Γ) τ T' hv hb (w₁ ∷ w₂ ∷ ρ) (fit₁, (fit₂, h₁)) (hw₁, (hw₂, env)))
        λ ((m, d', s'), h₂).
        ((suc (n + m), e_letp d d', omega arith), h₂.1.1)
    step_back (tcase k e b b') τ T hv p = case_back_lem k e b b' τ (by_ancilla (length a) (length σ) e) (may_yield a b v) T hv refl refl p
    step_back (tcall k j ts e) τ (fn', y, Ts, T, z, ins) hv p =
        given (some_inv _ _ p) λ (fn, x, p₀).
        given (some_inj (sym y ∙ x)) λ same.
        given (unbind _ _ p₀) λ (vs, f₁, p₁, p₂).
        call_back k j ts e τ fn vs f₁ x (subst (λ (h : Fun). TypedAll P (length Γ) M Γ ts h.ancillae) same Ts)
        (subst (λ (h : Fun). Typed P q M Γ e h.dynamic) same T)
        (subst (λ (h : Fun). OfType v h.result) same (subst (OfType v) (sym z) hv)) ins p₁ p₂
    step_back (troll k t e) τ (a₁, y, z, T) hv p =
        given (roll_inv v _ p) λ (w, x, p₁).
        given (subst (λ v. OfType v (mu a₁)) x (subst (OfType v) (sym (y ∙ z)) hv)) λ hw.
        given (B a σ e w f σ' g p₁ q M Γ (unfold_ty a₁) T hw hr ρ h env) λ ((n, d, s), h₁).
        ((suc n, subst (λ v. Rule fits P (Ev fits P r) a ρ (troll k t e) v (suc n)) (sym x) (e_roll d (subst (λ v. fits v ≡ true) x ft)), omega arith), h₁)
    step_back (tunroll k t e) τ (a₁, y, z, T) hv p =
        given (B a σ e (roll v) f σ' g p q M Γ t T (subst (OfType (roll v)) y (subst (OfType v) (sym z) hv)) hr ρ h env) λ ((n, d, s), h₁).
        ((suc n, e_unroll d ft, omega arith), h₁)

  pub back-sound : (r : ℕ) → BackSound r (backward fits P r)
  unfolding backward enter
  back-sound zero a σ t v zero σ' g p q M Γ τ T hv hr ρ h env = absurd (stop≢ok p)
  back-sound zero a σ t v (suc f) σ' g p q M Γ τ T hv hr ρ h env = absurd (stop≢ok p)
  back-sound (suc r) a σ t v zero σ' g p q M Γ τ T hv hr ρ h env = absurd (stop≢ok p)
  back-sound (suc r) a σ t v (suc f) σ' g p q M Γ τ T hv hr ρ h env =
      given (test_inv (fits v) _ _ _ p) λ (ft, p₁).
      step_back r (forward fits P r) (sound fits P r) (forward-safe fits P W r) (backward fits P r) (back-sound r) (backward-safe fits P W r)
      a σ v f σ' g q M Γ hr ρ h env ft t τ T hv p₁
