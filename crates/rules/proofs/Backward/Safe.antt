-- A typed term is never stuck backward.
use Prim.Native.Nat.{ℕ, zero, suc, ◌+◌}
use native.Mathlib.Omega.{arith}
use mathlib.Core.Path.{◌≡◌, refl, sym, ap, subst, ◌∙◌}
use mathlib.Core.Bool.{Bool, true, false, false≢true}
use mathlib.Core.Option.{none, some}
use mathlib.Core.List.{List, [], ◌∷◌, map}
use lib.ListN.{length}
use lib.Dec.{eqb→eq, T}
use package.Rattle.rules.specs.Val.{Val, inl, inr, pair, roll}
use package.Rattle.rules.specs.Ty.{Ty, prod, sum, unfold_ty}
use package.Rattle.rules.specs.Term.{Term, var, tunit, tinl, tinr, tpair, tlet, tletp, tcase, tcall, troll, tunroll, entry, Fun, Program}
use package.Rattle.rules.specs.Term.{scope, inside, by_ancilla}
use package.Rattle.rules.specs.Yield.{may_yield}
use package.Rattle.rules.specs.Run.{Run, after, refuse}
use package.Rattle.rules.specs.Machine.{State, leave, filled, forward, branch_back, case_back, backward_step, backward}
use package.Rattle.rules.proofs.OfType.{OfType, OfTypes}
use package.Rattle.rules.proofs.Basics.{given}
use package.Rattle.rules.proofs.Choice.{scrutinee-within, scrutinee-allowed}
use package.Rattle.rules.proofs.Directed.{Within, allowed, lend, nothing, Spent, Typed, TypedFun, TypedProgram}
use package.Rattle.rules.proofs.Fine.{Fine, fine, refused, fine-after, fine-map, fine_enter, fine-test, fine_some, fine-pair, fine-sum, fine-roll, fine-unit}
use package.Rattle.rules.proofs.Forward.Safe.{Safe, each-safe, forward-safe}
use package.Rattle.rules.proofs.Known.{Knows, Mono, Bound, Either, bound-both, bound_let, bound-left, bound-right, bound-matched, bound-chosen}
use package.Rattle.rules.proofs.Preserve.{types-length}
use package.Rattle.rules.proofs.Scope.{length-scope}
use package.Rattle.rules.proofs.StateTy.{StateTy, state-length, length-full, Gives, gives-filled, Left, fine-pop, fine-bound, meet-safe}
use package.Rattle.rules.proofs.StateTy.{Here, here-push, here-bound, here_grow, here-lend, here-call}

module _ (fits : Val → Bool) (P : Program) (W : TypedProgram P) where
  abbrev pub BackSafe : (List Val → State → Term → Val → Run State) → Type 0
  BackSafe go = (a : List Val) (σ : State) (t : Term) (v : Val) (q : ℕ) (M : ℕ → Bool) (Γ : List Ty) (τ : Ty) → Typed P q M Γ t τ → OfType v τ → Here a q M Γ σ
      → (f : ℕ) → Fine (Left q Γ t σ) (go a σ t v f)

  -- a typed function's body runs back on a value of its result type, and the dynamic parameter leaves the scope
  pub body-safe : (go : List Val → State → Term → Val → Run State) → BackSafe go → (h : Fun) → TypedFun P h → (vs : List Val) → OfTypes vs h.ancillae
      → {X : Type 0} {Q : X → Type 0} (k : Val → Run X) (v : Val) → OfType v h.result → ((w : Val) (g : ℕ) → OfType w h.dynamic → Fine Q (k w g)) → (f : ℕ)
      → Fine Q (after (go (scope vs []) (none ∷ map some (scope vs [])) h.body v f) λ σ. leave σ λ w σ'. k w)
  body-safe go B h T vs hs k v hv s f =
      let l₁ : length (scope vs []) ≡ length vs + 0 = length-scope vs [] in
      let l₂ : length vs ≡ length h.ancillae = types-length vs h.ancillae hs in
      let l₃ : length (scope h.ancillae []) ≡ length h.ancillae + 0 = length-scope h.ancillae [] in
      let l₄ : length (map some (scope vs [])) ≡ length (scope vs []) = length-full (scope vs []) in
      fine-after _ (B (scope vs []) (none ∷ map some (scope vs [])) h.body v
      (length h.ancillae) nothing (h.dynamic ∷ scope h.ancillae []) h.result T.0 hv
      (here-call vs h.ancillae h.dynamic hs) f) λ σ₁ g L.
      fine-pop _ g (length h.ancillae) (scope h.ancillae []) h.dynamic h.body none (map some (scope vs [])) σ₁ (omega arith) (omega arith)
      (subst (λ i. Spent i h.dynamic h.body) (let y : length h.ancillae ≡ length (scope h.ancillae []) = omega arith in y) T.1) L λ w σ₂ hw L₂. s w g hw

  module _ (fw : List Val → State → Term → Run Val) (S : Safe fits P W fw) (go : List Val → State → Term → Val → Run State) (B : BackSafe go)
      (a : List Val) (σ : State) (q : ℕ) (M : ℕ → Bool) (Γ : List Ty) (hr : Here a q M Γ σ) where
    -- a scope `b`, then `e`, to which `M'` is lent
    let_safe : (e b : Term) (v : Val) (c d τ : Ty) (k : Val → Val) (M' : ℕ → Bool) → ((σ₂ : State) → Left q Γ b σ σ₂ → Here a q M' Γ σ₂) → Typed P q M' Γ e d
        → Typed P q M (c ∷ Γ) b τ → ((w : Val) → OfType w c → OfType (k w) d) → Spent (length Γ) c b → OfType v τ → (g : ℕ)
        → Fine (λ σ'. StateTy σ' Γ × Mono σ σ' × ((σ₂ : State) × Mono σ₂ σ' × Bound q Γ e σ' × Bound q Γ b σ₂)) (after (go a (none ∷ σ) b v g) λ σ₁. leave σ₁ λ w σ₂. go a σ₂ e (k w))
    let_safe e b v c d τ k M' on T T' hk s h g =
        fine-after _ (B a (none ∷ σ) b v q M (c ∷ Γ) τ T' h (here-push c hr) g) λ σ₁ g L.
        fine-pop _ g q Γ c b none σ σ₁ (state-length σ Γ hr.state) hr.le s L λ w σ₂ hw L₂. given L₂ λ (st₂, mo, bd).
        fine-map (λ σ' (st', mo', bd'). (st', (λ i k. mo' i (mo i k)), (σ₂, mo', bd', bd))) (B a σ₂ e (k w) q M' Γ d T (hk w hw) (on σ₂ L₂) g)

    -- what a term reads that is run forward here
    given_here : Gives (allowed M q (length Γ)) (filled σ) Γ
    given_here = gives-filled M q Γ σ hr.state hr.anc hr.lent

    -- a branch with its variable bound
    branch-safe : (u : Term) (v w : Val) (c τ : Ty) → Typed P q M (c ∷ Γ) u τ → OfType w c → OfType v τ → (g : ℕ)
        → Fine (Left q Γ u σ) (branch_back go a σ u v w g)
    unfolding branch_back
    branch-safe u v w c τ T hw h g =
        fine-after _ (B a (some w ∷ σ) u v q M (c ∷ Γ) τ T h (here-bound c w hw hr) g) λ σ₁ g L.
        fine-bound g q Γ c u (some w) σ σ₁ (state-length σ Γ hr.state) L

    -- what the scrutinee of a case names that chooses by an ancilla
    pub scrutinee : (e : Term) → by_ancilla (length a) (length σ) e ≡ true → Within (inside q (length Γ)) e
    scrutinee e x = scrutinee-within q (length Γ) e (ap (λ q. by_ancilla q (length Γ) e) (sym hr.parameters)
        ∙ ap (λ n. by_ancilla (length a) n e) (sym (state-length σ Γ hr.state)) ∙ x)

    -- the branch `u` of a case that chooses by an ancilla
    chosen-safe : (k : ℕ) (e b b' u : Term) (v w : Val) (c τ : Ty) → Within (inside q (length Γ)) e → Typed P q M (c ∷ Γ) u τ → OfType w c → OfType v τ
        → ((σ' : State) → Bound q Γ u σ' → Either q Γ b b' σ') → (g : ℕ) → Fine (Left q Γ (tcase k e b b') σ) (branch_back go a σ u v w g)
    chosen-safe k e b b' u v w c τ inner T hw h ei g =
        fine-map (λ σ' (st', mo, bd). (st', mo, bound-chosen q Γ k e b b' σ' inner (ei σ' bd))) (branch-safe u v w c τ T hw h g)

    -- the branch `u` of a case under first match, then the scrutinee
    matched-safe : (k : ℕ) (e b b' u : Term) (v : Val) (c d τ : Ty) (wrap : Val → Val) → Typed P q M Γ e d → Typed P q M (c ∷ Γ) u τ
        → ((w : Val) → OfType w c → OfType (wrap w) d) → Spent (length Γ) c u → OfType v τ → ((σ' : State) → Bound q Γ u σ' → Either q Γ b b' σ') → (g : ℕ)
        → Fine (Left q Γ (tcase k e b b') σ) (after (go a (none ∷ σ) u v g) λ σ₁. leave σ₁ λ w σ₂. go a σ₂ e (wrap w))
    matched-safe k e b b' u v c d τ wrap T T' hk s h ei g =
        fine-map (λ σ' (st', mo, (σ₂, mo₂, bd, bd₂)). (st', mo, bound-matched q Γ k e b b' σ₂ σ' mo₂ bd (ei σ₂ bd₂)))
        (let_safe e u v c d τ wrap M (λ σ₂ (st₂, mo, bd). here_grow σ₂ hr st₂ mo) T T' hk s h g)

    case_safe : (k : ℕ) (e b b' : Term) (v : Val) (τ : Ty) (c y : Bool) → by_ancilla (length a) (length σ) e ≡ c → Typed P q M Γ (tcase k e b b') τ
        → OfType v τ → (g : ℕ) → Fine (Left q Γ (tcase k e b b') σ) (case_back fw go a σ e b b' v c y g)
    unfolding case_back
    case_safe k e b b' v τ true y x (c, c', T, T₁, T₂, s, s', su) h g = given (scrutinee e x) λ inner.
        fine-after _ (S a (filled σ) e q M Γ (sum c c') T (allowed M q (length Γ)) (scrutinee-allowed q (length Γ) e M inner) given_here g) λ p g hp.
        fine-sum p c c' _ _ g hp (λ w hw. chosen-safe k e b b' b v w c τ inner T₁ hw h (λ σ'. bound-left q Γ b b' σ' su) g)
        (λ w hw. chosen-safe k e b b' b' v w c' τ inner T₂ hw h (λ σ'. bound-right q Γ b b' σ' su) g)
    case_safe k e b b' v τ false true x (c, c', T, T₁, T₂, s, s', su) h g =
        matched-safe k e b b' b v c (sum c c') τ inl T T₁ (λ w h. h) s h (λ σ'. bound-left q Γ b b' σ' su) g
    case_safe k e b b' v τ false false x (c, c', T, T₁, T₂, s, s', su) h g =
        matched-safe k e b b' b' v c' (sum c c') τ inr T T₂ (λ w h. h) s' h (λ σ'. bound-right q Γ b b' σ' su) g

    step-back-safe : (t : Term) (v : Val) (τ : Ty) → Typed P q M Γ t τ → OfType v τ → (g : ℕ) → Fine (Left q Γ t σ) (backward_step fits P fw go a σ t v g)
    unfolding backward_step
    step-back-safe (var k i) v τ T h g =
        fine-map (λ σ' (st', mo, k). (st', mo, λ j c p u ql s. subst (Knows σ') (sym (eqb→eq j i (rw s tt))) k)) (meet-safe k σ i v g Γ τ hr.state T h)
    step-back-safe (tunit k) v τ T h g = fine-unit v _ g (subst (OfType v) (sym T) h) (fine (hr.state, (λ i k. k), λ i c p u ql s. absurd (false≢true s)))
    step-back-safe (tinl k c e) v τ (a₁, b₁, x, y, T) h g = fine-sum v a₁ b₁ _ _ g (subst (OfType v) (sym (x ∙ y)) h)
        (λ w hw. B a σ e w q M Γ a₁ T hw hr g) (λ w hw. refused)
    step-back-safe (tinr k c e) v τ (a₁, b₁, x, y, T) h g = fine-sum v a₁ b₁ _ _ g (subst (OfType v) (sym (x ∙ y)) h)
        (λ w hw. refused) (λ w hw. B a σ e w q M Γ b₁ T hw hr g)
    step-back-safe (tpair k e e') v τ (a₁, b₁, x, T, T') h g = fine-pair v a₁ b₁ _ g (subst (OfType v) (sym x) h) λ w w' hw hw'.
        fine-after _ (B a σ e w q M Γ a₁ T hw hr g) λ σ₁ g (st₁, mo, bd).
        fine-map (λ σ' (st', mo', bd'). (st', (λ i k. mo' i (mo i k)), bound-both q Γ e e' σ₁ σ' mo' bd bd'))
        (B a σ₁ e' w' q M Γ b₁ T' hw' (here_grow σ₁ hr st₁ mo) g)
    step-back-safe (tlet k e b) v τ (c, T, T', s) h g =
        fine-map (λ σ' (st', mo, (σ₂, mo₂, bd, bd₂)). (st', mo, bound_let q Γ e b σ₂ σ' mo₂ bd bd₂))
        (let_safe e b v c c τ (λ w. w) (lend M (length Γ) b) (λ σ₂ L. here-lend b σ₂ hr L) T T' (λ w h. h) s h g)
    step-back-safe (tletp k e b) v τ (c, c', T, T', s, s') h g =
        fine-after _ (B a (none ∷ none ∷ σ) b v q M (c' ∷ c ∷ Γ) τ T' h (here-push c' (here-push c hr)) g) λ σ₁ g L.
        fine-pop _ g q (c ∷ Γ) c' b none (none ∷ σ) σ₁ (ap suc (state-length σ Γ hr.state)) (omega (arith, hr.le)) s' L λ w' σ₂ hw' L₂.
        fine-pop _ g q Γ c b none σ σ₂ (state-length σ Γ hr.state) hr.le s L₂ λ w σ₃ hw L₃. given L₃ λ (st₃, mo, bd).
        fine-map (λ σ' (st', mo', bd'). (st', (λ i k. mo' i (mo i k)), bound_let q Γ e b σ₃ σ' mo' bd' bd))
        (B a σ₃ e (pair w w') q (lend M (length Γ) b) Γ (prod c c') T (hw, hw') (here-lend b σ₃ hr L₃) g)
    step-back-safe (tcase k e b b') v τ T h g = case_safe k e b b' v τ (by_ancilla (length a) (length σ) e) (may_yield a b v) refl T h g
    step-back-safe (tcall k j ts e) v τ (fn, x, Ts, T, z, ins) h g =
        fine_some _ g x
        (fine-after _ (each-safe fits P W fw S a (filled σ) q M Γ (allowed M q (length Γ)) given_here (length Γ) ts fn.ancillae Ts ins g) λ vs g hs.
        body-safe go B fn (W j fn x) vs hs (go a σ e) v (subst (OfType v) (sym z) h) (λ w g hw. B a σ e w q M Γ fn.dynamic T hw hr g) g)
    step-back-safe (troll k c e) v τ (a₁, x, y, T) h g = fine-roll v a₁ _ g (subst (OfType v) (sym (x ∙ y)) h) λ w hw. B a σ e w q M Γ (unfold_ty a₁) T hw hr g
    step-back-safe (tunroll k c e) v τ (a₁, x, y, T) h g = B a σ e (roll v) q M Γ c T (subst (OfType (roll v)) x (subst (OfType v) (sym y) h)) hr g

  pub backward-safe : (r : ℕ) → BackSafe (backward fits P r)
  unfolding backward
  backward-safe zero a σ t v q M Γ τ T h hr f = fine_enter (entry t) f (refuse 13 (entry t)) (λ g. refused)
  backward-safe (suc r) a σ t v q M Γ τ T h hr f = fine_enter (entry t) f _ λ g. fine-test (fits v) 14 (entry t) g _
      (step-back-safe (forward fits P r) (forward-safe fits P W r) (backward fits P r) (backward-safe r) a σ q M Γ hr t v τ T h g)
