-- What backward can answer where the rules yield the value: bindings that agree, or a refusal for want of fuel, room or size.
use Prim.Native.Nat.{ℕ, zero, suc, ◌+◌}
use native.Mathlib.Omega.{arith}
use mathlib.Core.Path.{◌≡◌, refl, sym, ap, subst, ◌∙◌}
use mathlib.Core.Bool.{Bool, true, false, false≢true}
use mathlib.Core.Option.{none, some}
use mathlib.Core.List.{List, [], ◌∷◌, map}
use mathlib.Core.Logic.{inl as left}
use lib.ListN.{length}
use lib.Dec.{eqb→eq, T}
use package.Rattle.rules.specs.Val.{Val, unit, inl, inr, pair, roll}
use package.Rattle.rules.specs.Ty.{Ty, prod, sum, unfold_ty}
use package.Rattle.rules.specs.Term.{Term, tcase, entry, Fun, Program, scope, by_ancilla}
use package.Rattle.rules.specs.Yield.{may_yield, first_match}
use package.Rattle.rules.specs.Rules.{Judgement, Rule, e_var, e_unit, e_inl, e_inr, e_prod, e_let, e_letp, e_casel, e_caser, e_app, e_roll, e_unroll, Ev}
use package.Rattle.rules.specs.Run.{Run, after, enter, test}
use package.Rattle.rules.specs.Machine.{on_sum, on_pair, on_roll, on_unit, State, leave, filled, forward, branch_back, case_back, backward_step, backward}
use package.Rattle.rules.proofs.OfType.{OfType}
use package.Rattle.rules.proofs.Backward.Pop.{leave-good, meet-good, pop, Ready, ready-push, ready-bound, ready_grow, ready-lend, ready_call, call-pop}
use package.Rattle.rules.proofs.Basics.{given, some_inj, not-true, or_elim}
use package.Rattle.rules.proofs.Choice.{scrutinee-within, scrutinee-allowed}
use package.Rattle.rules.proofs.Directed.{allowed, lend, nothing, Spent, Typed, TypedAll, TypedProgram}
use package.Rattle.rules.proofs.Forward.Outcome.{Out, each-out, outcome}
use package.Rattle.rules.proofs.Known.{Knows, knows-new, Mono, Bound, After, Either, mono-pop, bound-pop, enough-filled}
use package.Rattle.rules.proofs.Known.{bound-both, bound_let, bound-left, bound-right, bound-matched, bound-chosen}
use package.Rattle.rules.proofs.Outcome.{steps, fuel_short, room_short, Good, yields, short, good-after, good_val, good-last, good_enter}
use package.Rattle.rules.proofs.Outcome.{good-size, good_some, good-swap, good-map}
use package.Rattle.rules.proofs.Preserve.{types-length, Keeps, all-keeps, preserve}
use package.Rattle.rules.proofs.State.{Agree, agree-length, Enough}
use package.Rattle.rules.proofs.Yield.{under-push, May, may}

module _ (fits fits' : Val → Bool) (P : Program) (W : TypedProgram P) where
  abbrev pub BackOut : Judgement → (List Val → State → Term → Val → Run State) → ℕ → ℕ → Type 0
  BackOut R go r r' = (a ρ : List Val) (t : Term) (v : Val) (n : ℕ) → R a ρ t v n → (q : ℕ) (M : ℕ → Bool) (Γ : List Ty) (τ : Ty) → Typed P q M Γ t τ
      → (σ : State) → Ready a q M Γ ρ σ → (f : ℕ) → Good fits fits' (After q Γ t ρ σ) f n r r' (go a σ t v f)

  abbrev FitsOf : Judgement → Type 0
  FitsOf R = (a ρ : List Val) (t : Term) (v : Val) (n : ℕ) → R a ρ t v n → fits' v ≡ true

  step_fits : (R : Judgement) → FitsOf R → FitsOf (Rule fits' P R)
  step_fits R F a ρ t v n (e_var x ft) = ft
  step_fits R F a ρ t v n (e_unit ft) = ft
  step_fits R F a ρ t v n (e_inl d ft) = ft
  step_fits R F a ρ t v n (e_inr d ft) = ft
  step_fits R F a ρ t v n (e_prod d d' ft) = ft
  step_fits R F a ρ t v n (e_let d d') = F _ _ _ _ _ d'
  step_fits R F a ρ t v n (e_letp d d') = F _ _ _ _ _ d'
  step_fits R F a ρ t v n (e_casel d d') = F _ _ _ _ _ d'
  step_fits R F a ρ t v n (e_caser d d' y) = F _ _ _ _ _ d'
  step_fits R F a ρ t v n (e_app x ds d d') = F _ _ _ _ _ d'
  step_fits R F a ρ t v n (e_roll d ft) = ft
  step_fits R F a ρ t v n (e_unroll d ft) = ft

  pub fits-of : (r : ℕ) → FitsOf (Ev fits' P r)
  fits-of zero a ρ t v n d = absurd d
  fits-of (suc r) a ρ t v n d = step_fits (Ev fits' P r) (fits-of r) a ρ t v n d

  open_term : {X : Type 0} {Q : X → Type 0} {n r r' : ℕ} (k f : ℕ) (v : Val) (m : Run X) → fits' v ≡ true
      → ((g : ℕ) → Good fits fits' Q g n r r' (m g)) → Good fits fits' Q f (suc n) (suc r) (suc r') (enter k (test (fits v) 14 k m) f)
  open_term k f v m ft s = good_enter fits fits' k f _ λ g. good-size fits fits' k v m ft (s g)

  module _ (R : Judgement) (K : Keeps fits' P W R) (My : May fits' P R) (F : FitsOf R) (r r' : ℕ)
      (fw : List Val → State → Term → Run Val) (O : Out fits fits' P R fw r r')
      (go : List Val → State → Term → Val → Run State) (B : BackOut R go r r') (q : ℕ) (M : ℕ → Bool) (Γ : List Ty) (τ : Ty) (σ : State) where
    -- a bound term `e`, then its scope `b`: the scope runs back first
    let_good : {a ρ : List Val} {n m : ℕ} (e b : Term) (v u w : Val) (c d : Ty) (k : Val → Val) (M' : ℕ → Bool)
        → ((σ₂ : State) → After q Γ b ρ σ σ₂ → Ready a q M' Γ ρ σ₂) → R a ρ e u n → k v ≡ u → R a (v ∷ ρ) b w m
        → Typed P q M' Γ e d → OfType v c → Typed P q M (c ∷ Γ) b τ → Spent (length Γ) c b → Ready a q M Γ ρ σ → (g : ℕ)
        → Good fits fits' (λ σ'. Agree σ' ρ × Mono σ σ' × ((σ₂ : State) × Mono σ₂ σ' × Bound q Γ e σ' × Bound q Γ b σ₂)) g (n + m) r r'
        (after (go a (none ∷ σ) b w g) λ σ₁. leave σ₁ λ v σ₂. go a σ₂ e (k v))
    let_good {a} {ρ} {n} e b v u w c d k M' on D x D' T h T' s rd g =
        good-swap fits fits' _ (B _ _ _ _ _ D' q M (c ∷ Γ) τ T' (none ∷ σ) (ready-push c v h rd) g) λ σ₁ g A.
        pop fits fits' _ q Γ c v b ρ none σ σ₁ (sym (types-length ρ Γ rd.env)) (agree-length σ ρ rd.agree) rd.le h s A λ σ₂ A₂.
        given A₂ λ (ag, mo, bd).
        good-map fits fits' (λ σ' (ag', mo', bd'). (ag', (λ i k. mo' i (mo i k)), (σ₂, mo', bd', bd)))
        (subst (λ u. Good fits fits' (After q Γ e ρ σ₂) g n r r' (go a σ₂ e u g)) (sym x) (B _ _ _ _ _ D q M' Γ d T σ₂ (on σ₂ A₂) g))

    enough-here : {a ρ : List Val} → Ready a q M Γ ρ σ → Enough (allowed M q (length Γ)) (filled σ) ρ
    enough-here {a} {ρ} rd = enough-filled M q Γ σ ρ rd.agree rd.env rd.anc rd.lent

    -- a branch runs back with its variable bound
    branch-good : {a ρ : List Val} {m : ℕ} (u : Term) (v w : Val) (c : Ty) → R a (v ∷ ρ) u w m → OfType v c → Typed P q M (c ∷ Γ) u τ
        → Ready a q M Γ ρ σ → (g : ℕ) → Good fits fits' (After q Γ u ρ σ) g m r r' (branch_back go a σ u w v g)
    unfolding branch_back
    branch-good {a} {ρ} u v w c D h T rd g =
        given (sym (types-length ρ Γ rd.env)) λ l. given (agree-length σ ρ rd.agree) λ l'.
        good-last fits fits' _ (B _ _ _ _ _ D q M (c ∷ Γ) τ T (some v ∷ σ) (ready-bound c v h rd) g) λ σ₁ g (ag, mo, bd).
        leave-good fits fits' _ σ₁ v ρ ag (left (mo (length ρ) (knows-new v σ (length ρ) (sym l')))) λ m σ₂ x ag₂.
        given (agree-length σ₂ ρ ag₂) λ l₂.
        yields {g = g} (
          ag₂,
          mono-pop (some v) m σ σ₂ (l' ∙ sym l₂) (subst (Mono (some v ∷ σ)) x mo),
          bound-pop q Γ u c m σ₂ (l ∙ sym l₂) (subst (Bound q (c ∷ Γ) u) x bd),
        ) (omega arith)

    -- a case that chooses by an ancilla: the scrutinee gives `s`, with which the branch `u` runs back
    chosen-good : {a ρ : List Val} {n m : ℕ} (k : ℕ) (e b b' u : Term) (v s w : Val) (c : Ty) (next : Val → Run State)
        → next s ≡ branch_back go a σ u w v → by_ancilla (length a) (length σ) e ≡ true → R a ρ e s n → R a (v ∷ ρ) u w m
        → OfType v c → Typed P q M (c ∷ Γ) u τ → ((σ' : State) → Bound q Γ u σ' → Either q Γ b b' σ') → Ready a q M Γ ρ σ → (g : ℕ)
        → Good fits fits' (After q Γ (tcase k e b b') ρ σ) g (n + m) r r' (after (fw a (filled σ) e g) next)
    chosen-good {a} {ρ} {n} {m} k e b b' u v s w c next same x D D' h T ei rd g =
        given (agree-length σ ρ rd.agree ∙ types-length ρ Γ rd.env) λ l.
        given (scrutinee-within q (length Γ) e (ap (λ q. by_ancilla q (length Γ) e) (sym rd.parameters)
        ∙ ap (λ n. by_ancilla (length a) n e) (sym l) ∙ x)) λ inner.
        good_val fits fits' _ (O _ _ _ _ _ D (allowed M q (length Γ)) (filled σ) (enough-here rd) (scrutinee-allowed q (length Γ) e M inner) g) λ g.
        subst (λ t. Good fits fits' (After q Γ (tcase k e b b') ρ σ) g m r r' (t g)) (sym same)
        (good-map fits fits' (λ σ' (ag, mo, bd). (ag, mo, bound-chosen q Γ k e b b' σ' inner (ei σ' bd))) (branch-good u v w c D' h T rd g))

    -- a case under first match: the branch `u`, then the scrutinee, for whose value `v` is wrapped
    matched-good : {a ρ : List Val} {n m : ℕ} (k : ℕ) (e b b' u : Term) (v w : Val) (c d : Ty) (wrap : Val → Val)
        → R a ρ e (wrap v) n → R a (v ∷ ρ) u w m → Typed P q M Γ e d → OfType v c → Typed P q M (c ∷ Γ) u τ → Spent (length Γ) c u
        → ((σ' : State) → Bound q Γ u σ' → Either q Γ b b' σ') → Ready a q M Γ ρ σ → (g : ℕ)
        → Good fits fits' (After q Γ (tcase k e b b') ρ σ) g (n + m) r r' (after (go a (none ∷ σ) u w g) λ σ₁. leave σ₁ λ v σ₂. go a σ₂ e (wrap v))
    matched-good k e b b' u v w c d wrap D D' T h T' s ei rd g =
        good-map fits fits' (λ σ' (ag, mo, (σ₂, mo₂, bd, bd₂)). (ag, mo, bound-matched q Γ k e b b' σ₂ σ' mo₂ bd (ei σ₂ bd₂)))
        (let_good e u v (wrap v) w c d wrap M (λ σ₂ (ag, mo, bd). ready_grow σ₂ rd ag mo) D refl D' T h T' s rd g)

    case_left : {a ρ : List Val} {n m : ℕ} (k : ℕ) (e b b' : Term) (v w : Val) (c : Bool) → by_ancilla (length a) (length σ) e ≡ c
        → R a ρ e (inl v) n → R a (v ∷ ρ) b w m → Typed P q M Γ (tcase k e b b') τ → Ready a q M Γ ρ σ → (g : ℕ)
        → Good fits fits' (After q Γ (tcase k e b b') ρ σ) g (n + m) r r' (case_back fw go a σ e b b' w c (may_yield a b w) g)
    unfolding case_back on_sum
    case_left k e b b' v w true x D D' (a₁, a₂, T, T₁, T₂, s₁, s₂, su) rd g =
        chosen-good k e b b' b v (inl v) w a₁ _ refl x D D' (K _ _ _ _ _ D q M Γ (sum a₁ a₂) rd.env T) T₁ (λ σ'. bound-left q Γ b b' σ' su) rd g
    case_left {a} {ρ} {n} {m} k e b b' v w false x D D' (a₁, a₂, T, T₁, T₂, s₁, s₂, su) rd g =
        subst (λ y. Good fits fits' (After q Γ (tcase k e b b') ρ σ) g (n + m) r r' (case_back fw go a σ e b b' w false y g))
        (sym (My _ _ _ _ _ D' (under-push a ρ v rd.under)))
        (matched-good k e b b' b v w a₁ (sum a₁ a₂) inl D D' T (K _ _ _ _ _ D q M Γ (sum a₁ a₂) rd.env T) T₁ s₁
        (λ σ'. bound-left q Γ b b' σ' su) rd g)

    case_right : {a ρ : List Val} {n m : ℕ} (k : ℕ) (e b b' : Term) (v w : Val) (c : Bool) → by_ancilla (length a) (length σ) e ≡ c
        → R a ρ e (inr v) n → R a (v ∷ ρ) b' w m → first_match a (length ρ) e b w ≡ true → Typed P q M Γ (tcase k e b b') τ → Ready a q M Γ ρ σ
        → (g : ℕ) → Good fits fits' (After q Γ (tcase k e b b') ρ σ) g (n + m) r r' (case_back fw go a σ e b b' w c (may_yield a b w) g)
    unfolding case_back on_sum first_match
    case_right k e b b' v w true x D D' y (a₁, a₂, T, T₁, T₂, s₁, s₂, su) rd g =
        chosen-good k e b b' b' v (inr v) w a₂ _ refl x D D' (K _ _ _ _ _ D q M Γ (sum a₁ a₂) rd.env T) T₂ (λ σ'. bound-right q Γ b b' σ' su) rd g
    case_right {a} {ρ} {n} {m} k e b b' v w false x D D' y (a₁, a₂, T, T₁, T₂, s₁, s₂, su) rd g =
        subst (λ y. Good fits fits' (After q Γ (tcase k e b b') ρ σ) g (n + m) r r' (case_back fw go a σ e b b' w false y g))
        (sym (not-true {b = may_yield a b w} (or_elim (by_ancilla (length a) (length ρ) e) _ (λ z. absurd (false≢true (sym x
        ∙ ap (λ n. by_ancilla (length a) n e) (agree-length σ ρ rd.agree) ∙ z))) (λ z. z) y)))
        (matched-good k e b b' b' v w a₂ (sum a₁ a₂) inr D D' T (K _ _ _ _ _ D q M Γ (sum a₁ a₂) rd.env T) T₂ s₂
        (λ σ'. bound-right q Γ b b' σ' su) rd g)

    step_bout : {a ρ : List Val} {t : Term} {v : Val} {n : ℕ} → Rule fits' P R a ρ t v n → Typed P q M Γ t τ → Ready a q M Γ ρ σ
        → (f : ℕ) → Good fits fits' (After q Γ t ρ σ) f n (suc r) (suc r') (enter (entry t) (test (fits v) 14 (entry t) (backward_step fits P fw go a σ t v)) f)
    unfolding backward_step on_sum on_pair on_roll on_unit entry
    step_bout (e_var {k} {i} {ρ = ρ} {v = v} x ft) T rd f = open_term k f v _ ft λ g.
        good-map fits fits' (λ σ' (ag, mo, kn). (ag, mo, λ j c p u ql s. subst (Knows σ') (sym (eqb→eq j i (rw s tt))) kn)) (meet-good fits fits' k σ i v ρ rd.agree x)
    step_bout (e_unit {k} ft) T rd f = open_term k f unit _ ft λ g. yields {g = g} (rd.agree, (λ i k. k), λ i c p u ql s. absurd (false≢true s)) (omega arith)
    step_bout (e_inl {k} {v = v} d ft) (a₁, b₁, x, y, T) rd f = open_term k f (inl v) _ ft λ g. B _ _ _ _ _ d q M Γ a₁ T σ rd g
    step_bout (e_inr {k} {v = v} d ft) (a₁, b₁, x, y, T) rd f = open_term k f (inr v) _ ft λ g. B _ _ _ _ _ d q M Γ b₁ T σ rd g
    step_bout (e_prod {k} {ρ = ρ} {e} {e'} {v = v} {w} d d' ft) (a₁, b₁, x, T, T') rd f = open_term k f (pair v w) _ ft λ g.
        good-after fits fits' _ (B _ _ _ _ _ d q M Γ a₁ T σ rd g) λ σ₁ g (ag, mo, bd).
        good-map fits fits' (λ σ' (ag', mo', bd'). (ag', (λ i k. mo' i (mo i k)), bound-both q Γ e e' σ₁ σ' mo' bd bd'))
        (B _ _ _ _ _ d' q M Γ b₁ T' σ₁ (ready_grow σ₁ rd ag mo) g)
    step_bout (e_let {k} {ρ = ρ} {e} {b} {v} {w} d d') (c, T, T', s) rd f = open_term k f w _ (F _ _ _ _ _ d') λ g.
        good-map fits fits' (λ σ' (ag, mo, (σ₂, mo₂, bd, bd₂)). (ag, mo, bound_let q Γ e b σ₂ σ' mo₂ bd bd₂))
        (let_good e b v v w c c (λ v. v) (lend M (length Γ) b) (λ σ₂ A. ready-lend b σ₂ rd A) d refl d' T
        (K _ _ _ _ _ d q (lend M (length Γ) b) Γ c rd.env T) T' s rd g)
    step_bout (e_letp {k} {ρ = ρ} {e} {b} {v} {v'} {w} d d') (a₁, a₂, T, T', s₁, s₂) rd f = open_term k f w _ (F _ _ _ _ _ d') λ g.
        given (K _ _ _ _ _ d q (lend M (length Γ) b) Γ (prod a₁ a₂) rd.env T) λ (h₁, h₂).
        given (sym (types-length ρ Γ rd.env)) λ l. given (agree-length σ ρ rd.agree) λ l'.
        good-swap fits fits' _ (B _ _ _ _ _ d' q M (a₂ ∷ a₁ ∷ Γ) τ T' (none ∷ none ∷ σ) (ready-push a₂ v' h₂ (ready-push a₁ v h₁ rd)) g) λ σ₁ g A.
        pop fits fits' _ q (a₁ ∷ Γ) a₂ v' b (v ∷ ρ) none (none ∷ σ) σ₁ (ap suc l) (ap suc l') (omega (arith, rd.le)) h₂ s₂ A λ σ₂ A₂.
        pop fits fits' _ q Γ a₁ v b ρ none σ σ₂ l l' rd.le h₁ s₁ A₂ λ σ₃ A₃. given A₃ λ (ag, mo, bd).
        good-map fits fits' (λ σ' (ag', mo', bd'). (ag', (λ i k. mo' i (mo i k)), bound_let q Γ e b σ₃ σ' mo' bd' bd))
        (B _ _ _ _ _ d q (lend M (length Γ) b) Γ (prod a₁ a₂) T σ₃ (ready-lend b σ₃ rd A₃) g)
    step_bout (e_casel {k} {a = a} {e = e} {b} {b'} {v} {w} d d') T rd f = open_term k f w _ (F _ _ _ _ _ d') λ g.
        case_left k e b b' v w (by_ancilla (length a) (length σ) e) refl d d' T rd g
    step_bout (e_caser {k} {a = a} {e = e} {b} {b'} {v} {w} d d' y) T rd f = open_term k f w _ (F _ _ _ _ _ d') λ g.
        case_right k e b b' v w (by_ancilla (length a) (length σ) e) refl d d' y T rd g
    step_bout (e_app {k} {g = j} {a = a} {ρ} {ts} {e} {vs} {v} {w} {h} x ds d d') (h', y, Ts, T, z, ins) rd f = open_term k f w _ (F _ _ _ _ _ d') λ g.
        given (some_inj (sym y ∙ x)) λ same-h.
        given (subst (λ (h : Fun). Typed P q M Γ e h.dynamic) same-h T) λ T'.
        given (K _ _ _ _ _ d q M Γ h.dynamic rd.env T') λ hv.
        given (all-keeps fits' P W R K a ρ ts vs _ ds (length Γ) M Γ h.ancillae rd.env
        (subst (λ (h : Fun). TypedAll P (length Γ) M Γ ts h.ancillae) same-h Ts)) λ hs.
        given (ready_call vs h.ancillae v h.dynamic hs hv) λ rd'.
        good_some fits fits' _ x (good_val fits fits' _ (each-out fits fits' P R fw r r' O (allowed M q (length Γ)) (filled σ) ds (enough-here rd) ins g) λ g.
        good-swap fits fits' _ (B _ _ _ _ _ d' (length h.ancillae) nothing (h.dynamic ∷ scope h.ancillae [])
        h.result (W j h x).0 (none ∷ map some (scope vs [])) rd' g) λ σ₁ g A.
        call-pop fits fits' (go a σ e) vs h.ancillae h.dynamic v h.body σ₁ hs hv (W j h x).1 A (B _ _ _ _ _ d q M Γ h.dynamic T' σ rd g))
    step_bout (e_roll {k} {v = v} d ft) (a₁, x, y, T) rd f = open_term k f (roll v) _ ft λ g. B _ _ _ _ _ d q M Γ (unfold_ty a₁) T σ rd g
    step_bout (e_unroll {k} {v = v} d ft) (a₁, x, y, T) rd f = open_term k f v _ ft λ g. B _ _ _ _ _ d q M Γ _ T σ rd g

  pub back-outcome : (r r' : ℕ) → BackOut (Ev fits' P r') (backward fits P r) r r'
  unfolding backward enter
  back-outcome r zero a ρ t v n d q M Γ τ T σ rd f = absurd d
  back-outcome zero (suc r') a ρ t v n d q M Γ τ T σ rd zero = short (fuel_short refl (steps d))
  back-outcome zero (suc r') a ρ t v n d q M Γ τ T σ rd (suc f) = short (room_short refl (omega arith))
  back-outcome (suc r) (suc r') a ρ t v n d q M Γ τ T σ rd f =
      step_bout (Ev fits' P r') (preserve fits' P W r') (may fits' P r') (fits-of r') r r' (forward fits P r) (outcome fits fits' P r r') (backward fits P r) (back-outcome r r')
      q M Γ τ σ d T rd f
