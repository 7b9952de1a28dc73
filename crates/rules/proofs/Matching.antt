-- 15 is never met at a case that chooses by an ancilla (02, F-3), either way. A run's scope has as many ancillae and variables as the text says:
-- forward by the states, backward since a run leaves as many variables as it found; and a call of a typed term has as many ancillae as the
-- function that it names.
use Prim.Native.Nat.{ℕ, zero, suc}
use native.Mathlib.Omega.{arith}
use mathlib.Core.Path.{◌≡◌, refl, sym, ap, ap₂, ◌∙◌}
use mathlib.Core.Bool.{Bool, true, false, not, cond, false≢true}
use mathlib.Core.Option.{Option, none, some}
use mathlib.Core.List.{List, [], ◌∷◌, map}
use lib.ListN.{length}
use lib.Dec.{eqb}
use package.Rattle.rules.specs.Val.{Val, unit, inl, inr, pair, roll, same}
use package.Rattle.rules.specs.Ty.{Ty}
use package.Rattle.rules.specs.Term.{Term, Terms, var, tunit, tinl, tinr, tpair, tlet, tletp, tcase, tcall, troll, tunroll, end, more, count, entry}
use package.Rattle.rules.specs.Term.{Fun, Program, nth, scope, by_ancilla, chooses_at, choose_all_at}
use package.Rattle.rules.specs.Yield.{may_yield, first_match}
use package.Rattle.rules.specs.Run.{Res, stop, Run, ◌>>=◌, give, refuse}
use package.Rattle.rules.specs.Machine.{on_some, State, known, bind_or, meet, leave, filled, each, made, forward_step, forward}
use package.Rattle.rules.specs.Machine.{branch_back, case_back, backward_step, backward, run_forward, run_backward}
use package.Rattle.rules.specs.Claims.{ChoosesAt}
use package.Rattle.rules.proofs.Basics.{given, some_inj, and_both, or_left, eqb_yes}
use package.Rattle.rules.proofs.Directed.{Typed, TypedAll, TypedProgram}
use package.Rattle.rules.proofs.Numbers.{EndsBy, answers, refuses, sticks, ends-after, ends_enter, ends-test, ends-either, ends_some, ends-sum}
use package.Rattle.rules.proofs.Numbers.{ends-pair, ends-roll, ends-unit, ends-map, refusal-ends}
use package.Rattle.rules.proofs.Scope.{length-scope}
use package.Rattle.rules.proofs.State.{length-filled}
use package.Rattle.rules.proofs.StateTy.{length-full}

-- a typed call has as many ancilla terms as there are types
arity : (P : Program) (q : ℕ) (M : ℕ → Bool) (Γ : List Ty) (ts : Terms) (cs : List Ty) → TypedAll P q M Γ ts cs → count ts ≡ length cs
unfolding count
arity P q M Γ end cs d = ap length d
arity P q M Γ (more t ts) cs (c, cs', e, d, ds) = ap suc (arity P q M Γ ts cs' ds) ∙ ap length e

module _ (k : ℕ) where
  -- a refusal that is not 15 at `k`
  abbrev Elsewhere : ℕ → ℕ → Type 0
  Elsewhere c j = c ≡ 15 → j ≡ k → ⊥

  -- a run that is never refused with 15 at `k`
  abbrev Spared : {X : Type 0} → (X → Type 0) → Res X → Type 0
  Spared Q x = EndsBy Elsewhere Q x

  -- what is there is found
  spared_some : {X A : Type 0} {Q : X → Type 0} (o : Option A) (next : A → Run X) (g : ℕ) → ((x : A) → o ≡ some x → Spared Q (next x g))
      → Spared Q (on_some o next g)
  unfolding on_some
  spared_some none next g s = sticks
  spared_some (some x) next g s = s x refl

  -- a number that is not 15
  other : (c j : ℕ) → (c ≡ 15 → ⊥) → Elsewhere c j
  other c j n e x = n e

  -- what is said of a case and of its parts
  case_parts : (q n j : ℕ) (e b b' : Term) → chooses_at k q n (tcase j e b b') ≡ true → (cond (eqb j k) (by_ancilla q n e) true ≡ true)
      × (chooses_at k q n e ≡ true) × (chooses_at k q (suc n) b ≡ true) × (chooses_at k q (suc n) b' ≡ true)
  unfolding chooses_at
  case_parts q n j e b b' c =
      given (and_both (cond (eqb j k) (by_ancilla q n e) true) _ c) λ (here, c₁). given (and_both (chooses_at k q n e) _ c₁) λ (x, c₂).
      given (and_both (chooses_at k q (suc n) b) _ c₂) λ (y, z). (here, x, y, z)

  module _ (fits : Val → Bool) (P : Program) (W : TypedProgram P) (C : ChoosesAt P k) where
    -- the body of a function, in the scope of a call
    body-chooses : (j : ℕ) (h : Fun) → nth P j ≡ some h → (vs : List Val) → length vs ≡ length h.ancillae → (m : Option Val)
        → chooses_at k (length (scope vs [])) (length (m ∷ map some (scope vs []))) h.body ≡ true
    body-chooses j h x vs l m =
        let l₁ : length (scope vs []) ≡ length h.ancillae = omega (arith, length-scope vs [], l) in
        ap₂ (λ q n. chooses_at k q (suc n) h.body) l₁ (length-full (scope vs []) ∙ l₁) ∙ C j h x

    ----------------------------------------------------------------
    -- Forward

    abbrev SparedForward : (List Val → State → Term → Run Val) → Type 0
    SparedForward go = (a : List Val) (σ : State) (t : Term) (q : ℕ) (M : ℕ → Bool) (Γ : List Ty) (τ : Ty) → Typed P q M Γ t τ
        → chooses_at k (length a) (length σ) t ≡ true → (g : ℕ) → Spared (λ v. Unit {0}) (go a σ t g)

    made-spared : (j : ℕ) (v : Val) (g : ℕ) → Spared (λ v. Unit {0}) (made fits P j v g)
    unfolding made
    made-spared j v g = ends-test (fits v) 14 j g (give v) (other 14 j (λ e. omega arith)) λ ft. answers tt

    -- first match is not tested at `k`
    match_spared : (a : List Val) (n j : ℕ) (e b : Term) (w : Val) → cond (eqb j k) (by_ancilla (length a) n e) true ≡ true
        → first_match a n e b w ≡ false → Elsewhere 15 j
    unfolding first_match
    match_spared a n j e b w c refused u x =
        given (sym (ap (λ b. cond b (by_ancilla (length a) n e) true) (ap (λ j. eqb j k) x ∙ eqb_yes k)) ∙ c) λ chooses.
        false≢true (sym refused ∙ or_left (not (may_yield a b w)) chooses)

    module _ (go : List Val → State → Term → Run Val) (S : SparedForward go) (a : List Val) (σ : State) where
      pub each-spared : (ts : Terms) (q : ℕ) (M : ℕ → Bool) (Γ : List Ty) (cs : List Ty) → TypedAll P q M Γ ts cs
          → choose_all_at k (length a) (length σ) ts ≡ true → (g : ℕ) → Spared (λ vs. length vs ≡ length cs) (each (go a σ) ts g)
      unfolding each choose_all_at
      each-spared end q M Γ cs d c g = answers (ap length d)
      each-spared (more t ts) q M Γ cs (c₁, cs', e, d, ds) c g = given (and_both _ _ c) λ (x, y).
          ends-after _ (S a σ t q M Γ c₁ d x g) λ v g u. ends-after _ (each-spared ts q M Γ cs' ds y g) λ vs g l. answers (ap suc l ∙ ap length e)

      step-spared : (t : Term) (q : ℕ) (M : ℕ → Bool) (Γ : List Ty) (τ : Ty) → Typed P q M Γ t τ → chooses_at k (length a) (length σ) t ≡ true → (g : ℕ)
          → Spared (λ v. Unit {0}) (forward_step fits P go a σ t g)
      unfolding forward_step chooses_at
      step-spared (var j i) q M Γ τ T c g = ends_some (known σ i) _ g λ v. made-spared j v g
      step-spared (tunit j) q M Γ τ T c g = made-spared j unit g
      step-spared (tinl j t e) q M Γ τ (a₁, b₁, x, y, T) c g = ends-after _ (S a σ e q M Γ a₁ T c g) λ v g u. made-spared j (inl v) g
      step-spared (tinr j t e) q M Γ τ (a₁, b₁, x, y, T) c g = ends-after _ (S a σ e q M Γ b₁ T c g) λ v g u. made-spared j (inr v) g
      step-spared (tpair j e e') q M Γ τ (a₁, b₁, x, T, T') c g = given (and_both _ _ c) λ (y, z).
          ends-after _ (S a σ e q M Γ a₁ T y g) λ v g u. ends-after _ (S a σ e' q M Γ b₁ T' z g) λ w g u. made-spared j (pair v w) g
      step-spared (tlet j e b) q M Γ τ (a₁, T, T', s) c g = given (and_both _ _ c) λ (y, z).
          ends-after _ (S a σ e _ _ _ _ T y g) λ v g u. S a (some v ∷ σ) b _ _ _ _ T' z g
      step-spared (tletp j e b) q M Γ τ (a₁, a₂, T, T', s, s') c g = given (and_both _ _ c) λ (y, z).
          ends-after _ (S a σ e _ _ _ _ T y g) λ p g u. ends-pair p _ g λ v w. S a (some w ∷ some v ∷ σ) b _ _ _ _ T' z g
      step-spared (tcase j e b b') q M Γ τ (a₁, a₂, T, T₁, T₂, s₁, s₂, su) c g =
          given (case_parts (length a) (length σ) j e b b' c) λ (here, x, y, z).
          ends-after _ (S a σ e _ _ _ _ T x g) λ s g u. ends-sum s _ _ g (λ v. S a (some v ∷ σ) b _ _ _ _ T₁ y g) λ v.
          ends-after _ (S a (some v ∷ σ) b' _ _ _ _ T₂ z g) λ w g u.
          ends-either (first_match a (length σ) e b w) 15 j g (give w) (match_spared a (length σ) j e b w here) λ y. answers tt
      step-spared (tcall j i ts e) q M Γ τ (h', y, Ts, T, z, ins) c g = given (and_both _ _ c) λ (x, x').
          spared_some (nth P i) _ g λ h found. given (some_inj (sym y ∙ found)) λ same-h.
          ends-after _ (each-spared ts _ _ _ _ Ts x g) λ vs g l. ends-after _ (S a σ e _ _ _ _ T x' g) λ v g u.
          S (scope vs []) (some v ∷ map some (scope vs [])) h.body _ _ _ _ (W i h found).0
          (body-chooses i h found vs (l ∙ ap (λ (h : Fun). length h.ancillae) same-h) (some v)) g
      step-spared (troll j t e) q M Γ τ (a₁, x, y, T) c g = ends-after _ (S a σ e q M Γ _ T c g) λ v g u. made-spared j (roll v) g
      step-spared (tunroll j t e) q M Γ τ (a₁, x, y, T) c g = ends-after _ (S a σ e q M Γ _ T c g) λ p g u. ends-roll p _ g λ v. made-spared j v g

    pub forward-spared : (r : ℕ) → SparedForward (forward fits P r)
    unfolding forward
    forward-spared zero a σ t q M Γ τ T c g =
        ends_enter (entry t) g (refuse 13 (entry t)) (other 12 (entry t) (λ e. omega arith)) λ g. refuses (other 13 (entry t) (λ e. omega arith))
    forward-spared (suc r) a σ t q M Γ τ T c g = ends_enter (entry t) g _ (other 12 (entry t) (λ e. omega arith)) λ g.
        step-spared (forward fits P r) (forward-spared r) a σ t q M Γ τ T c g

    ----------------------------------------------------------------
    -- Backward: a run leaves as many variables in scope as it found

    abbrev Leaves : State → State → Type 0
    Leaves σ σ' = length σ' ≡ length σ

    abbrev SparedBackward : (List Val → State → Term → Val → Run State) → Type 0
    SparedBackward go = (a : List Val) (σ : State) (t : Term) (v : Val) (q : ℕ) (M : ℕ → Bool) (Γ : List Ty) (τ : Ty) → Typed P q M Γ t τ
        → chooses_at k (length a) (length σ) t ≡ true → (g : ℕ) → Spared (Leaves σ) (go a σ t v g)

    bind_spared : (j : ℕ) (m : Option Val) (v : Val) (g : ℕ) → Spared (λ m. Unit {0}) (bind_or j m v g)
    unfolding bind_or
    bind_spared j none v g = answers tt
    bind_spared j (some w) v g = ends-test (same w v) 16 j g (give (some w)) (other 16 j (λ e. omega arith)) λ e. answers tt

    meet-spared : (j : ℕ) (σ : State) (i : ℕ) (v : Val) (g : ℕ) → Spared (Leaves σ) (meet j σ i v g)
    unfolding meet
    meet-spared j [] i v g = sticks
    meet-spared j (m ∷ σ) i v g = by_test (eqb i (length σ)) (meet-spared j σ i v g)
      where
        by_test : (b : Bool) → Spared (Leaves σ) (meet j σ i v g)
            → Spared (Leaves (m ∷ σ)) (cond b (bind_or j m v >>= λ m'. give (m' ∷ σ)) (meet j σ i v >>= λ σ'. give (m ∷ σ')) g)
        by_test true s = ends-after _ (bind_spared j m v g) λ m' g u. answers refl
        by_test false s = ends-after _ s λ σ' g l. answers (ap suc l)

    leave-spared : {X : Type 0} {Q : X → Type 0} (m : Option Val) (σ σ₁ : State) (next : Val → State → Run X) (g : ℕ) → Leaves (m ∷ σ) σ₁
        → ((w : Val) (σ₂ : State) → Leaves σ σ₂ → Spared Q (next w σ₂ g)) → Spared Q (leave σ₁ next g)
    unfolding leave
    leave-spared m σ [] next g l s = sticks
    leave-spared m σ (none ∷ σ₂) next g l s = s unit σ₂ (omega (arith, l))
    leave-spared m σ (some v ∷ σ₂) next g l s = s v σ₂ (omega (arith, l))

    module _ (fw : List Val → State → Term → Run Val) (S : SparedForward fw) (go : List Val → State → Term → Val → Run State) (B : SparedBackward go)
        (a : List Val) (σ : State) where
      -- the same term in a state that came from this one
      onward : (σ₁ : State) (t : Term) (v : Val) (q : ℕ) (M : ℕ → Bool) (Γ : List Ty) (τ : Ty) → Typed P q M Γ t τ
          → chooses_at k (length a) (length σ) t ≡ true → Leaves σ σ₁ → (g : ℕ) → Spared (Leaves σ) (go a σ₁ t v g)
      onward σ₁ t v q M Γ τ T c l g =
          ends-map (λ σ' l'. l' ∙ l) (B a σ₁ t v q M Γ τ T (ap (λ n. chooses_at k (length a) n t) l ∙ c) g)

      branch-spared : (u : Term) (v w : Val) (q : ℕ) (M : ℕ → Bool) (Γ : List Ty) (τ : Ty) → Typed P q M Γ u τ
          → chooses_at k (length a) (suc (length σ)) u ≡ true → (g : ℕ) → Spared (Leaves σ) (branch_back go a σ u v w g)
      unfolding branch_back
      branch-spared u v w q M Γ τ T c g = ends-after _ (B a (some w ∷ σ) u v q M Γ τ T c g) λ σ₁ g l.
          leave-spared (some w) σ σ₁ _ g l λ x σ₂ l₂. answers l₂

      matched-spared : (e u : Term) (v : Val) (wrap : Val → Val) (q : ℕ) (M : ℕ → Bool) (Γ Γ' : List Ty) (d τ : Ty) → Typed P q M Γ e d
          → chooses_at k (length a) (length σ) e ≡ true → Typed P q M Γ' u τ → chooses_at k (length a) (suc (length σ)) u ≡ true → (g : ℕ)
          → Spared (Leaves σ) ((go a (none ∷ σ) u v >>= λ σ₁. leave σ₁ λ w σ₂. go a σ₂ e (wrap w)) g)
      matched-spared e u v wrap q M Γ Γ' d τ T c T' c' g = ends-after _ (B a (none ∷ σ) u v q M Γ' τ T' c' g) λ σ₁ g l.
          leave-spared none σ σ₁ _ g l λ w σ₂ l₂. onward σ₂ e (wrap w) q M Γ d T c l₂ g

      filled-chooses : (e : Term) → chooses_at k (length a) (length σ) e ≡ true → chooses_at k (length a) (length (filled σ)) e ≡ true
      filled-chooses e c = ap (λ n. chooses_at k (length a) n e) (length-filled σ) ∙ c

      case_spared : (j : ℕ) (e b b' : Term) (v : Val) (c y : Bool) (q : ℕ) (M : ℕ → Bool) (Γ : List Ty) (τ : Ty) → Typed P q M Γ (tcase j e b b') τ
          → chooses_at k (length a) (length σ) (tcase j e b b') ≡ true → (g : ℕ) → Spared (Leaves σ) (case_back fw go a σ e b b' v c y g)
      unfolding case_back
      case_spared j e b b' v true y q M Γ τ (a₁, a₂, T, T₁, T₂, s₁, s₂, su) h g = given (case_parts (length a) (length σ) j e b b' h) λ (here, x, z, z').
          ends-after _ (S a (filled σ) e _ _ _ _ T (filled-chooses e x) g) λ s g u.
          ends-sum s _ _ g (λ w. branch-spared b v w _ _ _ _ T₁ z g) λ w. branch-spared b' v w _ _ _ _ T₂ z' g
      case_spared j e b b' v false true q M Γ τ (a₁, a₂, T, T₁, T₂, s₁, s₂, su) h g =
          given (case_parts (length a) (length σ) j e b b' h) λ (here, x, z, z'). matched-spared e b v inl _ _ _ _ _ _ T x T₁ z g
      case_spared j e b b' v false false q M Γ τ (a₁, a₂, T, T₁, T₂, s₁, s₂, su) h g =
          given (case_parts (length a) (length σ) j e b b' h) λ (here, x, z, z'). matched-spared e b' v inr _ _ _ _ _ _ T x T₂ z' g

      all-filled : (ts : Terms) → choose_all_at k (length a) (length σ) ts ≡ true → choose_all_at k (length a) (length (filled σ)) ts ≡ true
      all-filled ts c = ap (λ n. choose_all_at k (length a) n ts) (length-filled σ) ∙ c

      step-back-spared : (t : Term) (v : Val) (q : ℕ) (M : ℕ → Bool) (Γ : List Ty) (τ : Ty) → Typed P q M Γ t τ
          → chooses_at k (length a) (length σ) t ≡ true → (g : ℕ) → Spared (Leaves σ) (backward_step fits P fw go a σ t v g)
      unfolding backward_step chooses_at
      step-back-spared (var j i) v q M Γ τ T c g = meet-spared j σ i v g
      step-back-spared (tunit j) v q M Γ τ T c g = ends-unit v (give σ) g (answers refl)
      step-back-spared (tinl j t e) v q M Γ τ (a₁, b₁, x, y, T) c g =
          ends-sum v _ _ g (λ w. B a σ e w _ _ _ _ T c g) λ w. refuses (other 16 j (λ e. omega arith))
      step-back-spared (tinr j t e) v q M Γ τ (a₁, b₁, x, y, T) c g =
          ends-sum v _ _ g (λ w. refuses (other 16 j (λ e. omega arith))) λ w. B a σ e w _ _ _ _ T c g
      step-back-spared (tpair j e e') v q M Γ τ (a₁, b₁, x, T, T') c g = given (and_both _ _ c) λ (y, z).
          ends-pair v _ g λ w w'. ends-after _ (B a σ e w _ _ _ _ T y g) λ σ₁ g l. onward σ₁ e' w' _ _ _ _ T' z l g
      step-back-spared (tlet j e b) v q M Γ τ (a₁, T, T', s) c g = given (and_both _ _ c) λ (y, z).
          ends-after _ (B a (none ∷ σ) b v _ _ _ _ T' z g) λ σ₁ g l. leave-spared none σ σ₁ _ g l λ w σ₂ l₂. onward σ₂ e w _ _ _ _ T y l₂ g
      step-back-spared (tletp j e b) v q M Γ τ (a₁, a₂, T, T', s, s') c g = given (and_both _ _ c) λ (y, z).
          ends-after _ (B a (none ∷ none ∷ σ) b v _ _ _ _ T' z g) λ σ₁ g l. leave-spared none (none ∷ σ) σ₁ _ g l λ w' σ₂ l₂.
          leave-spared none σ σ₂ _ g l₂ λ w σ₃ l₃. onward σ₃ e (pair w w') _ _ _ _ T y l₃ g
      step-back-spared (tcase j e b b') v q M Γ τ T c g =
          case_spared j e b b' v (by_ancilla (length a) (length σ) e) (may_yield a b v) q M Γ τ T c g
      step-back-spared (tcall j i ts e) v q M Γ τ (h', y, Ts, T, z, ins) c g = given (and_both _ _ c) λ (x, x').
          spared_some (nth P i) _ g λ h found. given (some_inj (sym y ∙ found)) λ same-h.
          ends-after _ (each-spared fw S a (filled σ) ts _ _ _ _ Ts (all-filled ts x) g) λ vs g l.
          ends-after _ (B (scope vs []) (none ∷ map some (scope vs [])) h.body v _ _ _ _ (W i h found).0
          (body-chooses i h found vs (l ∙ ap (λ (h : Fun). length h.ancillae) same-h) none) g) λ σ₁ g l₁.
          leave-spared none (map some (scope vs [])) σ₁ _ g l₁ λ w σ₂ l₂. B a σ e w _ _ _ _ T x' g
      step-back-spared (troll j t e) v q M Γ τ (a₁, x, y, T) c g = ends-roll v _ g λ w. B a σ e w _ _ _ _ T c g
      step-back-spared (tunroll j t e) v q M Γ τ (a₁, x, y, T) c g = B a σ e (roll v) _ _ _ _ T c g

    backward-spared : (r : ℕ) → SparedBackward (backward fits P r)
    unfolding backward
    backward-spared zero a σ t v q M Γ τ T c g =
        ends_enter (entry t) g (refuse 13 (entry t)) (other 12 (entry t) (λ e. omega arith)) λ g. refuses (other 13 (entry t) (λ e. omega arith))
    backward-spared (suc r) a σ t v q M Γ τ T c g = ends_enter (entry t) g _ (other 12 (entry t) (λ e. omega arith)) λ g.
        ends-test (fits v) 14 (entry t) g _ (other 14 (entry t) (λ e. omega arith)) λ ft.
        step-back-spared (forward fits P r) (forward-spared r) (backward fits P r) (backward-spared r) a σ t v q M Γ τ T c g

    ----------------------------------------------------------------
    -- Functions

    module _ (j : ℕ) (h : Fun) (found : nth P j ≡ some h) (vs : List Val) (l : length vs ≡ length h.ancillae) (r : ℕ) (v : Val) (f : ℕ) where
      pub run-forward-spared : run_forward fits P r h vs v f ≡ stop 15 k → ⊥
      unfolding run_forward
      run-forward-spared p = refusal-ends (forward-spared r (scope vs []) (some v ∷ map some (scope vs [])) h.body _ _ _ _ (W j h found).0
          (body-chooses j h found vs l (some v)) f) p refl refl

      pub run-backward-spared : run_backward fits P r h vs v f ≡ stop 15 k → ⊥
      unfolding run_backward
      run-backward-spared p = refusal-ends (ends-after {Q' = λ w. Unit {0}} _ (backward-spared r (scope vs []) (none ∷ map some (scope vs [])) h.body v
          _ _ _ _ (W j h found).0 (body-chooses j h found vs l none) f) λ σ g l₁. leave-spared none (map some (scope vs [])) σ _ g l₁ λ w σ₂ l₂.
          answers tt) p refl refl
