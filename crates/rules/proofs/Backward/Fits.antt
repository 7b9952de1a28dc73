-- What a run backward binds fits: a variable is bound at a variable term only, and its value was tested on entering that term. So
-- what a run of a function backward answers fits. Refusals have the numbers of runs.
use Prim.Native.Nat.{ℕ, zero, suc}
use native.Mathlib.Omega.{arith}
use mathlib.Core.Path.{◌≡◌, refl, sym, subst}
use mathlib.Core.Bool.{Bool, true, false, cond}
use mathlib.Core.Option.{Option, none, some}
use mathlib.Core.List.{List, [], ◌∷◌, map}
use mathlib.Core.Logic.{◌⊎◌, inl as left, inr as right, ⊎_elim}
use lib.ListN.{length}
use lib.Dec.{eqb}
use package.Rattle.rules.specs.Val.{Val, unit, inl, inr, pair, roll, same}
use package.Rattle.rules.specs.Term.{Term, var, tunit, tinl, tinr, tpair, tlet, tletp, tcase, tcall, troll, tunroll, entry, Fun, Program, nth}
use package.Rattle.rules.specs.Term.{scope, by_ancilla}
use package.Rattle.rules.specs.Yield.{may_yield}
use package.Rattle.rules.specs.Run.{ok, Run, ◌>>=◌, give, refuse}
use package.Rattle.rules.specs.Machine.{State, bind_or, meet, leave, filled, forward, branch_back, case_back, backward_step, backward, run_backward}
use package.Rattle.rules.proofs.Numbers.{Ends, answers, refuses, sticks, ends-after, ends_enter, ends-test, ends_some, ends-sum, ends-pair, ends-roll}
use package.Rattle.rules.proofs.Numbers.{ends-unit, ends-map, ends-wider, answer-ends, EndsForward, each-ends, forward-ends}

module _ (fits : Val → Bool) where
  ----------------------------------------------------------------
  -- States: nothing is taken back, and what is bound newly fits

  -- what is known of a variable stays, or the variable gains a value that fits
  abbrev Gain : Option Val → Option Val → Type 0
  Gain none none = Unit {0}
  Gain none (some v) = fits v ≡ true
  Gain (some w) m = some w ≡ m

  abbrev Gains : State → State → Type 0
  Gains [] [] = Unit {0}
  Gains [] (m ∷ σ) = ⊥
  Gains (m ∷ σ) [] = ⊥
  Gains (m ∷ σ) (m' ∷ σ') = Gain m m' × Gains σ σ'

  gain_none : (m : Option Val) → Gain m m
  gain_none none = tt
  gain_none (some w) = refl

  gain-both : (m m' m'' : Option Val) → Gain m m' → Gain m' m'' → Gain m m''
  gain-both none none m'' x y = y
  gain-both none (some v) m'' x y = subst (Gain none) y x
  gain-both (some w) m' m'' x y = subst (λ m. Gain m m'') (sym x) y

  gains_none : (σ : State) → Gains σ σ
  gains_none [] = tt
  gains_none (m ∷ σ) = (gain_none m, gains_none σ)

  gains-both : (σ σ' σ'' : State) → Gains σ σ' → Gains σ' σ'' → Gains σ σ''
  gains-both [] [] σ'' x y = y
  gains-both [] (m ∷ σ') σ'' x y = absurd x
  gains-both (m ∷ σ) [] σ'' x y = absurd x
  gains-both (m ∷ σ) (m' ∷ σ') [] x y = absurd y
  gains-both (m ∷ σ) (m' ∷ σ') (m'' ∷ σ'') x y = (gain-both m m' m'' x.0 y.0, gains-both σ σ' σ'' x.1 y.1)

  ----------------------------------------------------------------
  -- Variables are met, and leave

  bind_ends : (k : ℕ) (m : Option Val) (v : Val) (g : ℕ) → fits v ≡ true → Ends (Gain m) (bind_or k m v g)
  unfolding bind_or
  bind_ends k none v g ft = answers ft
  bind_ends k (some w) v g ft = ends-test (same w v) 16 k g (give (some w)) (omega arith) λ e. answers refl

  meet-ends : (k : ℕ) (σ : State) (i : ℕ) (v : Val) (g : ℕ) → fits v ≡ true → Ends (Gains σ) (meet k σ i v g)
  unfolding meet
  meet-ends k [] i v g ft = sticks
  meet-ends k (m ∷ σ) i v g ft = go (eqb i (length σ)) (meet-ends k σ i v g ft)
    where
      go : (b : Bool) → Ends (Gains σ) (meet k σ i v g)
          → Ends (Gains (m ∷ σ)) (cond b (bind_or k m v >>= λ m'. give (m' ∷ σ)) (meet k σ i v >>= λ σ'. give (m ∷ σ')) g)
      go true s = ends-after _ (bind_ends k m v g ft) λ m' g x. answers (x, gains_none σ)
      go false s = ends-after _ s λ σ' g x. answers (gain_none m, x)

  -- the value that a variable leaves with: unit, if it was never met, or one that fits
  abbrev Leaves : Val → Type 0
  Leaves w = (unit ≡ w) ⊎ (fits w ≡ true)

  -- a variable that entered unknown leaves
  leave_ends : {X : Type 0} {Q : X → Type 0} (σ σ₁ : State) (k : Val → State → Run X) (g : ℕ) → Gains (none ∷ σ) σ₁
      → ((w : Val) (σ₂ : State) → Leaves w → Gains σ σ₂ → Ends Q (k w σ₂ g)) → Ends Q (leave σ₁ k g)
  unfolding leave
  leave_ends σ [] k g x s = absurd x
  leave_ends σ (none ∷ σ₂) k g x s = s unit σ₂ (left refl) x.1
  leave_ends σ (some v ∷ σ₂) k g x s = s v σ₂ (right x.0) x.1

  -- a variable that entered bound leaves
  bound-ends : (w : Val) (σ σ₁ : State) (g : ℕ) → Gains (some w ∷ σ) σ₁ → Ends (Gains σ) (leave σ₁ (λ u σ₂. give σ₂) g)
  unfolding leave
  bound-ends w σ [] g x = absurd x
  bound-ends w σ (none ∷ σ₂) g x = answers x.1
  bound-ends w σ (some v ∷ σ₂) g x = answers x.1

  ----------------------------------------------------------------
  -- Terms

  module _ (P : Program) where
    abbrev EndsBackward : (List Val → State → Term → Val → Run State) → Type 0
    EndsBackward go = (a : List Val) (σ : State) (t : Term) (v : Val) (g : ℕ) → Ends (Gains σ) (go a σ t v g)

    module _ (fw : List Val → State → Term → Run Val) (S : EndsForward fits P fw)
        (go : List Val → State → Term → Val → Run State) (B : EndsBackward go) (a : List Val) (σ : State) where
      -- from a state that more is bound in
      onward : (σ₁ : State) (t : Term) (v : Val) (g : ℕ) → Gains σ σ₁ → Ends (Gains σ) (go a σ₁ t v g)
      onward σ₁ t v g x = ends-map (λ σ' y. gains-both σ σ₁ σ' x y) (B a σ₁ t v g)

      branch-ends : (b : Term) (v w : Val) (g : ℕ) → Ends (Gains σ) (branch_back go a σ b v w g)
      unfolding branch_back
      branch-ends b v w g = ends-after _ (B a (some w ∷ σ) b v g) λ σ₁ g x. bound-ends w σ σ₁ g x

      case_ends : (e b b' : Term) (v : Val) (c y : Bool) (g : ℕ) → Ends (Gains σ) (case_back fw go a σ e b b' v c y g)
      unfolding case_back
      case_ends e b b' v true y g = ends-after _ (ends-wider (λ c k l. omega arith) (S a (filled σ) e g)) λ s g u.
          ends-sum s _ _ g (λ w. branch-ends b v w g) λ w. branch-ends b' v w g
      case_ends e b b' v false y g = ends-after _ (B a (none ∷ σ) (cond y b b') v g) λ σ₁ g x. leave_ends σ σ₁ _ g x λ w σ₂ l y'.
          onward σ₂ e (cond y (inl w) (inr w)) g y'

      step-ends : (t : Term) (v : Val) → fits v ≡ true → (g : ℕ) → Ends (Gains σ) (backward_step fits P fw go a σ t v g)
      unfolding backward_step
      step-ends (var k i) v ft g = meet-ends k σ i v g ft
      step-ends (tunit k) v ft g = ends-unit v (give σ) g (answers (gains_none σ))
      step-ends (tinl k c e) v ft g = ends-sum v _ _ g (λ w. B a σ e w g) λ w. refuses {c = 16} (omega arith)
      step-ends (tinr k c e) v ft g = ends-sum v _ _ g (λ w. refuses {c = 16} (omega arith)) λ w. B a σ e w g
      step-ends (tpair k e e') v ft g = ends-pair v _ g λ w w'. ends-after _ (B a σ e w g) λ σ₁ g x. onward σ₁ e' w' g x
      step-ends (tlet k e b) v ft g = ends-after _ (B a (none ∷ σ) b v g) λ σ₁ g x. leave_ends σ σ₁ _ g x λ w σ₂ l y. onward σ₂ e w g y
      step-ends (tletp k e b) v ft g = ends-after _ (B a (none ∷ none ∷ σ) b v g) λ σ₁ g x. leave_ends (none ∷ σ) σ₁ _ g x λ w' σ₂ l y.
          leave_ends σ σ₂ _ g y λ w σ₃ l z. onward σ₃ e (pair w w') g z
      step-ends (tcase k e b b') v ft g = case_ends e b b' v (by_ancilla (length a) (length σ) e) (may_yield a b v) g
      step-ends (tcall k j ts e) v ft g = ends_some (nth P j) _ g λ h.
          ends-after _ (ends-wider (λ c k l. omega arith) (each-ends fits P fw S a (filled σ) ts g)) λ vs g u.
          ends-after _ (B (scope vs []) (none ∷ map some (scope vs [])) h.body v g) λ σ₁ g x.
          leave_ends (map some (scope vs [])) σ₁ _ g x λ w σ₂ l y. B a σ e w g
      step-ends (troll k c e) v ft g = ends-roll v _ g λ w. B a σ e w g
      step-ends (tunroll k c e) v ft g = B a σ e (roll v) g

    pub backward-ends : (r : ℕ) → EndsBackward (backward fits P r)
    unfolding backward
    backward-ends zero a σ t v g = ends_enter (entry t) g (refuse 13 (entry t)) (omega arith) λ g. refuses {c = 13} (omega arith)
    backward-ends (suc r) a σ t v g = ends_enter (entry t) g _ (omega arith) λ g. ends-test (fits v) 14 (entry t) g _ (omega arith) λ ft.
        step-ends (forward fits P r) (forward-ends fits P r) (backward fits P r) (backward-ends r) a σ t v ft g

    ----------------------------------------------------------------
    -- Functions

    run-leaves : (r : ℕ) (h : Fun) (vs : List Val) (w : Val) (f : ℕ) → Ends Leaves (run_backward fits P r h vs w f)
    unfolding run_backward
    run-leaves r h vs w f = ends-after _ (backward-ends r (scope vs []) (none ∷ map some (scope vs [])) h.body w f) λ σ g x.
        leave_ends (map some (scope vs [])) σ _ g x λ v σ' l y. answers l

    module _ (u : fits unit ≡ true) where
      pub run-backward-ends : (r : ℕ) (h : Fun) (vs : List Val) (w : Val) (f : ℕ) → Ends (λ v. fits v ≡ true) (run_backward fits P r h vs w f)
      run-backward-ends r h vs w f = ends-map (λ v l. ⊎_elim (λ e. subst (λ v. fits v ≡ true) e u) (λ ft. ft) l) (run-leaves r h vs w f)

      pub run-back-fits : (r : ℕ) (h : Fun) (vs : List Val) (v w : Val) (f g : ℕ) → run_backward fits P r h vs w f ≡ ok v g → fits v ≡ true
      run-back-fits r h vs v w f g p = answer-ends (run-backward-ends r h vs w f) p
