-- More fuel, room or size never changes an answer: a run under wider limits grows from one under narrower limits.
use Prim.Native.Nat.{ℕ, zero, suc, ◌+◌, ◌≤◌}
use native.Mathlib.Omega.{arith}
use mathlib.Core.Path.{◌≡◌, refl, sym, subst}
use mathlib.Core.Bool.{Bool, true, false, cond}
use mathlib.Core.Option.{Option, none, some}
use mathlib.Core.List.{List, [], ◌∷◌, map}
use lib.ListN.{length}
use lib.Dec.{eqb}
use package.Rattle.rules.specs.Val.{Val, unit, inl, inr, pair, roll, same}
use package.Rattle.rules.specs.Term.{Term, var, tunit, tinl, tinr, tpair, tlet, tletp, tcase, tcall, troll, tunroll, Terms, end, more, entry}
use package.Rattle.rules.specs.Term.{Fun, Program, nth, scope, by_ancilla}
use package.Rattle.rules.specs.Yield.{may_yield, first_match}
use package.Rattle.rules.specs.Run.{Res, ok, stop, stuck, Run, after, give, enter, test}
use package.Rattle.rules.specs.Machine.{on_sum, on_pair, on_roll, on_unit, on_some, State, known, bind_or, meet, leave}
use package.Rattle.rules.specs.Machine.{filled, each, made, forward_step, forward, branch_back, case_back, backward_step, backward, run_backward}

module _ {X : Type 0} (d : ℕ) where
  -- A run that answers `y`, with `d` more fuel and wider limits, has grown from one that answers the other: it answers the same,
  -- unless that one was refused for want of fuel, room or size.
  pub data Grows : Res X → Res X → Type 0 where
    grows_ok : {x : X} {g : ℕ} → Grows (ok x g) (ok x (g + d))
    grows_stop : {c k : ℕ} → Grows (stop c k) (stop c k)
    grows_stuck : Grows stuck stuck
    limited : {c k : ℕ} {y : Res X} → 12 ≤ c → c ≤ 14 → Grows (stop c k) y

  grows-test : (b : Bool) (n k f : ℕ) (m m' : Run X) → Grows (m f) (m' (f + d)) → Grows (test b n k m f) (test b n k m' (f + d))
  unfolding test
  grows-test true n k f m m' s = s
  grows-test false n k f m m' s = grows_stop

  grows-size : (b b' : Bool) (k f : ℕ) (m m' : Run X) → (b ≡ true → b' ≡ true) → Grows (m f) (m' (f + d))
      → Grows (test b 14 k m f) (test b' 14 k m' (f + d))
  unfolding test
  grows-size true b' k f m m' w s = subst (λ b'. Grows (m f) (test b' 14 k m' (f + d))) (sym (w refl)) s
  grows-size false b' k f m m' w s = limited {c = 14} (omega arith) (omega arith)

  grows_enter : (k f : ℕ) (m m' : Run X) → ((g : ℕ) → Grows (m g) (m' (g + d))) → Grows (enter k m f) (enter k m' (f + d))
  unfolding enter
  grows_enter k zero m m' s = limited {c = 12} (omega arith) (omega arith)
  grows_enter k (suc f) m m' s = subst (λ g. Grows (m f) (enter k m' g)) (let z : suc (f + d) ≡ suc f + d = omega arith in z) (s f)

  grows_some : {A : Type 0} (o : Option A) (f : ℕ) (k k' : A → Run X) → ((a : A) → Grows (k a f) (k' a (f + d))) → Grows (on_some o k f) (on_some o k' (f + d))
  unfolding on_some
  grows_some none f k k' s = grows_stuck
  grows_some (some a) f k k' s = s a

  grows-sum : (v : Val) (f : ℕ) (l l' r r' : Val → Run X) → ((w : Val) → Grows (l w f) (l' w (f + d))) → ((w : Val) → Grows (r w f) (r' w (f + d)))
      → Grows (on_sum v l r f) (on_sum v l' r' (f + d))
  unfolding on_sum
  grows-sum unit f l l' r r' s s' = grows_stuck
  grows-sum (inl v) f l l' r r' s s' = s v
  grows-sum (inr v) f l l' r r' s s' = s' v
  grows-sum (pair v w) f l l' r r' s s' = grows_stuck
  grows-sum (roll v) f l l' r r' s s' = grows_stuck

  grows-pair : (v : Val) (f : ℕ) (k k' : Val → Val → Run X) → ((w w' : Val) → Grows (k w w' f) (k' w w' (f + d))) → Grows (on_pair v k f) (on_pair v k' (f + d))
  unfolding on_pair
  grows-pair unit f k k' s = grows_stuck
  grows-pair (inl v) f k k' s = grows_stuck
  grows-pair (inr v) f k k' s = grows_stuck
  grows-pair (pair v w) f k k' s = s v w
  grows-pair (roll v) f k k' s = grows_stuck

  grows-roll : (v : Val) (f : ℕ) (k k' : Val → Run X) → ((w : Val) → Grows (k w f) (k' w (f + d))) → Grows (on_roll v k f) (on_roll v k' (f + d))
  unfolding on_roll
  grows-roll unit f k k' s = grows_stuck
  grows-roll (inl v) f k k' s = grows_stuck
  grows-roll (inr v) f k k' s = grows_stuck
  grows-roll (pair v w) f k k' s = grows_stuck
  grows-roll (roll v) f k k' s = s v

  grows-unit : (v : Val) (f : ℕ) (m : Run X) → Grows (m f) (m (f + d)) → Grows (on_unit v m f) (on_unit v m (f + d))
  unfolding on_unit
  grows-unit unit f m s = s
  grows-unit (inl v) f m s = grows_stuck
  grows-unit (inr v) f m s = grows_stuck
  grows-unit (pair v w) f m s = grows_stuck
  grows-unit (roll v) f m s = grows_stuck

  grows-leave : (σ : State) (f : ℕ) (k k' : Val → State → Run X) → ((w : Val) (σ' : State) → Grows (k w σ' f) (k' w σ' (f + d)))
      → Grows (leave σ k f) (leave σ k' (f + d))
  unfolding leave
  grows-leave [] f k k' s = grows_stuck
  grows-leave (none ∷ σ) f k k' s = s unit σ
  grows-leave (some v ∷ σ) f k k' s = s v σ

  -- what a grown run answers
  pub answer-grows : {x : Res X} {y : Res X} {w : X} {g : ℕ} → Grows x y → x ≡ ok w g → y ≡ ok w (g + d)
  answer-grows {y = y} s p = go (subst (λ x. Grows x y) p s)
    where
      go : {w : X} {g : ℕ} {y : Res X} → Grows (ok w g) y → y ≡ ok w (g + d)
      go grows_ok = refl

  pub refusal-grows : {x : Res X} {y : Res X} {c k : ℕ} → Grows x y → x ≡ stop c k → 15 ≤ c → y ≡ stop c k
  refusal-grows {y = y} s p l = go (subst (λ x. Grows x y) p s) l
    where
      go : {c k : ℕ} {y : Res X} → Grows (stop c k) y → 15 ≤ c → y ≡ stop c k
      go grows_stop l = refl
      go (limited x z) l = absurd (omega arith)

grows-after : {X Y : Type 0} {d : ℕ} {x x' : Res X} (k k' : X → Run Y) → Grows d x x' → ((a : X) (f : ℕ) → Grows d (k a f) (k' a (f + d)))
    → Grows d (after x k) (after x' k')
unfolding after
grows-after k k' (grows_ok {x} {g}) s = s x g
grows-after k k' grows_stop s = grows_stop
grows-after k k' grows_stuck s = grows_stuck
grows-after k k' (limited l l') s = limited l l'

module _ (fits fits' : Val → Bool) (wider : (v : Val) → fits v ≡ true → fits' v ≡ true) (P : Program) (d : ℕ) where
  abbrev GrowsForward : (List Val → State → Term → Run Val) → (List Val → State → Term → Run Val) → Type 0
  GrowsForward go go' = (a : List Val) (σ : State) (t : Term) (f : ℕ) → Grows d (go a σ t f) (go' a σ t (f + d))

  abbrev GrowsBackward : (List Val → State → Term → Val → Run State) → (List Val → State → Term → Val → Run State) → Type 0
  GrowsBackward go go' = (a : List Val) (σ : State) (t : Term) (v : Val) (f : ℕ) → Grows d (go a σ t v f) (go' a σ t v (f + d))

  grows-made : (k : ℕ) (v : Val) (f : ℕ) → Grows d (made fits P k v f) (made fits' P k v (f + d))
  unfolding made
  grows-made k v f = grows-size d (fits v) (fits' v) k f (give v) (give v) (wider v) grows_ok

  grows-each : (go go' : Term → Run Val) → ((t : Term) (f : ℕ) → Grows d (go t f) (go' t (f + d))) → (ts : Terms) (f : ℕ)
      → Grows d (each go ts f) (each go' ts (f + d))
  unfolding each
  grows-each go go' s end f = grows_ok
  grows-each go go' s (more t ts) f = grows-after _ _ (s t f) λ v f. grows-after _ _ (grows-each go go' s ts f) λ vs f. grows_ok

  grows_bind : (k : ℕ) (m : Option Val) (v : Val) (f : ℕ) → Grows d (bind_or k m v f) (bind_or k m v (f + d))
  unfolding bind_or
  grows_bind k none v f = grows_ok
  grows_bind k (some w) v f = grows-test d (same w v) 16 k f (give (some w)) (give (some w)) grows_ok

  grows-meet : (k : ℕ) (σ : State) (i : ℕ) (v : Val) (f : ℕ) → Grows d (meet k σ i v f) (meet k σ i v (f + d))
  unfolding meet
  grows-meet k [] i v f = grows_stuck
  grows-meet k (m ∷ σ) i v f = pick (eqb i (length σ)) _ _ (grows-after _ _ (grows_bind k m v f) λ m' f. grows_ok) (grows-after _ _ (grows-meet k σ i v f) λ σ' f. grows_ok)
    where
      pick : (b : Bool) (m₁ m₂ : Run State) → Grows d (m₁ f) (m₁ (f + d)) → Grows d (m₂ f) (m₂ (f + d)) → Grows d (cond b m₁ m₂ f) (cond b m₁ m₂ (f + d))
      pick true m₁ m₂ s s' = s
      pick false m₁ m₂ s s' = s'

  module _ (go go' : List Val → State → Term → Run Val) (G : GrowsForward go go') where
    grows-forward-step : GrowsForward (forward_step fits P go) (forward_step fits' P go')
    unfolding forward_step
    grows-forward-step a σ (var k i) f = grows_some d (known σ i) f _ _ λ v. grows-made k v f
    grows-forward-step a σ (tunit k) f = grows-made k unit f
    grows-forward-step a σ (tinl k c e) f = grows-after _ _ (G a σ e f) λ v f. grows-made k (inl v) f
    grows-forward-step a σ (tinr k c e) f = grows-after _ _ (G a σ e f) λ v f. grows-made k (inr v) f
    grows-forward-step a σ (tpair k e e') f = grows-after _ _ (G a σ e f) λ v f. grows-after _ _ (G a σ e' f) λ w f. grows-made k (pair v w) f
    grows-forward-step a σ (tlet k e b) f = grows-after _ _ (G a σ e f) λ v f. G a (some v ∷ σ) b f
    grows-forward-step a σ (tletp k e b) f = grows-after _ _ (G a σ e f) λ p f. grows-pair d p f _ _ λ v w. G a (some w ∷ some v ∷ σ) b f
    grows-forward-step a σ (tcase k e b b') f = grows-after _ _ (G a σ e f) λ s f.
        grows-sum d s f _ _ _ _ (λ v. G a (some v ∷ σ) b f) λ v. grows-after _ _ (G a (some v ∷ σ) b' f) λ w f.
        grows-test d (first_match a (length σ) e b w) 15 k f (give w) (give w) grows_ok
    grows-forward-step a σ (tcall k g ts e) f = grows_some d (nth P g) f _ _ λ h. grows-after _ _ (grows-each (go a σ) (go' a σ) (G a σ) ts f) λ vs f.
        grows-after _ _ (G a σ e f) λ v f. G (scope vs []) (some v ∷ map some (scope vs [])) h.body f
    grows-forward-step a σ (troll k c e) f = grows-after _ _ (G a σ e f) λ v f. grows-made k (roll v) f
    grows-forward-step a σ (tunroll k c e) f = grows-after _ _ (G a σ e f) λ v f. grows-roll d v f _ _ λ w. grows-made k w f

  pub forward-grows : (r r' : ℕ) → r ≤ r' → GrowsForward (forward fits P r) (forward fits' P r')
  unfolding forward
  forward-grows zero zero l a σ t f = grows_enter d (entry t) f _ _ λ g. limited {c = 13} (omega arith) (omega arith)
  forward-grows zero (suc r') l a σ t f = grows_enter d (entry t) f _ _ λ g. limited {c = 13} (omega arith) (omega arith)
  forward-grows (suc r) zero l a σ t f = absurd (omega arith)
  forward-grows (suc r) (suc r') l a σ t f =
      grows_enter d (entry t) f _ _ λ g. grows-forward-step (forward fits P r) (forward fits' P r') (forward-grows r r' (omega arith)) a σ t g

  module _ (fw fw' : List Val → State → Term → Run Val) (F : GrowsForward fw fw')
      (go go' : List Val → State → Term → Val → Run State) (G : GrowsBackward go go') where
    grows-branch : (a : List Val) (σ : State) (b : Term) (v w : Val) (f : ℕ) → Grows d (branch_back go a σ b v w f) (branch_back go' a σ b v w (f + d))
    unfolding branch_back
    grows-branch a σ b v w f = grows-after _ _ (G a (some w ∷ σ) b v f) λ σ₁ f. grows-leave d σ₁ f _ _ λ u σ₂. grows_ok

    grows_case : (a : List Val) (σ : State) (e b b' : Term) (v : Val) (c y : Bool) (f : ℕ)
        → Grows d (case_back fw go a σ e b b' v c y f) (case_back fw' go' a σ e b b' v c y (f + d))
    unfolding case_back
    grows_case a σ e b b' v true y f = grows-after _ _ (F a (filled σ) e f) λ s f.
        grows-sum d s f _ _ _ _ (λ w. grows-branch a σ b v w f) λ w. grows-branch a σ b' v w f
    grows_case a σ e b b' v false y f = grows-after _ _ (G a (none ∷ σ) (cond y b b') v f) λ σ₁ f.
        grows-leave d σ₁ f _ _ λ w σ₂. G a σ₂ e (cond y (inl w) (inr w)) f

    grows-backward-step : GrowsBackward (backward_step fits P fw go) (backward_step fits' P fw' go')
    unfolding backward_step
    grows-backward-step a σ (var k i) v f = grows-meet k σ i v f
    grows-backward-step a σ (tunit k) v f = grows-unit d v f (give σ) grows_ok
    grows-backward-step a σ (tinl k c e) v f = grows-sum d v f _ _ _ _ (λ w. G a σ e w f) λ w. grows_stop
    grows-backward-step a σ (tinr k c e) v f = grows-sum d v f _ _ _ _ (λ w. grows_stop) λ w. G a σ e w f
    grows-backward-step a σ (tpair k e e') v f = grows-pair d v f _ _ λ w w'. grows-after _ _ (G a σ e w f) λ σ₁ f. G a σ₁ e' w' f
    grows-backward-step a σ (tlet k e b) v f = grows-after _ _ (G a (none ∷ σ) b v f) λ σ₁ f. grows-leave d σ₁ f _ _ λ w σ₂. G a σ₂ e w f
    grows-backward-step a σ (tletp k e b) v f = grows-after _ _ (G a (none ∷ none ∷ σ) b v f) λ σ₁ f.
        grows-leave d σ₁ f _ _ λ w' σ₂. grows-leave d σ₂ f _ _ λ w σ₃. G a σ₃ e (pair w w') f
    grows-backward-step a σ (tcase k e b b') v f = grows_case a σ e b b' v (by_ancilla (length a) (length σ) e) (may_yield a b v) f
    grows-backward-step a σ (tcall k g ts e) v f = grows_some d (nth P g) f _ _ λ h.
        grows-after _ _ (grows-each (fw a (filled σ)) (fw' a (filled σ)) (F a (filled σ)) ts f) λ vs f.
        grows-after _ _ (G (scope vs []) (none ∷ map some (scope vs [])) h.body v f) λ σ₁ f. grows-leave d σ₁ f _ _ λ w σ₂. G a σ e w f
    grows-backward-step a σ (troll k c e) v f = grows-roll d v f _ _ λ w. G a σ e w f
    grows-backward-step a σ (tunroll k c e) v f = G a σ e (roll v) f

  pub backward-grows : (r r' : ℕ) → r ≤ r' → GrowsBackward (backward fits P r) (backward fits' P r')
  unfolding backward
  backward-grows zero zero l a σ t v f = grows_enter d (entry t) f _ _ λ g. limited {c = 13} (omega arith) (omega arith)
  backward-grows zero (suc r') l a σ t v f = grows_enter d (entry t) f _ _ λ g. limited {c = 13} (omega arith) (omega arith)
  backward-grows (suc r) zero l a σ t v f = absurd (omega arith)
  backward-grows (suc r) (suc r') l a σ t v f = grows_enter d (entry t) f _ _ λ g. grows-size d (fits v) (fits' v) (entry t) g _ _ (wider v)
      (grows-backward-step (forward fits P r) (forward fits' P r') (forward-grows r r' (omega arith)) (backward fits P r) (backward fits' P r') (backward-grows r r' (omega arith)) a σ t v g)

  pub run-back-grows : (r r' : ℕ) → r ≤ r' → (h : Fun) (vs : List Val) (v : Val) (f : ℕ)
      → Grows d (run_backward fits P r h vs v f) (run_backward fits' P r' h vs v (f + d))
  unfolding run_backward
  run-back-grows r r' l h vs v f = grows-after _ _ (backward-grows r r' l (scope vs []) (none ∷ map some (scope vs [])) h.body v f) λ σ f.
      grows-leave d σ f _ _ λ w σ'. grows_ok
