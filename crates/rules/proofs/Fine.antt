-- Fine runs: a run answers as it should, or is refused, and is not stuck.
use Prim.Native.Nat.{ℕ, zero, suc}
use mathlib.Core.Path.{◌≡◌, sym, subst}
use mathlib.Core.Bool.{Bool, true, false}
use mathlib.Core.Option.{Option, some}
use package.Rattle.rules.specs.Val.{Val, unit, inl, inr, pair, roll}
use package.Rattle.rules.specs.Ty.{Ty, one, prod, sum, mu, unfold_ty}
use package.Rattle.rules.specs.Run.{Res, ok, stop, stuck, Run, after, enter, test}
use package.Rattle.rules.specs.Machine.{on_sum, on_pair, on_roll, on_unit, on_some}
use package.Rattle.rules.proofs.OfType.{OfType}

-- an answer of which `Q` holds, or a refusal
pub data Fine {X : Type 0} (Q : X → Type 0) : Res X → Type 0 where
  fine : {x : X} {g : ℕ} → Q x → Fine Q (ok x g)
  refused : {c k : ℕ} → Fine Q (stop c k)

module _ {X Y : Type 0} {Q : X → Type 0} {Q' : Y → Type 0} where
  pub fine-after : {x : Res X} (k : X → Run Y) → Fine Q x → ((y : X) (g : ℕ) → Q y → Fine Q' (k y g)) → Fine Q' (after x k)
  unfolding after
  fine-after k (fine {x} {g} q) s = s x g q
  fine-after k refused s = refused

module _ {X : Type 0} {Q : X → Type 0} where
  pub fine-map : {Q' : X → Type 0} {x : Res X} → ((y : X) → Q y → Q' y) → Fine Q x → Fine Q' x
  fine-map s (fine q) = fine (s _ q)
  fine-map s refused = refused

  pub fine_enter : (k f : ℕ) (m : Run X) → ((g : ℕ) → Fine Q (m g)) → Fine Q (enter k m f)
  unfolding enter
  fine_enter k zero m s = refused
  fine_enter k (suc f) m s = s f

  pub fine-test : (b : Bool) (n k g : ℕ) (m : Run X) → Fine Q (m g) → Fine Q (test b n k m g)
  unfolding test
  fine-test true n k g m s = s
  fine-test false n k g m s = refused

  pub fine_some : {A : Type 0} {o : Option A} {a : A} (k : A → Run X) (g : ℕ) → o ≡ some a → Fine Q (k a g) → Fine Q (on_some o k g)
  unfolding on_some
  fine_some k g p s = subst (λ o. Fine Q (on_some o k g)) (sym p) s

  pub fine-pair : (p : Val) (a b : Ty) (k : Val → Val → Run X) (g : ℕ) → OfType p (prod a b) → ((v w : Val) → OfType v a → OfType w b → Fine Q (k v w g)) → Fine Q (on_pair p k g)
  unfolding on_pair
  fine-pair unit a b k g h s = absurd h
  fine-pair (inl v) a b k g h s = absurd h
  fine-pair (inr v) a b k g h s = absurd h
  fine-pair (pair v w) a b k g h s = s v w h.0 h.1
  fine-pair (roll v) a b k g h s = absurd h

  pub fine-sum : (p : Val) (a b : Ty) (l r : Val → Run X) (g : ℕ) → OfType p (sum a b) → ((v : Val) → OfType v a → Fine Q (l v g)) → ((v : Val) → OfType v b → Fine Q (r v g))
      → Fine Q (on_sum p l r g)
  unfolding on_sum
  fine-sum unit a b l r g h s s' = absurd h
  fine-sum (inl v) a b l r g h s s' = s v h
  fine-sum (inr v) a b l r g h s s' = s' v h
  fine-sum (pair v w) a b l r g h s s' = absurd h
  fine-sum (roll v) a b l r g h s s' = absurd h

  pub fine-roll : (p : Val) (a : Ty) (k : Val → Run X) (g : ℕ) → OfType p (mu a) → ((v : Val) → OfType v (unfold_ty a) → Fine Q (k v g)) → Fine Q (on_roll p k g)
  unfolding on_roll
  fine-roll unit a k g h s = absurd h
  fine-roll (inl v) a k g h s = absurd h
  fine-roll (inr v) a k g h s = absurd h
  fine-roll (pair v w) a k g h s = absurd h
  fine-roll (roll v) a k g h s = s v h

  pub fine-unit : (p : Val) (m : Run X) (g : ℕ) → OfType p one → Fine Q (m g) → Fine Q (on_unit p m g)
  unfolding on_unit
  fine-unit unit m g h s = s
  fine-unit (inl v) m g h s = absurd h
  fine-unit (inr v) m g h s = absurd h
  fine-unit (pair v w) m g h s = absurd h
  fine-unit (roll v) m g h s = absurd h

----------------------------------------------------------------
-- What a fine run says

abbrev NotStuck : {X : Type 0} → Res X → Type 0
NotStuck (ok x g) = Unit {0}
NotStuck (stop c k) = Unit {0}
NotStuck stuck = ⊥

pub fine_not_stuck : {X : Type 0} {Q : X → Type 0} {x : Res X} → Fine Q x → ¬ (x ≡ stuck)
fine_not_stuck s p = subst NotStuck p (go s)
  where
    go : {X : Type 0} {Q : X → Type 0} {x : Res X} → Fine Q x → NotStuck x
    go (fine q) = tt
    go refused = tt

pub fine-answer : {X : Type 0} {Q : X → Type 0} {x : Res X} {y : X} {g : ℕ} → Fine Q x → x ≡ ok y g → Q y
fine-answer {Q = Q} {y = y} {g} s p = go (subst (Fine Q) p s)
  where
    go : Fine Q (ok y g) → Q y
    go (fine q) = q
