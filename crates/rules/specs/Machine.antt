-- Forward and backward as functions (sections 2 and 4). Both run on a state of known values; in a backward run an ancilla term, and the
-- scrutinee of a case that chooses by an ancilla (02, F-3), is forward evaluation in the state at hand. `r` is the height that is left.
-- That they answer what the rules say, and refuse where the rules yield nothing, is proved: Claims.
use Rattle.std.specs.Prelude.{ℕ, zero, suc, Bool, true, false, cond, length, eqb}
use Rattle.std.proofs.Math.Option.{Option, none, some}
use mathlib.Core.List.{List, [], ◌∷◌, map}
use package.Rattle.rules.specs.Val.{Val, unit, inl, inr, pair, roll, same}
use package.Rattle.rules.specs.Term.{Term, Terms, var, tunit, tinl, tinr, tpair, tlet, tletp, tcase, tcall, troll, tunroll, end, more, Fun}
use package.Rattle.rules.specs.Term.{Program, nth, entry, scope, by_ancilla}
use package.Rattle.rules.specs.Yield.{may_yield, first_match}
use package.Rattle.rules.specs.Run.{Run, ◌>>=◌, give, refuse, lost, enter, test}

----------------------------------------------------------------
-- By the shape of a value: a wrong shape is stuck

unfoldable pub on_sum : {A : Type 0} → Val → (Val → Run A) → (Val → Run A) → Run A
on_sum v l r = elim v [ unit ↦ lost | inl v ↦ l v | inr v ↦ r v | pair v w ↦ lost | roll v ↦ lost ]

unfoldable pub on_pair : {A : Type 0} → Val → (Val → Val → Run A) → Run A
on_pair v k = elim v [ unit ↦ lost | inl v ↦ lost | inr v ↦ lost | pair v w ↦ k v w | roll v ↦ lost ]

unfoldable pub on_roll : {A : Type 0} → Val → (Val → Run A) → Run A
on_roll v k = elim v [ unit ↦ lost | inl v ↦ lost | inr v ↦ lost | pair v w ↦ lost | roll v ↦ k v ]

unfoldable pub on_unit : {A : Type 0} → Val → Run A → Run A
on_unit v m = elim v [ unit ↦ m | inl v ↦ lost | inr v ↦ lost | pair v w ↦ lost | roll v ↦ lost ]

unfoldable pub on_some : {A B : Type 0} → Option A → (A → Run B) → Run B
on_some none k = lost
on_some (some a) k = k a

----------------------------------------------------------------
-- States: what is known of each variable in scope, the newest first

abbrev pub State : Type 0
State = List (Option Val)

-- what is known of variable `i`
unfoldable pub known : State → ℕ → Option Val
known [] i = none
known (m ∷ σ) i = cond (eqb i (length σ)) m (known σ i)

-- a variable is met with value `v`, at term `k`: it is bound, or compared ("a variable met again backward must have the same value")
unfoldable pub bind_or : ℕ → Option Val → Val → Run (Option Val)
bind_or k none v = give (some v)
bind_or k (some w) v = test (same w v) 16 k (give (some w))

-- the same for variable `i` of the state
unfoldable pub meet : ℕ → State → ℕ → Val → Run State
unfolding bind_or
meet k [] i v = lost
meet k (m ∷ σ) i v = cond (eqb i (length σ)) (bind_or k m v >>= λ m'. give (m' ∷ σ)) (meet k σ i v >>= λ σ'. give (m ∷ σ'))

-- the newest variable leaves the scope ("a unit variable never met is unit")
unfoldable pub leave : {A : Type 0} → State → (Val → State → Run A) → Run A
leave [] k = lost
leave (none ∷ σ) k = k unit σ
leave (some v ∷ σ) k = k v σ

-- what a term that is run forward in a backward run reads: a variable not met so far is unit (02, F-2)
unfoldable pub filled : State → State
filled [] = []
filled (none ∷ σ) = some unit ∷ filled σ
filled (some v ∷ σ) = some v ∷ filled σ

-- argument terms in order, by the run `go` of one
unfoldable pub each : (Term → Run Val) → Terms → Run (List Val)
each go end = give []
each go (more t ts) = do
  v ← go t
  vs ← each go ts
  give (v ∷ vs)

-- a branch backward, its variable bound to `w`
unfoldable pub branch_back : (List Val → State → Term → Val → Run State) → List Val → State → Term → Val → Val → Run State
branch_back go a σ b v w = do
  σ₁ ← go a (some w ∷ σ) b v
  leave σ₁ λ u σ₂. give σ₂

-- a case backward, by the runs `fw` and `go` of one term; `c` tells whether it chooses by an ancilla, `y` whether the left may yield
unfoldable pub case_back : (List Val → State → Term → Run Val) → (List Val → State → Term → Val → Run State)
    → List Val → State → Term → Term → Term → Val → (c y : Bool) → Run State
-- by an ancilla (02, F-3): the scrutinee forward, then the branch
case_back fw go a σ e b b' v true y = do
  s ← fw a (filled σ) e
  on_sum s (branch_back go a σ b v) (branch_back go a σ b' v)
-- the left branch exactly if the left may yield the value; then the scrutinee
case_back fw go a σ e b b' v false y = do
  σ₁ ← go a (none ∷ σ) (cond y b b') v
  leave σ₁ λ w σ₂. go a σ₂ e (cond y (inl w) (inr w))

----------------------------------------------------------------
-- Runs of terms: values within `fits`, `a` the ancilla parameters' values

module _ (fits : Val → Bool) (P : Program) where
  -- a term's value is made, at term `k`, or is too long
  unfoldable pub made : ℕ → Val → Run Val
  made k v = test (fits v) 14 k (give v)

  -- what a term does forward, once it is entered; its parts are run by `go`, in the written order
  unfoldable pub forward_step : (List Val → State → Term → Run Val) → List Val → State → Term → Run Val
  unfolding made
  forward_step go a σ (var k i) = on_some (known σ i) (made k)
  forward_step go a σ (tunit k) = made k unit
  forward_step go a σ (tinl k c e) = do
    v ← go a σ e
    made k (inl v)
  forward_step go a σ (tinr k c e) = do
    v ← go a σ e
    made k (inr v)
  forward_step go a σ (tpair k e e') = do
    v ← go a σ e
    w ← go a σ e'
    made k (pair v w)
  forward_step go a σ (tlet k e b) = do
    v ← go a σ e
    go a (some v ∷ σ) b
  forward_step go a σ (tletp k e b) = do
    p ← go a σ e
    on_pair p λ v w. go a (some w ∷ some v ∷ σ) b
  forward_step go a σ (tcase k e b b') = do
    s ← go a σ e
    on_sum s (λ v. go a (some v ∷ σ) b) λ v. do
      w ← go a (some v ∷ σ) b'
      test (first_match a (length σ) e b w) 15 k (give w)
  forward_step go a σ (tcall k g ts e) = on_some (nth P g) λ h. do
    vs ← each (go a σ) ts
    v ← go a σ e
    go (scope vs []) (some v ∷ map some (scope vs [])) h.body
  forward_step go a σ (troll k c e) = do
    v ← go a σ e
    made k (roll v)
  forward_step go a σ (tunroll k c e) = do
    v ← go a σ e
    on_roll v (made k)

  -- at a term 12 is tested first, then 13
  unfoldable pub forward : ℕ → List Val → State → Term → Run Val
  forward zero a σ t = enter (entry t) (refuse 13 (entry t))
  forward (suc r) a σ t = enter (entry t) (forward_step (forward r) a σ t)

  -- what a term does backward with its value, once it is entered; what is run forward on the way is run by `fw`
  unfoldable pub backward_step : (List Val → State → Term → Run Val) → (List Val → State → Term → Val → Run State)
      → List Val → State → Term → Val → Run State
  backward_step fw go a σ (var k i) v = meet k σ i v
  backward_step fw go a σ (tunit k) v = on_unit v (give σ)
  backward_step fw go a σ (tinl k c e) v = on_sum v (go a σ e) (λ w. refuse 16 k)
  backward_step fw go a σ (tinr k c e) v = on_sum v (λ w. refuse 16 k) (go a σ e)
  backward_step fw go a σ (tpair k e e') v = on_pair v λ w w'. do
    σ₁ ← go a σ e w
    go a σ₁ e' w'
  -- the body, then the bound term
  backward_step fw go a σ (tlet k e b) v = do
    σ₁ ← go a (none ∷ σ) b v
    leave σ₁ λ w σ₂. go a σ₂ e w
  backward_step fw go a σ (tletp k e b) v = do
    σ₁ ← go a (none ∷ none ∷ σ) b v
    leave σ₁ λ w' σ₂. leave σ₂ λ w σ₃. go a σ₃ e (pair w w')
  backward_step fw go a σ (tcase k e b b') v = case_back fw go a σ e b b' v (by_ancilla (length a) (length σ) e) (may_yield a b v)
  -- the ancilla terms forward, the body backward, the dynamic term backward
  backward_step fw go a σ (tcall k g ts e) v = on_some (nth P g) λ h. do
    vs ← each (fw a (filled σ)) ts
    σ₁ ← go (scope vs []) (none ∷ map some (scope vs [])) h.body v
    leave σ₁ λ w σ₂. go a σ e w
  backward_step fw go a σ (troll k c e) v = on_roll v (go a σ e)
  backward_step fw go a σ (tunroll k c e) v = go a σ e (roll v)

  -- at a term 12 is tested first, then 13, then 14
  unfoldable pub backward : ℕ → List Val → State → Term → Val → Run State
  backward zero a σ t v = enter (entry t) (refuse 13 (entry t))
  backward (suc r) a σ t v = enter (entry t) (test (fits v) 14 (entry t) (backward_step (forward r) (backward r) a σ t v))

  ----------------------------------------------------------------
  -- Runs of functions, with ancilla values `vs`

  unfoldable pub run_forward : ℕ → Fun → List Val → Val → Run Val
  run_forward r h vs v = forward r (scope vs []) (some v ∷ map some (scope vs [])) h.body

  unfoldable pub run_backward : ℕ → Fun → List Val → Val → Run Val
  run_backward r h vs v = do
    σ ← backward r (scope vs []) (none ∷ map some (scope vs [])) h.body v
    leave σ λ w σ'. give w
