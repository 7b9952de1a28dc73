-- What holds of every answer of typing that is no refusal, step by step.
use Prim.Native.Nat.{ℕ}
use mathlib.Core.Path.{◌≡◌, refl, subst}
use mathlib.Core.Bool.{Bool, true, false}
use mathlib.Core.List.{List, [], ◌∷◌}
use mathlib.Core.Option.{Option, none, some}
use package.Rattle.rules.specs.Ty.{Ty, one, prod, sum, mu, tyvar}
use package.Rattle.rules.specs.Term.{Fun}
use package.Rattle.rules.specs.Typing.{Binding, static, dynamic, barred}
use package.Rattle.rules.specs.Check.{Site, Checked, good, bad, ◌>>=◌, ◌>>◌, need, as_sum, as_prod, as_mu, as_fun, visible, need_none}

-- accepted with `Q`, or refused
pub data Pass {X : Type 0} (Q : X → Type 0) : Checked X → Type 0 where
  pass : {x : X} → Q x → Pass Q (good x)
  fail : {n : ℕ} {p : Site} → Pass Q (bad n p)

pub passed : {X : Type 0} (Q : X → Type 0) {m : Checked X} {x : X} → Pass Q m → m ≡ good x → Q x
passed {X = X} Q h e = accepted (subst (Pass Q) e h)
  where
    accepted : {x : X} → Pass Q (good x) → Q x
    accepted (pass q) = q

pub pass-map : {X : Type 0} {Q Q' : X → Type 0} {m : Checked X} → ((x : X) → Q x → Q' x) → Pass Q m → Pass Q' m
pass-map s (pass q) = pass (s _ q)
pass-map s fail = fail

module _ {X Y : Type 0} {Q : X → Type 0} {Q' : Y → Type 0} where
  pub pass_bind : {m : Checked X} (k : X → Checked Y) → Pass Q m → ((x : X) → Q x → Pass Q' (k x)) → Pass Q' (m >>= k)
  unfolding ◌>>=◌
  pass_bind k (pass q) s = s _ q
  pass_bind k fail s = fail

pub pass-need : {Q : Unit {0} → Type 0} (b : Bool) (n : ℕ) (p : Site) → (b ≡ true → Q tt) → Pass Q (need b n p)
unfolding need
pass-need true n p s = pass (s refl)
pass-need false n p s = fail

module _ {Y : Type 0} {Q : Y → Type 0} where
  pub pass-then : {R : Unit {0} → Type 0} {m : Checked (Unit {0})} (k : Checked Y) → Pass R m → (R tt → Pass Q k) → Pass Q (m >> k)
  unfolding ◌>>◌
  pass-then k (pass r) s = s r
  pass-then k fail s = fail

  -- a test, then the rest
  pub pass-test : (b : Bool) (n : ℕ) (p : Site) (k : Checked Y) → (b ≡ true → Pass Q k) → Pass Q (need b n p >> k)
  pass-test b n p k s = pass-then {R = λ u. b ≡ true} k (pass-need b n p λ e. e) s

  pub pass-sum : (p : Site) (c : Ty) (k : Ty → Ty → Checked Y) → ((a b : Ty) → sum a b ≡ c → Pass Q (k a b)) → Pass Q (as_sum p c k)
  unfolding as_sum
  pass-sum p one k s = fail
  pass-sum p (prod a b) k s = fail
  pass-sum p (sum a b) k s = s a b refl
  pass-sum p (mu a) k s = fail
  pass-sum p (tyvar n) k s = fail

  pub pass-prod : (p : Site) (c : Ty) (k : Ty → Ty → Checked Y) → ((a b : Ty) → prod a b ≡ c → Pass Q (k a b)) → Pass Q (as_prod p c k)
  unfolding as_prod
  pass-prod p one k s = fail
  pass-prod p (prod a b) k s = s a b refl
  pass-prod p (sum a b) k s = fail
  pass-prod p (mu a) k s = fail
  pass-prod p (tyvar n) k s = fail

  pub pass-mu : (p : Site) (c : Ty) (k : Ty → Checked Y) → ((a : Ty) → mu a ≡ c → Pass Q (k a)) → Pass Q (as_mu p c k)
  unfolding as_mu
  pass-mu p one k s = fail
  pass-mu p (prod a b) k s = fail
  pass-mu p (sum a b) k s = fail
  pass-mu p (mu a) k s = s a refl
  pass-mu p (tyvar n) k s = fail

  pub pass-fun : (p : Site) (o : Option Fun) (k : Fun → Checked Y) → ((h : Fun) → o ≡ some h → Pass Q (k h)) → Pass Q (as_fun p o k)
  unfolding as_fun
  pass-fun p none k s = fail
  pass-fun p (some h) k s = s h refl

pub pass-visible : {Q : Ty → Type 0} (p : Site) (o : Option Binding) → ((c : Ty) → o ≡ some (static c) → Q c)
    → ((m : Bool) (c : Ty) → o ≡ some (dynamic m c) → Q c) → ((c : Ty) → o ≡ some (barred true c) → Q c) → Pass Q (visible p o)
unfolding visible
pass-visible p none s d b = fail
pass-visible p (some (static c)) s d b = pass (s c refl)
pass-visible p (some (dynamic m c)) s d b = pass (d m c refl)
pass-visible p (some (barred true c)) s d b = pass (b c refl)
pass-visible p (some (barred false c)) s d b = fail

-- no place for 8, then the rest
pub pass_none : {Y : Type 0} {Q : Y → Type 0} (ks : List ℕ) (k : Checked Y) → (ks ≡ [] → Pass Q k) → Pass Q (need_none ks >> k)
unfolding need_none ◌>>◌
pass_none [] k s = s refl
pass_none (j ∷ ks) k s = fail
