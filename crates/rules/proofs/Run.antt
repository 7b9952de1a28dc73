-- Laws of runs: answers go on, and an answer was answers all the way.
use Prim.Native.Nat.{ℕ}
use native.Mathlib.Omega.{arith}
use mathlib.Core.Path.{◌≡◌, refl, ap, ◌∙◌}
use mathlib.Core.Bool.{Bool, true, false}
use mathlib.Core.Option.{Option, none, some}
use package.Rattle.rules.specs.Val.{Val, unit, inl, inr, pair, roll}
use package.Rattle.rules.specs.Run.{Res, ok, stop, stuck, Run, after, refuse, test}
use package.Rattle.rules.specs.Machine.{on_sum, on_pair, on_roll, on_unit, on_some}

module _ {A B : Type 0} where
  -- an answer goes on
  pub via : {x : Res A} (k : A → Run B) {a : A} {f : ℕ} {y : Res B} → x ≡ ok a f → k a f ≡ y → after x k ≡ y
  unfolding after
  via k p q = ap (λ z. after z k) p ∙ q

  -- an answer was answers all the way
  pub unbind : (x : Res A) (k : A → Run B) {b : B} {g : ℕ} → after x k ≡ ok b g → (a : A) × (f : ℕ) × (x ≡ ok a f) × (k a f ≡ ok b g)
  unfolding after
  unbind (ok a f) k p = (a, f, refl, p)
  unbind (stop n e) k {b} {g} p = absurd (let z : ◌≡◌ {A = ℕ} 0 1 = cc in omega arith)
  unbind stuck k {b} {g} p = absurd (let z : ◌≡◌ {A = ℕ} 0 1 = cc in omega arith)

-- runs one after another, however they are grouped
pub after-after : {A B C : Type 0} (x : Res A) (f : A → Run B) (g : B → Run C) → after (after x f) g ≡ after x (λ a fuel. after (f a fuel) g)
unfolding after
after-after (ok a fuel) f g = refl
after-after (stop n k) f g = refl
after-after stuck f g = refl

pub stop≢ok : {A : Type 0} {n e f : ℕ} {a : A} → stop n e ≡ ok a f → ⊥
stop≢ok p = let z : ◌≡◌ {A = ℕ} 0 1 = cc in omega arith

pub stuck≢ok : {A : Type 0} {f : ℕ} {a : A} → stuck ≡ ok a f → ⊥
stuck≢ok p = let z : ◌≡◌ {A = ℕ} 0 1 = cc in omega arith

pub ok-value : {A : Type 0} {a b : A} {f g : ℕ} → ok a f ≡ ok b g → a ≡ b
ok-value p = cc

pub ok-fuel : {A : Type 0} {a b : A} {f g : ℕ} → ok a f ≡ ok b g → f ≡ g
ok-fuel p = cc

----------------------------------------------------------------
-- Inversion: what an answer says of the test or the shape before it

pub test_inv : {A : Type 0} (b : Bool) (n k : ℕ) (m : Run A) {f g : ℕ} {x : A} → test b n k m f ≡ ok x g → (b ≡ true) × (m f ≡ ok x g)
unfolding test
test_inv true n k m p = (refl, p)
test_inv false n k m p = absurd (stop≢ok p)

pub some_inv : {A B : Type 0} (o : Option A) (k : A → Run B) {f g : ℕ} {x : B} → on_some o k f ≡ ok x g → (a : A) × (o ≡ some a) × (k a f ≡ ok x g)
unfolding on_some
some_inv none k p = absurd (stuck≢ok p)
some_inv (some a) k p = (a, refl, p)

pub pair_inv : {B : Type 0} (p : Val) (k : Val → Val → Run B) {f g : ℕ} {x : B} → on_pair p k f ≡ ok x g → (v : Val) × (w : Val) × (p ≡ pair v w) × (k v w f ≡ ok x g)
unfolding on_pair
pair_inv unit k p = absurd (stuck≢ok p)
pair_inv (inl v) k p = absurd (stuck≢ok p)
pair_inv (inr v) k p = absurd (stuck≢ok p)
pair_inv (pair v w) k p = (v, w, refl, p)
pair_inv (roll v) k p = absurd (stuck≢ok p)

pub roll_inv : {B : Type 0} (p : Val) (k : Val → Run B) {f g : ℕ} {x : B} → on_roll p k f ≡ ok x g → (v : Val) × (p ≡ roll v) × (k v f ≡ ok x g)
unfolding on_roll
roll_inv unit k p = absurd (stuck≢ok p)
roll_inv (inl v) k p = absurd (stuck≢ok p)
roll_inv (inr v) k p = absurd (stuck≢ok p)
roll_inv (pair v w) k p = absurd (stuck≢ok p)
roll_inv (roll v) k p = (v, refl, p)

pub unit_inv : {B : Type 0} (v : Val) (m : Run B) {f g : ℕ} {x : B} → on_unit v m f ≡ ok x g → (unit ≡ v) × (m f ≡ ok x g)
unfolding on_unit
unit_inv unit m p = (refl, p)
unit_inv (inl v) m p = absurd (stuck≢ok p)
unit_inv (inr v) m p = absurd (stuck≢ok p)
unit_inv (pair v w) m p = absurd (stuck≢ok p)
unit_inv (roll v) m p = absurd (stuck≢ok p)

pub left_inv : {B : Type 0} (v : Val) (l : Val → Run B) (n k : ℕ) {f g : ℕ} {x : B} → on_sum v l (λ w. refuse n k) f ≡ ok x g → (w : Val) × (inl w ≡ v) × (l w f ≡ ok x g)
unfolding on_sum
left_inv unit l n k p = absurd (stuck≢ok p)
left_inv (inl v) l n k p = (v, refl, p)
left_inv (inr v) l n k p = absurd (stop≢ok p)
left_inv (pair v w) l n k p = absurd (stuck≢ok p)
left_inv (roll v) l n k p = absurd (stuck≢ok p)

pub right_inv : {B : Type 0} (v : Val) (r : Val → Run B) (n k : ℕ) {f g : ℕ} {x : B} → on_sum v (λ w. refuse n k) r f ≡ ok x g → (w : Val) × (inr w ≡ v) × (r w f ≡ ok x g)
unfolding on_sum
right_inv unit r n k p = absurd (stuck≢ok p)
right_inv (inl v) r n k p = absurd (stop≢ok p)
right_inv (inr v) r n k p = (v, refl, p)
right_inv (pair v w) r n k p = absurd (stuck≢ok p)
right_inv (roll v) r n k p = absurd (stuck≢ok p)
