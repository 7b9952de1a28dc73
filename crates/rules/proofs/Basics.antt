-- Small laws of logic, options, Booleans and tests on numbers that the other files cite. Nothing here is about CoreFun.
use Prim.Native.Nat.{ℕ, ◌<◌}
use native.Mathlib.Omega.{arith}
use mathlib.Core.Path.{◌≡◌, refl, sym, ap, ◌∙◌}
use mathlib.Core.Bool.{Bool, true, false, not, ◌&&◌, ◌||◌, and-eq-true_iff}
use mathlib.Core.Option.{none, some}
use mathlib.Core.Logic.{◌⊎◌, inl as left, inr as right}
use lib.Dec.{eqb, eqb→eq, eqb_refl, T}

-- a `let` that does not write its value out
pub given : {X C : Type 0} → X → (X → C) → C
given x k = k x

----------------------------------------------------------------
-- Options

pub none≢some : {A : Type 0} {a : A} → none ≡ some a → ⊥
none≢some p = let z : ◌≡◌ {A = ℕ} 0 1 = cc in omega arith

pub some_inj : {A : Type 0} {x y : A} → some x ≡ some y → x ≡ y
some_inj p = cc

----------------------------------------------------------------
-- Booleans

pub not-true : {b : Bool} → not b ≡ true → b ≡ false
not-true {b} p = go b p
  where
    go : (b : Bool) → not b ≡ true → b ≡ false
    go true p = sym p
    go false p = refl

pub or_left : (c : Bool) {b : Bool} → b ≡ true → (b || c) ≡ true
or_left c p = ap (λ b. b || c) p

pub or_right : (b : Bool) {c : Bool} → c ≡ true → (b || c) ≡ true
or_right true p = refl
or_right false p = p

pub or_cases : (b c : Bool) → (b || c) ≡ true → (b ≡ true) ⊎ (c ≡ true)
or_cases true c h = left refl
or_cases false c h = right h

pub or_elim : {C : Type 0} (b c : Bool) → (b ≡ true → C) → (c ≡ true → C) → (b || c) ≡ true → C
or_elim true c f g h = f refl
or_elim false c f g h = g h

pub or_same : (b b' : Bool) → b ≡ b' → (b || b') ≡ true → b ≡ true
or_same true b' e h = refl
or_same false b' e h = e ∙ h

pub and_both : (b c : Bool) → (b && c) ≡ true → (b ≡ true) × (c ≡ true)
and_both b c h = (and-eq-true_iff b c).0 h

pub and-false : (b : Bool) → (b && false) ≡ false
and-false true = refl
and-false false = refl

pub T_true : {b : Bool} → T b → b ≡ true
T_true {b} t = go b t
  where
    go : (b : Bool) → T b → b ≡ true
    go true t = refl
    go false t = absurd t

----------------------------------------------------------------
-- Equality of numbers as a test

pub eqb_yes : (n : ℕ) → eqb n n ≡ true
eqb_yes n = T_true (eqb_refl n)

pub eqb-sound : (i n : ℕ) → eqb i n ≡ true → i ≡ n
eqb-sound i n e = eqb→eq i n (rw e tt)

pub eqb-differs : (i n : ℕ) → ¬ (i ≡ n) → eqb i n ≡ false
eqb-differs i n d = go (eqb i n) refl
  where
    go : (b : Bool) → eqb i n ≡ b → eqb i n ≡ false
    go true p = absurd (d (eqb-sound i n p))
    go false p = p

pub eqb_no : (i n : ℕ) → i < n → eqb i n ≡ false
eqb_no i n h = eqb-differs i n λ e. let z : i ≡ n = e in omega arith
