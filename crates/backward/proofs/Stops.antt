-- Laws of outcomes, and of the number that says what stopped a run.
use Prim.Native.Nat.{ℕ, ◌+◌, ◌*◌, ◌-◌, ◌/◌, ◌%◌, ◌<◌}
use native.Mathlib.Omega.{arith}
use native.Mathlib.Decide.{dec_lt}
use mathlib.Core.Path.{◌≡◌, refl, sym, ap, ◌∙◌}
use borrow.Author.Tests.{eq-eqb, ne_eqb, lt-ltb, le-ltb}
use Rattle.std.specs.Prelude.{Result, Ok, Err}
use package.Rattle.scopes.specs.declared.bindings.Bindings.{Bindings}
use package.Rattle.forward.specs.Outcomes.{stopped, refusal_in, status_of as forwardStatus}
use package.Rattle.forward.specs.declared.outcomes.Refusal.{Refusal as Carried}
use package.Rattle.forward.proofs.Answers.{is_value_lem, is_refused}
use package.Rattle.backward.specs.Outcomes.{Done, Refused, out_in, carried, why_of, Numbers, status_of}
use Rattle.backward.specs.declared.outcomes.Refusal.{Refusal}
use Rattle.backward.specs.declared.outcomes.Refusal.TheVariants.{NoInput}

module _ {A : Type 0} {r : Result A Refusal} where
  pub is_done : {a : A} → r ≡ Ok a → status_of r ≡ Done
  is_done e = ap status_of e

  pub is_stopped : {why : Refusal} → r ≡ Err why → status_of r ≡ Refused why
  is_stopped e = ap status_of e

  pub not_ok : {why : Refusal} {a : A} → r ≡ Err why → r ≡ Ok a → ⊥
  not_ok e q = cc

pub by_outcome : {A P : Type 0} (r : Result A Refusal) → ((a : A) → r ≡ Ok a → P) → ((why : Refusal) → r ≡ Err why → P) → P
by_outcome (Ok a) f g = f a refl
by_outcome (Err why) f g = g why refl

----------------------------------------------------------------
-- The number that says what stopped a run

-- a refusal of forward evaluation
pub numbers-carried : (s : ℕ) {w : Carried} → forwardStatus s ≡ Err w → Numbers s (carried w)
unfolding why_of
numbers-carried s {w} e = go (dec_lt s stopped)
  where
    go : Dec (s < stopped) → Numbers s (carried w)
    go (yes l) = let v : forwardStatus s ≡ Ok s = is_value_lem l in cc
    go (no l) =
        let v : forwardStatus s ≡ Err (refusal_in ((s - stopped) / 65536) ((s - stopped) % 65536)) = is_refused (omega arith) in
        let same : refusal_in ((s - stopped) / 65536) ((s - stopped) % 65536) ≡ w = cc in
        record { some = omega arith; says = rw (why_of, le-ltb s stopped (omega arith)) (ap carried same) }

-- no input, at term `t`
pub numbers-no_input : (t : ℕ) → t < 65536 → Numbers (t + 1) (NoInput t)
unfolding why_of
numbers-no_input t l = record {
  some = omega arith;
  says = rw (why_of, lt-ltb (t + 1) stopped (omega arith)) (ap NoInput (let z : (t + 1 - 1) % 65536 ≡ t = omega arith in z));
}

-- a number that says a node is the node
pub says-node : (s : ℕ) {n : ℕ} → forwardStatus s ≡ Ok n → n ≡ s
says-node s {n} e = go (dec_lt s stopped)
  where
    go : Dec (s < stopped) → n ≡ s
    go (yes l) = let v : forwardStatus s ≡ Ok s = is_value_lem l in cc
    go (no l) =
        let v : forwardStatus s ≡ Err (refusal_in ((s - stopped) / 65536) ((s - stopped) % 65536)) = is_refused (omega arith) in cc

-- why, by the number
pub why_here : (s : ℕ) {n : ℕ} → forwardStatus s ≡ Ok n → NoInput ((n - 1) % 65536) ≡ why_of s
unfolding why_of
why_here s {n} e = go (dec_lt s stopped)
  where
    go : Dec (s < stopped) → NoInput ((n - 1) % 65536) ≡ why_of s
    go (yes l) =
        let v : forwardStatus s ≡ Ok s = is_value_lem l in
        let same : n ≡ s = cc in
        rw (why_of, lt-ltb s stopped l) (ap (λ n. NoInput ((n - 1) % 65536)) same)
    go (no l) =
        let v : forwardStatus s ≡ Err (refusal_in ((s - stopped) / 65536) ((s - stopped) % 65536)) = is_refused (omega arith) in cc

pub why_forward : (s : ℕ) {w : Carried} → forwardStatus s ≡ Err w → carried w ≡ why_of s
why_forward s e = sym (numbers-carried s e).says

----------------------------------------------------------------
-- An outcome in one number

pub packed-done : (b : Bindings) → b.head < 4294967296 → out_in b.head ≡ Ok b
unfolding out_in
packed-done b l =
    let high : b.head / 4294967296 ≡ 0 = omega arith in
    let low : b.head % 4294967296 ≡ b.head = omega arith in
    rw (out_in, high, low) refl

pub packed-stopped : {s : ℕ} {why : Refusal} → Numbers s why → out_in (4294967296 * s) ≡ Err why
unfolding out_in
packed-stopped {s} N =
    let high : (4294967296 * s) / 4294967296 ≡ s = omega arith in
    rw (out_in, high, ne_eqb s 0 (λ e. omega (arith, N.some))) (ap Err (ap why_of high ∙ N.says))

pub unpacked-done : (r : ℕ) → r / 4294967296 ≡ 0 → Ok (record { head = r % 4294967296 }) ≡ out_in r
unfolding out_in
unpacked-done r e = rw (out_in, eq-eqb (r / 4294967296) 0 e) refl

pub unpacked-stopped : (r : ℕ) {why : Refusal} → ¬ (r / 4294967296 ≡ 0) → why ≡ why_of (r / 4294967296) → Err why ≡ out_in r
unfolding out_in
unpacked-stopped r n e = rw (out_in, ne_eqb (r / 4294967296) 0 n) (ap Err e)
