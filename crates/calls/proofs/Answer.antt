-- Laws of answers: an answer that is accepted was accepted all the way.
use Prim.Native.Nat.{ℕ, ◌+◌, ◌≤◌}
use native.Mathlib.Omega.{arith}
use mathlib.Core.Path.{◌≡◌, refl, sym, ap, ◌∙◌}
use mathlib.Core.Bool.{Bool, true, false}
use mathlib.Core.Option.{Option, none, some}
use mathlib.Core.List.{List, ◌++◌}
use lib.ListN.{length, take, drop, length-append}
use lib.Seq.{take_at}
use package.Rattle.octets.specs.Runs.{pasted}
use package.Rattle.calls.specs.Answer.{Answer, accepted, refused, ◌>>=◌, require, present, bytes_written, overwritten}

pub refused≢accepted : {A : Type 0} {n p : ℕ} {a : A} → refused n p ≡ accepted a → ⊥
refused≢accepted e = let z : ◌≡◌ {A = ℕ} 0 1 = cc in omega arith

pub accepted_inj : {A : Type 0} {a b : A} → accepted a ≡ accepted b → a ≡ b
accepted_inj e = cc

pub refused-number : {A : Type 0} {n m p q : ℕ} → ◌≡◌ {A = Answer A} (refused n p) (refused m q) → n ≡ m
refused-number e = cc

module _ {A B : Type 0} where
  -- an answer goes on
  pub via : {x : Answer A} (k : A → Answer B) {a : A} {y : Answer B} → x ≡ accepted a → k a ≡ y → (x >>= k) ≡ y
  unfolding ◌>>=◌
  via k p q = ap (λ x. x >>= k) p ∙ q

  -- what is refused goes on no further
  pub stops : {x : Answer A} (k : A → Answer B) {n p : ℕ} → x ≡ refused n p → (x >>= k) ≡ refused n p
  unfolding ◌>>=◌
  stops k e = ap (λ x. x >>= k) e

  -- an accepted answer: what was accepted before
  pub unbind : (x : Answer A) (k : A → Answer B) {b : B} → (x >>= k) ≡ accepted b → (a : A) × (x ≡ accepted a) × (k a ≡ accepted b)
  unfolding ◌>>=◌
  unbind (accepted a) k e = (a, refl, e)
  unbind (refused n p) k e = absurd (refused≢accepted e)

  -- a refusal: the first part's, or that of what follows
  pub data Stopped (x : Answer A) (k : A → Answer B) (n p : ℕ) : Type 0 where
    first : x ≡ refused n p → Stopped x k n p
    later : (a : A) → x ≡ accepted a → k a ≡ refused n p → Stopped x k n p

  pub unstop : (x : Answer A) (k : A → Answer B) {n p : ℕ} → (x >>= k) ≡ refused n p → Stopped x k n p
  unfolding ◌>>=◌
  unstop (accepted a) k e = later a refl e
  unstop (refused m q) k e = first (refused-same e)
    where
      refused-same : {n m p q : ℕ} → ◌≡◌ {A = Answer B} (refused m q) (refused n p) → ◌≡◌ {A = Answer A} (refused m q) (refused n p)
      refused-same e = cc

pub require_yes : (n p : ℕ) {b : Bool} → b ≡ true → require b n p ≡ accepted tt
unfolding require
require_yes n p e = ap (λ b. require b n p) e

pub require-no : (n p : ℕ) {b : Bool} → b ≡ false → require b n p ≡ refused n p
unfolding require
require-no n p e = ap (λ b. require b n p) e

pub required : (b : Bool) (n p : ℕ) {u : Unit {0}} → require b n p ≡ accepted u → b ≡ true
unfolding require
required true n p e = refl
required false n p e = absurd (refused≢accepted e)

-- a test that refuses gives its own number
pub require-number : (b : Bool) (n p : ℕ) {m q : ℕ} → require b n p ≡ refused m q → n ≡ m
unfolding require
require-number true n p e = absurd (refused≢accepted (sym e))
require-number false n p e = refused-number e

pub present_some : {A : Type 0} (n : ℕ) {o : Option A} {a : A} → o ≡ some a → present o n ≡ accepted a
unfolding present
present_some n e = ap (λ o. present o n) e

pub present_none : {A : Type 0} (n : ℕ) {o : Option A} → o ≡ none → present o n ≡ refused n 0
unfolding present
present_none n e = ap (λ o. present o n) e

pub presented : {A : Type 0} (o : Option A) (n : ℕ) {a : A} → present o n ≡ accepted a → o ≡ some a
unfolding present
presented none n e = absurd (refused≢accepted e)
presented (some b) n e = ap some (accepted_inj e)

pub present-number : {A : Type 0} (o : Option A) (n : ℕ) {m q : ℕ} → present o n ≡ refused m q → n ≡ m
unfolding present
present-number none n e = refused-number e
present-number (some b) n e = absurd (refused≢accepted (sym e))

----------------------------------------------------------------
-- Bytes written

-- bytes that are put at the start of an output
pub overwritten-pasted : (out xs : List ℕ) → pasted out 0 xs ≡ overwritten (accepted xs) out
unfolding pasted overwritten
overwritten-pasted out xs = ap (λ n. xs ++ drop n out) (let z : 0 + length xs ≡ length xs = omega arith in z)

-- what was written is no longer than the output, and stands at its start
module _ (x : Answer (List ℕ)) (out : List ℕ) where
  pub bytes-within : length (overwritten x out) ≡ length out → length (bytes_written x) ≤ length out
  unfolding overwritten
  bytes-within h = omega (arith, h, length-append (bytes_written x) (drop (length (bytes_written x)) out))

  pub bytes-first : take (length (bytes_written x)) (overwritten x out) ≡ bytes_written x
  unfolding overwritten
  bytes-first = take_at (bytes_written x) (drop (length (bytes_written x)) out) (length (bytes_written x)) refl
