-- The lines of answers, and the workspace after a call, by what the call told.
use Prim.Native.Nat.{ℕ, ◌/◌, ◌%◌}
use native.Mathlib.Omega.{arith}
use mathlib.Core.Path.{◌≡◌, refl, ap}
use mathlib.Core.Bool.{Bool, true, false, cond}
use mathlib.Core.List.{List, [], ◌∷◌}
use lib.ListN.{length, replicate, length-replicate}
use lib.Dec.{eqb}
use package.Rattle.octets.specs.Numbers.{bytes16, bytes32}
use package.Rattle.calls.specs.Answer.{Answer, accepted, refused, cleared}
use package.Rattle.calls.specs.Conversions.{Turned}
use package.Rattle.calls.specs.Book.{Told, is_open, holds, refuses, after_open, after_turned}
use package.Rattle.answers.specs.Answers.{open_answer, held_answer}
use package.Rattle.replay.specs.Lines.{line_of, line}
use package.Rattle.replay.specs.Inner.Told.{check_line, run_line}
use package.Rattle.replay.specs.Inner.Steps.{swept}

pub opened-line : (j : List ℕ) (x : Answer (List ℕ)) → check_line (open_answer x) ≡ line (after_open j x).told
unfolding check_line after_open
opened-line j (accepted xs) = refl
opened-line j (refused n p) = refl

pub turned-line : (j : List ℕ) (x : Answer Turned) → run_line (held_answer x) ≡ line (after_turned j x).told
unfolding run_line after_turned
turned-line j (accepted t) = refl
turned-line j (refused n p) = refl

pub opened-swept : (j ws : List ℕ) (x : Answer (List ℕ)) → cleared x ws ≡ swept (after_open j x).told ws
unfolding cleared swept after_open
opened-swept j ws (accepted xs) = refl
opened-swept j ws (refused n p) = refl

pub turned-swept : (j ws : List ℕ) (x : Answer Turned) → cleared x ws ≡ swept (after_turned j x).told ws
unfolding cleared swept after_turned
turned-swept j ws (accepted t) = refl
turned-swept j ws (refused n p) = refl

-- the bytes of a line, each of them taken from its whole number
pub line_bytes : (kind n d : ℕ)
    → kind ∷ (n / 256 % 256) ∷ (n % 256) ∷ (d / 16777216 % 256) ∷ (d / 65536 % 256) ∷ (d / 256 % 256) ∷ (d % 256) ∷ [] ≡ line_of kind n d
unfolding line_of bytes16 bytes32
line_bytes kind n d =
    let a : d / 16777216 % 256 ≡ d / 65536 / 256 % 256 = omega arith in
    let b : d / 256 % 256 ≡ d % 65536 / 256 % 256 = omega arith in
    let e : d % 256 ≡ d % 65536 % 256 = omega arith in
    rw (a, b, e)

pub refused-line : (kind : ℕ) {n m p q : ℕ} → n ≡ m → p ≡ q → line_of kind n p ≡ line_of kind m q
refused-line kind e f = cc

pub length-line : (t : Told) → length (line t) ≡ 7
unfolding line line_of bytes16 bytes32
length-line is_open = refl
length-line (holds l s) = refl
length-line (refuses n p) = refl

abbrev pub zeros : ℕ → List ℕ
zeros k = replicate k 0

pub zeros-length : (k : ℕ) → length (zeros k) ≡ k
zeros-length k = length-replicate {A = ℕ} k 0

cond-zeros : (b : Bool) (k : ℕ) → cond b (zeros k) (zeros (length (zeros k))) ≡ zeros k
cond-zeros true k = refl
cond-zeros false k = ap zeros (zeros-length k)

-- a clear workspace stays so
pub swept-zeros : (t : Told) (k : ℕ) → swept t (zeros k) ≡ zeros k
unfolding swept
swept-zeros is_open k = ap zeros (zeros-length k)
swept-zeros (holds l s) k = ap zeros (zeros-length k)
swept-zeros (refuses n p) k = cond-zeros (eqb n 1) k
