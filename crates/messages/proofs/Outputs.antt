-- What a reader wrote, as its answer says it: within the output that it left, and at its start.
use Prim.Native.Nat.{ℕ, ◌≤◌}
use native.Mathlib.Omega.{arith}
use mathlib.Core.Path.{◌≡◌, refl, sym, ap, ◌∙◌}
use mathlib.Core.List.{List}
use lib.ListN.{length, take}
use package.Rattle.rules.specs.Val.{size, encode}
use package.Rattle.rules.proofs.Val.{length-encode}
use package.Rattle.calls.specs.Answer.{Answer, accepted, refused, ◌>>=◌, bytes_written, overwritten}
use package.Rattle.calls.specs.Readers.{Seen, held_bytes}
use package.Rattle.calls.proofs.Answer.{refused≢accepted, accepted_inj, bytes-within, bytes-first}
use Rattle.std.specs.Prelude.{Result, Ok, Err}
use package.Rattle.answers.specs.declared.Refusal.{Refusal}
use package.Rattle.answers.specs.declared.Shown.{Shown}
use package.Rattle.answers.specs.Answers.{nurse_answer, write_answer, seen_answer, length_answer}
use package.Rattle.messages.specs.Replies.{seen_length, written_length}

-- the held value stands at the start of the output
pub held_first : (s : Seen) (out : List ℕ) → take (size s.held) (overwritten (held_bytes (accepted s)) out) ≡ encode s.held
unfolding held_bytes ◌>>=◌ bytes_written
held_first s out =
    ap (λ n. take n (overwritten (accepted (encode s.held)) out)) (sym (length-encode s.held)) ∙ bytes-first (accepted (encode s.held)) out

-- what an answer says was written is what was written
seen-length : (r : Result Shown Refusal) (x : Answer Seen) → nurse_answer r ≡ seen_answer x → seen_length r ≡ length (bytes_written (held_bytes x))
unfolding held_bytes ◌>>=◌ bytes_written
seen-length (Ok s) (accepted y) a = ap (λ p. p.0) (accepted_inj a) ∙ sym (length-encode y.held)
seen-length (Ok s) (refused m p) a = absurd (refused≢accepted (sym a))
seen-length (Err q) (accepted y) a = absurd (refused≢accepted a)
seen-length (Err q) (refused m p) a = refl

written-length : (r : Result ℕ Refusal) (x : Answer (List ℕ)) → write_answer r ≡ length_answer x → written_length r ≡ length (bytes_written x)
unfolding bytes_written
written-length (Ok n) (accepted xs) a = accepted_inj a
written-length (Ok n) (refused m p) a = absurd (refused≢accepted (sym a))
written-length (Err q) (accepted xs) a = absurd (refused≢accepted a)
written-length (Err q) (refused m p) a = refl

-- and it is within an output that is as long as before
pub seen-within : (r : Result Shown Refusal) (x : Answer Seen) (out : List ℕ) {out' : List ℕ} → nurse_answer r ≡ seen_answer x
    → out' ≡ overwritten (held_bytes x) out → length out' ≡ length out → seen_length r ≤ length out'
seen-within r x out a f k = omega (arith, seen-length r x a, bytes-within (held_bytes x) out (ap length (sym f) ∙ k), k)

pub written-within : (r : Result ℕ Refusal) (x : Answer (List ℕ)) (out : List ℕ) {out' : List ℕ} → write_answer r ≡ length_answer x
    → out' ≡ overwritten x out → length out' ≡ length out → written_length r ≤ length out'
written-within r x out a f k = omega (arith, written-length r x a, bytes-within x out (ap length (sym f) ∙ k), k)
