-- A call's answer as a line: the value at the start of the output is the value that the run answers, the journal's buffer is the journal
-- that the call leaves, and what a reader wrote is at the start of its output.
use Prim.Native.Nat.{ℕ, ◌≤◌}
use native.Mathlib.Omega.{arith}
use mathlib.Core.Path.{◌≡◌, refl, sym, ap, ap₂, subst, ◌∙◌}
use mathlib.Core.Bool.{Bool}
use mathlib.Core.List.{List}
use lib.ListN.{length}
use lib.Seq.{take_at}
use package.Rattle.rules.specs.Val.{size, encode}
use package.Rattle.rules.proofs.Val.{length-encode}
use package.Rattle.calls.specs.Answer.{Answer, accepted, refused, ◌>>=◌, bytes_written, overwritten}
use package.Rattle.calls.specs.Runs.{Ran, written}
use package.Rattle.calls.specs.Conversions.{Turned}
use package.Rattle.calls.specs.Book.{after_open, after_turned}
use package.Rattle.calls.specs.Readers.{Seen, held_bytes}
use package.Rattle.calls.proofs.Answer.{refused≢accepted, accepted_inj, bytes-first}
use Rattle.std.specs.Prelude.{Result, Ok, Err}
use package.Rattle.answers.specs.declared.Refusal.{Refusal}
use package.Rattle.answers.specs.declared.Done.{Done}
use package.Rattle.answers.specs.declared.Shown.{Shown}
use package.Rattle.answers.specs.Answers.{check_answer, run_answer, nurse_answer, write_answer, open_answer, held_answer, seen_answer, length_answer, summary}
use package.Rattle.engine.specs.Runs.{CallMeans}
use package.Rattle.calltext.specs.Answers.{value_line, seen_line, bytes_line}
use package.Rattle.calltext.specs.Wrote.{Wrote}
use package.Rattle.messages.specs.Replies.{run_text, nurse_text, write_text, opened_text, held_text, length_of}
use package.Rattle.messages.proofs.Outputs.{held_first}
use package.Rattle.batch.specs.Answering.{ran_text, open_text, turn_text, shown_text, listed_text, read_text, read_bytes}

-- the output starts with the value
told-run : (x : Answer Ran) (out : List ℕ) → run_text (summary x) (written x out) ≡ ran_text x
unfolding run_text written ◌>>=◌ ran_text
told-run (accepted r) out = ap (λ l. value_line l r.steps) (take_at (encode r.value) _ (size r.value) (length-encode r.value))
told-run (refused n p) out = refl

pub tells-run : (r : Result Done Refusal) (x : Answer Ran) (out : List ℕ) {out' : List ℕ} → run_answer r ≡ summary x → out' ≡ written x out → run_text (run_answer r) out' ≡ ran_text x
tells-run r x out e f = ap₂ run_text e f ∙ told-run x out

-- what an answer says it filled is within the output
pub length-within : (r : Result Done Refusal) (x : Answer Ran) (n : ℕ) → run_answer r ≡ summary x → ((y : Ran) → x ≡ accepted y → size y.value ≤ n) → length_of r ≤ n
length-within (Ok d) (accepted y) n e h = omega (arith, ap (λ p. p.0) (accepted_inj e), h y refl)
length-within (Ok d) (refused m p) n e h = absurd (refused≢accepted (sym e))
length-within (Err q) x n e h = omega arith

-- the same call by another name
pub means_as : {r : Result Done Refusal} {x y : Answer Ran} {out out' ws ws' : List ℕ} → CallMeans r x out out' ws ws' → x ≡ y → CallMeans r y out out' ws ws'
means_as {r} {x} {y} {out} {out'} {ws} {ws'} m e = subst (λ z. CallMeans r z out out' ws ws') e m

----------------------------------------------------------------
-- Calls on a journal

told_open : (x : Answer (List ℕ)) (journal : List ℕ) → opened_text (open_answer x) (after_open journal x).journal ≡ open_text x
unfolding opened_text after_open open_text
told_open (accepted j) journal = refl
told_open (refused n p) journal = refl

pub tells_open : (r : Result (Unit {0}) Refusal) (x : Answer (List ℕ)) (journal : List ℕ) {journal' : List ℕ} → check_answer r ≡ open_answer x → journal' ≡ (after_open journal x).journal
    → opened_text (check_answer r) journal' ≡ open_text x
tells_open r x journal e f = ap₂ opened_text e f ∙ told_open x journal

told-turn : (x : Answer Turned) (journal : List ℕ) → held_text (held_answer x) (after_turned journal x).journal ≡ turn_text x
unfolding held_text after_turned turn_text
told-turn (accepted t) journal = refl
told-turn (refused n p) journal = refl

pub tells-turn : (r : Result Done Refusal) (x : Answer Turned) (journal : List ℕ) {journal' : List ℕ} → run_answer r ≡ held_answer x → journal' ≡ (after_turned journal x).journal
    → held_text (run_answer r) journal' ≡ turn_text x
tells-turn r x journal e f = ap₂ held_text e f ∙ told-turn x journal

----------------------------------------------------------------
-- Readers of a journal

told-nurse : (x : Answer Seen) (out : List ℕ) → nurse_text (seen_answer x) (overwritten (held_bytes x) out) ≡ shown_text x
unfolding nurse_text shown_text
told-nurse (accepted s) out = ap (λ l. seen_line l s.standing) (held_first s out)
told-nurse (refused n p) out = refl

told_write : (x : Answer (List ℕ)) (out : List ℕ) → write_text (length_answer x) (overwritten x out) ≡ listed_text x
unfolding write_text listed_text bytes_written
told_write (accepted xs) out = ap bytes_line (bytes-first (accepted xs) out)
told_write (refused n p) out = refl

-- an answer that a reader gave, and the output that it left
pub tells-nurse : (r : Result Shown Refusal) (x : Answer Seen) (out : List ℕ) {out' : List ℕ} → nurse_answer r ≡ seen_answer x
    → out' ≡ overwritten (held_bytes x) out → nurse_text (nurse_answer r) out' ≡ shown_text x
tells-nurse r x out a f = ap₂ nurse_text a f ∙ told-nurse x out

pub tells_write : (r : Result ℕ Refusal) (x : Answer (List ℕ)) (out : List ℕ) {out' : List ℕ} → write_answer r ≡ length_answer x
    → out' ≡ overwritten x out → write_text (write_answer r) out' ≡ listed_text x
tells_write r x out a f = ap₂ write_text a f ∙ told_write x out

-- a reader's line and output, by which reader it is
abbrev Read : Bool → List ℕ → List ℕ → List ℕ → List ℕ → List ℕ → ℕ → Type 0
Read w journal out out' text text' end =
    Wrote text text' 0 end (read_text w journal (length out)) × (out' ≡ overwritten (read_bytes w journal (length out)) out)

pub read_as : (journal out : List ℕ) {w w' : Bool} {out' text text' : List ℕ} {end : ℕ} → w' ≡ w → Read w' journal out out' text text' end
    → Read w journal out out' text text' end
read_as journal out {out' = out'} {text} {text'} {end} e h = subst (λ w. Read w journal out out' text text' end) e h
