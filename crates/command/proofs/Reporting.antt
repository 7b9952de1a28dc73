-- The laws of the reports: a refusal's meaning goes by its number, and a run's value is read back from the output.
use Prim.Native.Nat.{ℕ, ◌≤◌}
use native.Mathlib.Omega.{arith}
use mathlib.Core.Path.{◌≡◌, refl, sym, ap, ◌∙◌}
use mathlib.Core.List.{List}
use lib.ListN.{length, drop, length-append}
use lib.Seq.{take_at}
use package.Rattle.rules.specs.Val.{size, encode}
use package.Rattle.rules.proofs.Val.{length-encode}
use package.Rattle.calls.specs.Answer.{Answer, accepted, refused, ◌>>=◌}
use package.Rattle.calls.specs.Runs.{Ran, written}
use Rattle.std.specs.Prelude.{Result, Ok, Err}
use package.Rattle.answers.specs.declared.Done.{Done}
use package.Rattle.answers.specs.declared.Shown.{Shown}
use package.Rattle.answers.specs.Answers.{number_of, place_of, run_answer, summary}
use package.Rattle.answers.specs.declared.Refusal.{Refusal}
use package.Rattle.calltext.specs.Answers.{value_line}
use package.Rattle.messages.specs.Replies.{length_of, refusal_text}
use package.Rattle.command.specs.Reports.{refused_report, run_report, filled_report}

-- a refusal's text goes by its number and place
pub refusal_reported : (r : Refusal) → refusal_text r ≡ refused_report (number_of r) (place_of r)
unfolding refusal_text refused_report
refusal_reported r = refl

-- how many bytes of the output an answer says it filled
filled : Answer (ℕ × ℕ) → ℕ
filled (accepted a) = a.0
filled (refused n p) = 0

filled-answer : (r : Result Done Refusal) → length_of r ≡ filled (run_answer r)
unfolding filled
filled-answer (Ok d) = refl
filled-answer (Err r) = refl

-- a value that fills an output is no longer than it
fills-within : (x : Answer Ran) (out : List ℕ) → length (written x out) ≡ length out → filled (summary x) ≤ length out
unfolding filled written ◌>>=◌
fills-within (accepted r) out h = omega (arith, h, length-append (encode r.value) (drop (length (encode r.value)) out), length-encode r.value)
fills-within (refused n p) out h = omega arith

-- an answered length is within the output
pub within : (r : Result Done Refusal) (x : Answer Ran) (out : List ℕ) {out' : List ℕ}
    → run_answer r ≡ summary x → out' ≡ written x out → length out' ≡ length out → length_of r ≤ length out'
within r x out {out'} a f k =
    omega (arith, filled-answer r, ap filled a, fills-within x out (ap length (sym f) ∙ k), k)

read_back : (x : Answer Ran) (out : List ℕ) → filled_report (summary x) (written x out) ≡ run_report x
unfolding filled_report written ◌>>=◌ run_report
read_back (accepted r) out = ap (λ v. value_line v r.steps) (take_at (encode r.value) _ (size r.value) (length-encode r.value))
read_back (refused n p) out = refl

-- a run's report is the call's
pub run_reported : (r : Result Done Refusal) (x : Answer Ran) (out : List ℕ) {out' : List ℕ}
    → run_answer r ≡ summary x → out' ≡ written x out → filled_report (run_answer r) out' ≡ run_report x
run_reported r x out {out'} a f = ap (λ y. filled_report y out') a ∙ ap (λ o. filled_report (summary x) o) f ∙ read_back x out
