-- The laws of the readers' reports: what a reader wrote is read back from the output.
use Prim.Native.Nat.{ℕ}
use mathlib.Core.Path.{◌≡◌, refl, ap, ap₂, ◌∙◌}
use mathlib.Core.List.{List}
use package.Rattle.calls.specs.Answer.{Answer, accepted, refused, bytes_written, overwritten}
use package.Rattle.calls.specs.Readers.{Seen, held_bytes}
use package.Rattle.calls.proofs.Answer.{bytes-first}
use Rattle.std.specs.Prelude.{Result, Ok, Err}
use package.Rattle.answers.specs.declared.Refusal.{Refusal}
use package.Rattle.answers.specs.declared.Done.{Done}
use package.Rattle.answers.specs.declared.Shown.{Shown}
use package.Rattle.answers.specs.Answers.{nurse_answer, write_answer, seen_answer, length_answer}
use package.Rattle.calltext.specs.Answers.{seen_line, bytes_line}
use package.Rattle.messages.proofs.Outputs.{held_first}
use package.Rattle.command.specs.Reports.{nurse_report, shown_report, workshop_report, wrote_report}

seen_back : (x : Answer Seen) (out : List ℕ) → shown_report (seen_answer x) (overwritten (held_bytes x) out) ≡ nurse_report x
unfolding shown_report nurse_report
seen_back (accepted s) out = ap (λ v. seen_line v s.standing) (held_first s out)
seen_back (refused n p) out = refl

pub nurse_reported : (r : Result Shown Refusal) (x : Answer Seen) (out : List ℕ) {out' : List ℕ} → nurse_answer r ≡ seen_answer x
    → out' ≡ overwritten (held_bytes x) out → shown_report (nurse_answer r) out' ≡ nurse_report x
nurse_reported r x out a f = ap₂ shown_report a f ∙ seen_back x out

wrote-back : (x : Answer (List ℕ)) (out : List ℕ) → wrote_report (length_answer x) (overwritten x out) ≡ workshop_report x
unfolding wrote_report workshop_report bytes_written
wrote-back (accepted xs) out = ap bytes_line (bytes-first (accepted xs) out)
wrote-back (refused n p) out = refl

pub workshop_reported : (r : Result ℕ Refusal) (x : Answer (List ℕ)) (out : List ℕ) {out' : List ℕ} → write_answer r ≡ length_answer x
    → out' ≡ overwritten x out → wrote_report (write_answer r) out' ≡ workshop_report x
workshop_reported r x out a f = ap₂ wrote_report a f ∙ wrote-back x out
