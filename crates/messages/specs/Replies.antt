-- Answers as lines of calls and answers (crate calltext), and a refusal with its meaning.
use Rattle.std.specs.Prelude.{ℕ, List, ◌++◌, take, Result, Ok, Err}
use package.Rattle.calls.specs.Answer.{Answer, accepted, refused}
use package.Rattle.answers.specs.Answers.{number_of, place_of}
use package.Rattle.answers.specs.declared.Refusal.{Refusal}
use package.Rattle.answers.specs.declared.Done.{Done}
use package.Rattle.answers.specs.declared.Shown.{Shown}
use package.Rattle.calltext.specs.Text.{text}
use package.Rattle.calltext.specs.Answers.{two_numbers, value_line, seen_line, bytes_line, refused_line, opened_line, held_line}
use package.Rattle.messages.specs.Meanings.{meaning_of}

-- the line that answers a check
unfoldable pub check_text : Answer (Unit {0}) → List ℕ
check_text (accepted a) = text "ok\n"
check_text (refused n p) = refused_line n p

-- the line that answers a run: its value's length and steps are answered, the value itself is at the start of the output
unfoldable pub run_text : Answer (ℕ × ℕ) → List ℕ → List ℕ
run_text (accepted a) output = value_line (take a.0 output) a.1
run_text (refused n p) output = refused_line n p

-- the lines that answer a journal's readers: what the reader wrote is at the start of the output
unfoldable pub nurse_text : Answer (ℕ × ℕ) → List ℕ → List ℕ
nurse_text (accepted a) output = seen_line (take a.0 output) a.1
nurse_text (refused n p) output = refused_line n p

unfoldable pub write_text : Answer ℕ → List ℕ → List ℕ
write_text (accepted n) output = bytes_line (take n output)
write_text (refused n p) output = refused_line n p

-- the lines that answer the calls on a journal, with the journal's buffer as the call left it
unfoldable pub opened_text : Answer (Unit {0}) → List ℕ → List ℕ
opened_text (accepted a) journal = opened_line journal
opened_text (refused n p) journal = refused_line n p

unfoldable pub held_text : Answer (ℕ × ℕ) → List ℕ → List ℕ
held_text (accepted a) journal = held_line a.0 a.1 journal
held_text (refused n p) journal = refused_line n p

-- how many bytes of the output a call filled
abbrev pub length_of : Result Done Refusal → ℕ
length_of (Ok d) = d.len
length_of (Err r) = 0

abbrev pub seen_length : Result Shown Refusal → ℕ
seen_length (Ok s) = s.len
seen_length (Err r) = 0

abbrev pub written_length : Result ℕ Refusal → ℕ
written_length (Ok n) = n
written_length (Err r) = 0

-- number and place, in front of the meaning
abbrev pub where_text : ℕ → ℕ → List ℕ
where_text number place = two_numbers (text "refused ") number (text " at ") place (text ": ")

unfoldable pub refusal_text : Refusal → List ℕ
refusal_text r = where_text (number_of r) (place_of r) ++ meaning_of (number_of r) ++ text "\n"
