-- What a call answered, as text. What is accepted reads as in a line of calls and answers (crate calltext); a refusal has its meaning in
-- words behind its number and place.
use Rattle.std.specs.Prelude.{ℕ, List, ◌++◌, take}
use package.Rattle.rules.specs.Val.{encode}
use package.Rattle.calls.specs.Answer.{Answer, accepted, refused}
use package.Rattle.calls.specs.Runs.{Ran}
use package.Rattle.calls.specs.Readers.{Seen}
use package.Rattle.calltext.specs.Text.{text}
use package.Rattle.calltext.specs.Decimal.{decimal_text}
use package.Rattle.calltext.specs.Answers.{value_line, seen_line, bytes_line}
use package.Rattle.messages.specs.Meanings.{meaning_of}
use package.Rattle.messages.specs.Replies.{where_text}

-- a refusal: its number, its place and its meaning
unfoldable pub refused_report : ℕ → ℕ → List ℕ
refused_report number place = where_text number place ++ meaning_of number ++ text "\n"

-- what a check answers
unfoldable pub check_report : Answer (Unit {0}) → List ℕ
check_report (accepted a) = text "ok\n"
check_report (refused n p) = refused_report n p

-- what a run answers: its value and its steps
unfoldable pub run_report : Answer Ran → List ℕ
run_report (accepted r) = value_line (encode r.value) r.steps
run_report (refused n p) = refused_report n p

-- the same, where length and steps are answered and the value is at the start of the output
unfoldable pub filled_report : Answer (ℕ × ℕ) → List ℕ → List ℕ
filled_report (accepted a) output = value_line (take a.0 output) a.1
filled_report (refused n p) output = refused_report n p

-- what the nurse's reader answers: the held value, and how many conversions stand (02, F-1)
unfoldable pub nurse_report : Answer Seen → List ℕ
nurse_report (accepted s) = seen_line (encode s.held) s.standing
nurse_report (refused n p) = refused_report n p

-- the same, where length and count are answered and the value is at the start of the output
unfoldable pub shown_report : Answer (ℕ × ℕ) → List ℕ → List ℕ
shown_report (accepted a) output = seen_line (take a.0 output) a.1
shown_report (refused n p) output = refused_report n p

-- what the workshop's reader answers: the bytes that it writes
unfoldable pub workshop_report : Answer (List ℕ) → List ℕ
workshop_report (accepted xs) = bytes_line xs
workshop_report (refused n p) = refused_report n p

-- the same, where their length is answered
unfoldable pub wrote_report : Answer ℕ → List ℕ → List ℕ
wrote_report (accepted n) output = bytes_line (take n output)
wrote_report (refused n p) output = refused_report n p

-- what convert and rollback answer: the length of the held record, and the steps
unfoldable pub held_text : ℕ → ℕ → List ℕ
held_text length steps = text "held " ++ decimal_text length ++ text " " ++ decimal_text steps ++ text "\n"
