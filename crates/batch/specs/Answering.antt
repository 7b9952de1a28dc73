-- The line that answers a line: the answer of the call that it says, or what is wrong with it.
use Rattle.std.specs.Prelude.{ℕ, Bool, true, false, List, ◌++◌, length}
use package.Rattle.rules.specs.Val.{encode}
use package.Rattle.calls.specs.Answer.{Answer, accepted, refused}
use package.Rattle.calls.specs.Runs.{Ran, check_call}
use package.Rattle.calls.specs.Conversions.{Turned, open_call, convert_call, rollback_call}
use package.Rattle.calls.specs.Readers.{Seen, nurse_call, workshop_call, held_bytes}
use package.Rattle.engine.specs.Runs.{run_call}
use package.Rattle.calltext.specs.Text.{text}
use package.Rattle.calltext.specs.Decimal.{decimal_text}
use package.Rattle.calltext.specs.Calls.{RunLine, OpenLine, ConvertLine, RollbackLine, ReaderLine, Line, check_line, run_line, open_line, convert_line, rollback_line, reader_line, no_call, word_count, no_number, no_bytes, read_line}
use package.Rattle.calltext.specs.Answers.{value_line, seen_line, bytes_line, refused_line, opened_line, held_line}
use package.Rattle.messages.specs.Replies.{check_text}

-- the line that answers a run: its value and steps, or its refusal
unfoldable pub ran_text : Answer Ran → List ℕ
ran_text (accepted r) = value_line (encode r.value) r.steps
ran_text (refused n p) = refused_line n p

-- the line that answers an open: the journal; a convert or rollback: the held value's length, the steps and the journal
unfoldable pub open_text : Answer (List ℕ) → List ℕ
open_text (accepted journal) = opened_line journal
open_text (refused n p) = refused_line n p

unfoldable pub turn_text : Answer Turned → List ℕ
turn_text (accepted t) = held_line t.held t.steps t.journal
turn_text (refused n p) = refused_line n p

-- the line that answers the nurse's reader: the held value and how many conversions stand; the workshop's: the bytes that it writes
unfoldable pub shown_text : Answer Seen → List ℕ
shown_text (accepted s) = seen_line (encode s.held) s.standing
shown_text (refused n p) = refused_line n p

unfoldable pub listed_text : Answer (List ℕ) → List ℕ
listed_text (accepted xs) = bytes_line xs
listed_text (refused n p) = refused_line n p

-- the workshop's reader, or the nurse's, of a journal and an output's length: the line that answers it, and what it writes
unfoldable pub read_text : Bool → List ℕ → ℕ → List ℕ
unfolding listed_text shown_text
read_text true journal out = listed_text (workshop_call journal out)
read_text false journal out = shown_text (nurse_call journal out)

unfoldable pub read_bytes : Bool → List ℕ → ℕ → Answer (List ℕ)
read_bytes true journal out = workshop_call journal out
read_bytes false journal out = held_bytes (nurse_call journal out)

-- what is wrong with a word; words count from 0, the call's name
unfoldable pub word_error : ℕ → List ℕ → List ℕ
word_error k what = text "error word " ++ decimal_text k ++ what

-- the calls, with the arguments that a line says
abbrev pub ran_by : RunLine → Answer Ran
ran_by c = run_call c.backward c.program c.function c.ancillae c.value c.fuel c.workspace c.output

abbrev pub opened_by : OpenLine → Answer (List ℕ)
opened_by c = open_call c.program c.held c.workspace (length c.journal)

abbrev pub converted_by : ConvertLine → Answer Turned
converted_by c = convert_call c.program c.function c.ancillae c.fuel c.workspace c.journal

abbrev pub rolled_back_by : RollbackLine → Answer Turned
rolled_back_by c = rollback_call c.program c.fuel c.workspace c.journal

abbrev pub read_by : ReaderLine → Answer (List ℕ)
read_by c = read_bytes c.workshop c.journal c.output

unfoldable pub answer_to : Line → List ℕ
unfolding ran_text open_text turn_text read_text word_error
answer_to (check_line ws p) = check_text (check_call p ws)
answer_to (run_line c) = ran_text (ran_by c)
answer_to (open_line c) = open_text (opened_by c)
answer_to (convert_line c) = turn_text (converted_by c)
answer_to (rollback_line c) = turn_text (rolled_back_by c)
answer_to (reader_line c) = read_text c.workshop c.journal c.output
answer_to no_call = text "error no call of this name\n"
answer_to word_count = text "error too few or too many words\n"
answer_to (no_number k) = word_error k (text " is no number in its range\n")
answer_to (no_bytes k) = word_error k (text " is no bytes in hexadecimal\n")

unfoldable pub answer_line : List ℕ → List ℕ
unfolding answer_to
answer_line line = answer_to (read_line line)
