-- What the buffers that are lent hold after a line is answered. Laws: proofs/Lending.
use Rattle.std.specs.Prelude.{ℕ, ◌+◌, ◌*◌, ◌≡◌, Bool, true, false, ◌&&◌, List, ◌++◌, length, take, drop, leb, Option, Some, None}
use package.Rattle.calls.specs.Answer.{cleared, overwritten}
use package.Rattle.calls.specs.Runs.{check_call, written}
use package.Rattle.calls.specs.Book.{after_open, after_turned}
use package.Rattle.calltext.specs.Calls.{Line, check_line, run_line, open_line, convert_line, rollback_line, reader_line, no_call, word_count, no_number, no_bytes, read_line}
use package.Rattle.calltext.specs.Left.{program_left, ancillae_left, value_left}
use package.Rattle.calltext.specs.Wrote.{Wrote}
use package.Rattle.batch.specs.Capped.{most_workspace, most_output, capped, answer_room}
use package.Rattle.batch.specs.Answering.{ran_by, opened_by, converted_by, rolled_back_by, read_by, answer_to, answer_line}

----------------------------------------------------------------
-- The call of a line

-- a buffer with its first `n` bytes changed, the rest unchanged
unfoldable pub on_front : ℕ → (List ℕ → List ℕ) → List ℕ → List ℕ
on_front n f buffer = f (take n buffer) ++ drop n buffer

-- the part of the workspace that a line names is what section 4 says of the call
unfoldable pub workspace_after : Line → List ℕ → List ℕ
unfolding on_front
workspace_after (check_line ws p) buffer = on_front (capped most_workspace ws) (cleared (check_call p ws)) buffer
workspace_after (run_line c) buffer = on_front (capped most_workspace c.workspace) (cleared (ran_by c)) buffer
workspace_after (open_line c) buffer = on_front (capped most_workspace c.workspace) (cleared (opened_by c)) buffer
workspace_after (convert_line c) buffer = on_front (capped most_workspace c.workspace) (cleared (converted_by c)) buffer
workspace_after (rollback_line c) buffer = on_front (capped most_workspace c.workspace) (cleared (rolled_back_by c)) buffer
workspace_after (reader_line c) buffer = buffer
workspace_after no_call buffer = buffer
workspace_after word_count buffer = buffer
workspace_after (no_number k) buffer = buffer
workspace_after (no_bytes k) buffer = buffer

-- the part of the output that a line names, after a run or a reader
unfoldable pub output_after : Line → List ℕ → List ℕ
unfolding on_front
output_after (run_line c) buffer = on_front (capped most_output c.output) (written (ran_by c)) buffer
output_after (reader_line c) buffer = on_front (capped most_output c.output) (overwritten (read_by c)) buffer
output_after (check_line ws p) buffer = buffer
output_after (open_line c) buffer = buffer
output_after (convert_line c) buffer = buffer
output_after (rollback_line c) buffer = buffer
output_after no_call buffer = buffer
output_after word_count buffer = buffer
output_after (no_number k) buffer = buffer
output_after (no_bytes k) buffer = buffer

-- the journal at the start of the value's buffer
unfoldable pub journal_after : Line → List ℕ → List ℕ
unfolding on_front
journal_after (open_line c) buffer = on_front (length c.journal) (λ j. (after_open j (opened_by c)).journal) buffer
journal_after (convert_line c) buffer = on_front (length c.journal) (λ j. (after_turned j (converted_by c)).journal) buffer
journal_after (rollback_line c) buffer = on_front (length c.journal) (λ j. (after_turned j (rolled_back_by c)).journal) buffer
journal_after (check_line ws p) buffer = buffer
journal_after (run_line c) buffer = buffer
journal_after (reader_line c) buffer = buffer
journal_after no_call buffer = buffer
journal_after word_count buffer = buffer
journal_after (no_number k) buffer = buffer
journal_after (no_bytes k) buffer = buffer

-- the line is answered up to `end`, with the call made: the buffers before and after
pub record Replies (line : Line) (end : ℕ) (v v' ws ws' o o' out out' : List ℕ) : Type 0 where
  pub told : Wrote out out' 0 end (answer_to line)
  pub value : v' ≡ journal_after line v
  pub workspace : ws' ≡ workspace_after line ws
  pub output : o' ≡ output_after line o

----------------------------------------------------------------
-- A line

-- what is lent
pub record Lent : Type 0 where
  pub program : List ℕ
  pub ancillae : List ℕ
  pub value : List ℕ
  pub workspace : List ℕ
  pub output : List ℕ
  pub out : List ℕ

abbrev pub lent : List ℕ → List ℕ → List ℕ → List ℕ → List ℕ → List ℕ → Lent
lent p anc v ws o out = record { program = p; ancillae = anc; value = v; workspace = ws; output = o; out = out }

-- Is there room for `n` digits, two a byte?
unfoldable pub digits_fit : ℕ → ℕ → Bool
digits_fit n len = leb n (2 * len)

-- Is each buffer long enough for a line of `n` bytes? (A journal is answered from the value's buffer, two digits a byte.)
unfoldable pub enough : ℕ → ℕ → ℕ → ℕ → ℕ → ℕ → ℕ → Bool
unfolding digits_fit
enough n p anc v ws o out =
    digits_fit n p && digits_fit n anc && digits_fit n v && leb most_workspace ws && leb most_output o && leb (2 * v + answer_room) out

abbrev pub enough_for : List ℕ → Lent → Bool
enough_for line b =
    enough (length line) (length b.program) (length b.ancillae) (length b.value) (length b.workspace) (length b.output) (length b.out)

-- the buffers are too short: nothing is done
pub record TooShort (r : Option ℕ) (b b' : Lent) : Type 0 where
  pub short : r ≡ None
  pub kept : b' ≡ b

-- the line is answered
pub record Answered (r : Option ℕ) (line : List ℕ) (b b' : Lent) : Type 0 where
  pub ends : r ≡ Some (length (answer_line line))
  pub told : Wrote b.out b'.out 0 (length (answer_line line)) (answer_line line)
  pub program : b'.program ≡ program_left line b.program
  pub ancillae : b'.ancillae ≡ ancillae_left line b.ancillae
  pub value : b'.value ≡ journal_after (read_line line) (value_left line b.value)
  pub workspace : b'.workspace ≡ workspace_after (read_line line) b.workspace
  pub output : b'.output ≡ output_after (read_line line) b.output

abbrev pub LineCase : Bool → Option ℕ → List ℕ → Lent → Lent → Type 0
LineCase true r line b b' = Answered r line b b'
LineCase false r line b b' = TooShort r b b'

-- what a line is answered, with the buffers before and after
pub record LineMeans (r : Option ℕ) (line : List ℕ) (b b' : Lent) : Type 0 where
  pub means : LineCase (enough_for line b) r line b b'
