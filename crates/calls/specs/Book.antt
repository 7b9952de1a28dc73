-- The plain book (section 5): what demand 3 is measured by. It is fed the arguments of each open, convert and rollback call, of the
-- workspace and the journal's buffer the length alone, and nothing that the engine stores or answers.
use Rattle.std.specs.Prelude.{ℕ, ◌-◌, List, [], ◌∷◌, ◌++◌, length, take, replicate}
use Rattle.std.proofs.Math.Option.{Option, none, some}
use package.Rattle.rules.specs.Limits.{fits, max_height, max_fuel}
use package.Rattle.rules.specs.Val.{Val, unit, size}
use package.Rattle.rules.specs.Term.{Fun, Program, nth}
use package.Rattle.rules.specs.Machine.{run_forward}
use package.Rattle.calls.specs.Answer.{Answer, accepted, refused}
use package.Rattle.calls.specs.Values.{value, ancillae}
use package.Rattle.calls.specs.Runs.{Ran, ran}
use package.Rattle.calls.specs.Journal.{Entry, Journal, write_out}
use package.Rattle.calls.specs.Conversions.{Turned, Last, newest, open_call, convert_call, rollback_call}

----------------------------------------------------------------
-- Calls that write a journal, and what they answer

-- with the given bytes or the function and its ancillae, fuel where the call has it, and the lengths of the workspace and of the journal's buffer
pub data Call : Type 0 where
  opens : List ℕ → ℕ → ℕ → Call
  converts : ℕ → List ℕ → ℕ → ℕ → ℕ → Call
  rolls_back : ℕ → ℕ → ℕ → Call

-- the length of the journal's buffer
unfoldable pub buffer : Call → ℕ
buffer (opens v ws n) = n
buffer (converts fn anc fuel ws n) = n
buffer (rolls_back fuel ws n) = n

-- open answers that it accepts; convert and rollback the new held value's length and the steps; a refusal its number and place
pub data Told : Type 0 where
  is_open : Told
  holds : ℕ → ℕ → Told
  refuses : ℕ → ℕ → Told

----------------------------------------------------------------
-- The book

-- a conversion that stands: a function and its ancilla values
pub record Row : Type 0 where
  pub function : ℕ
  pub ancillae : List Val

-- a first record, and the rows, oldest first
pub record Book : Type 0 where
  pub first : Val
  pub rows : List Row

-- what a run answers; else the value stays
unfoldable pub or_stays : Val → Answer Ran → Ran
or_stays v (accepted r) = r
or_stays v (refused n k) = record { value = v; steps = 0 }

unfoldable pub carry_by : Program → Option Fun → Row → Val → Ran
unfolding or_stays ran
carry_by P none row v = record { value = v; steps = 0 }
carry_by P (some h) row v = or_stays v (ran max_fuel (run_forward fits P max_height h row.ancillae v max_fuel))

-- A row run forward by the rules. (A row of a book ran when it was added; for any other the value stays.)
unfoldable pub carry : Program → Row → Val → Ran
unfolding carry_by
carry P row v = carry_by P (nth P row.function) row v

-- a record run forward through rows, oldest first
unfoldable pub through : Program → List Row → Val → Val
unfolding carry
through P [] v = v
through P (row ∷ rows) v = through P rows (carry P row v).value

-- the entries of rows, each with the steps that the rules count there
unfoldable pub entries_of : Program → List Row → Val → List Entry
unfolding carry
entries_of P [] v = []
entries_of P (row ∷ rows) v =
    record { function = row.function; steps = (carry P row v).steps; ancillae = row.ancillae } ∷ entries_of P rows (carry P row v).value

-- what the book writes out: the held record, an entry for each row
unfoldable pub journal_of : Program → Book → Journal
unfolding through entries_of
journal_of P b = record { held = through P b.rows b.first; entries = entries_of P b.rows b.first }

----------------------------------------------------------------
-- A call, fed to the book

-- the refusal of section 4 for the call on a journal's bytes, if it is refused (open reads none)
unfoldable pub refusal_of : {A : Type 0} → Answer A → Option Told
refusal_of (accepted a) = none
refusal_of (refused n p) = some (refuses n p)

unfoldable pub refusal : List ℕ → Call → List ℕ → Option Told
unfolding refusal_of
refusal program (opens v ws n) journal = refusal_of (open_call program v ws n)
refusal program (converts fn anc fuel ws n) journal = refusal_of (convert_call program fn anc fuel ws journal)
refusal program (rolls_back fuel ws n) journal = refusal_of (rollback_call program fuel ws journal)

-- the book after a call, and the answer
pub record BookTurn : Type 0 where
  pub book : Book
  pub told : Told

-- what stands for bytes that section 4 refuses
unfoldable pub or_unit : Option Val → Val
or_unit none = unit
or_unit (some v) = v

unfoldable pub or_none : Option (List Val) → List Val
or_none none = []
or_none (some vs) = vs

unfoldable pub or_empty : Option (Last Row) → Last Row
or_empty none = record { older = []; newest = record { function = 0; ancillae = [] } }
or_empty (some s) = s

-- the book after a call that section 4 does not refuse: open sets the first record and strikes all rows, convert adds a row,
-- rollback strikes the newest. A rollback's steps are the struck row's.
unfoldable pub enters : Program → Call → Book → BookTurn
unfolding through carry or_unit or_none or_empty newest
enters P (opens v ws n) b = record { book = record { first = or_unit (value v); rows = [] }; told = is_open }
enters P (converts fn anc fuel ws n) b =
    let r : Row = record { function = fn; ancillae = or_none (ancillae anc) } in
    record {
      book = record { first = b.first; rows = b.rows ++ (r ∷ []) };
      told = holds (size (carry P r (through P b.rows b.first)).value) (carry P r (through P b.rows b.first)).steps;
    }
enters P (rolls_back fuel ws n) b =
    let s = or_empty (newest b.rows) in
    record {
      book = record { first = b.first; rows = s.older };
      told = holds (size (through P s.older b.first)) (carry P s.newest (through P s.older b.first)).steps;
    }

-- A call that section 4 refuses on the bytes that the book writes out changes nothing.
unfoldable pub turn_unless : Option Told → Program → Call → Book → BookTurn
unfolding enters
turn_unless (some t) P c b = record { book = b; told = t }
turn_unless none P c b = enters P c b

unfoldable pub book_turn : List ℕ → Program → Call → Book → BookTurn
unfolding refusal turn_unless
book_turn program P c b = turn_unless (refusal program c (write_out (buffer c) (journal_of P b))) P c b

-- a list of calls, in order: the book after it, and the answers
pub record BookRun : Type 0 where
  pub book : Book
  pub answers : List Told

unfoldable pub book_run : List ℕ → Program → List Call → Book → BookRun
unfolding book_turn
book_run program P [] b = record { book = b; answers = [] }
book_run program P (c ∷ cs) b =
    let t = book_turn program P c b in
    let r = book_run program P cs t.book in
    record { book = r.book; answers = t.told ∷ r.answers }

----------------------------------------------------------------
-- The same calls on bytes, as section 4 has them

-- a buffer of `n` bytes with the journal's bytes: zeros added behind, or bytes left off there
unfoldable pub resized : ℕ → List ℕ → List ℕ
resized n xs = take n xs ++ replicate (n - length xs) 0

-- the journal after a call, and the answer
pub record Left : Type 0 where
  pub journal : List ℕ
  pub told : Told

unfoldable pub after_turned : List ℕ → Answer Turned → Left
after_turned journal (accepted t) = record { journal = t.journal; told = holds t.held t.steps }
after_turned journal (refused n p) = record { journal = journal; told = refuses n p }

unfoldable pub after_open : List ℕ → Answer (List ℕ) → Left
after_open journal (accepted xs) = record { journal = xs; told = is_open }
after_open journal (refused n p) = record { journal = journal; told = refuses n p }

-- the call on a buffer that holds `journal`
unfoldable pub call : List ℕ → Call → List ℕ → Left
unfolding after_turned after_open
call program (opens v ws n) journal = after_open journal (open_call program v ws n)
call program (converts fn anc fuel ws n) journal = after_turned journal (convert_call program fn anc fuel ws journal)
call program (rolls_back fuel ws n) journal = after_turned journal (rollback_call program fuel ws journal)

pub record CallRun : Type 0 where
  pub journal : List ℕ
  pub answers : List Told

-- Each call gets the journal's bytes as the last one left them, in its own buffer.
unfoldable pub call_run : List ℕ → List Call → List ℕ → CallRun
unfolding call resized
call_run program [] journal = record { journal = journal; answers = [] }
call_run program (c ∷ cs) journal =
    let l = call program c (resized (buffer c) journal) in
    let r = call_run program cs l.journal in
    record { journal = r.journal; answers = l.told ∷ r.answers }
