-- What is claimed of the calls on bytes, as propositions; proofs/Theorems has a proof of each under the same name.
use Rattle.std.specs.Prelude.{ℕ, ◌+◌, ◌-◌, ◌≤◌, ◌<◌, ◌≡◌, Bool, true, List, [], ◌∷◌, ◌++◌, ◌⊎◌, ◌↔◌, length, replicate}
use Rattle.std.proofs.Math.Option.{none, some}
use package.Rattle.octets.specs.Numbers.{AreBytes}
use package.Rattle.rules.specs.Limits.{fits, max_height, max_variables, max_nodes, max_value_bytes, max_ancilla_bytes, max_fuel}
use package.Rattle.rules.specs.Val.{Val, size, encode}
use package.Rattle.rules.specs.Ty.{Ty, HasTy, HasTys}
use package.Rattle.rules.specs.Term.{Fun, Program, nth}
use package.Rattle.rules.specs.Typing.{WellTyped}
use package.Rattle.rules.specs.Run.{ok}
use package.Rattle.rules.specs.Machine.{run_backward}
use package.Rattle.rules.specs.Claims.{Carries, Wider, OfTyped, ChoosesAt}
use package.Rattle.calls.specs.Answer.{Answer, accepted, refused, bytes_written}
use package.Rattle.calls.specs.Entries.{TypeEntry, type_of}
use package.Rattle.calls.specs.Named.{plain, member}
use package.Rattle.calls.specs.Closed.{Plain}
use package.Rattle.calls.specs.Formed.{WellFormed}
use package.Rattle.calls.specs.Load.{load}
use package.Rattle.calls.specs.Values.{value, encode_all, ancillae}
use package.Rattle.calls.specs.Runs.{Ran, workspace_for, check_call, forward_call, backward_call}
use package.Rattle.calls.specs.Journal.{Entry, Journal, field, held_tag, entry_fields, fields, write_out, read_journal}
use package.Rattle.calls.specs.Conversions.{open_call, convert_call, rollback_call}
use package.Rattle.calls.specs.Readers.{most_entries, nurse_of, nurse_call, workshop_call, held_bytes}
use package.Rattle.calls.specs.Book.{Call, opens, converts, rolls_back, buffer, Told, is_open, holds, refuses, Row, Book, journal_of, book_run, call, call_run, resized}

----------------------------------------------------------------
-- Values, types and journals from bytes

-- The test of a type that a term or function names says what section 1 says of its tree: closed, and at most 1,024 nodes.
abbrev pub ClosedAndCounted : Type 0
ClosedAndCounted = (ys : List TypeEntry) (i : ℕ) → (plain ys i ≡ true) ↔ Plain (type_of ys i)

-- A value, or ancillae, are read from the bytes that they are written as, within the limit, and from no others.
abbrev pub EncodeAndRead : Type 0
EncodeAndRead = ((xs : List ℕ) (v : Val) → (value xs ≡ some v) ↔ ((xs ≡ encode v) × (fits v ≡ true)))
    × ((xs : List ℕ) (vs : List Val) → (ancillae xs ≡ some vs) ↔ ((xs ≡ encode_all vs) × (length xs ≤ max_ancilla_bytes)))

-- A journal is read from the bytes that it is written out as, in any buffer that has room, and from no others.
abbrev pub WrittenAndRead : Type 0
WrittenAndRead = (xs : List ℕ) (J : Journal) → AreBytes xs → read_journal xs ≡ some J
    → (xs ≡ write_out (length xs) J) × ((n : ℕ) → length (fields J) ≤ n → read_journal (write_out n J) ≡ some J)

----------------------------------------------------------------
-- Check

-- Check accepts exactly the programs that are well-formed by section 1 and typed by the rules, given its workspace.
abbrev pub CheckIffTyped : Type 0
CheckIffTyped = (ws : ℕ) (program : List ℕ)
    → (check_call program ws ≡ accepted tt) ↔ ((workspace_for 0 ≤ ws) × ((P : Program) × WellFormed program P × WellTyped max_variables max_nodes P))

----------------------------------------------------------------
-- Forward and backward

-- A call with these arguments reaches its run: function `h` of program `P`, ancillae `vs`, and a value `v` of the type that `side` gives.
pub record Admitted (program : List ℕ) (fn : ℕ) (anc bytes : List ℕ) (fuel ws : ℕ) (side : Fun → Ty) (P : Program) (h : Fun) (vs : List Val) (v : Val)
    : Type 0 where
  pub enough : workspace_for fuel ≤ ws
  pub formed : WellFormed program P
  pub typed : WellTyped max_variables max_nodes P
  pub function : nth P fn ≡ some h
  pub ancillae_read : ancillae anc ≡ some vs
  pub value_read : value bytes ≡ some v
  pub ancillae_typed : HasTys vs h.ancillae
  pub value_typed : HasTy v (side h)

abbrev pub answer : Val → ℕ → Answer Ran
answer v n = accepted (record { value = v; steps = n })

-- Forward answers `w` in `n` steps exactly if the call is admitted and the rules carry the input to `w` in `n` steps, within the fuel
-- and the limits, and the output is long enough.
abbrev pub ForwardIffRules : Type 0
ForwardIffRules = (ws out fuel fn : ℕ) (program anc bytes : List ℕ) (w : Val) (n : ℕ)
    → (forward_call program fn anc bytes fuel ws out ≡ answer w n)
    ↔ ((P : Program) × (h : Fun) × (vs : List Val) × (v : Val) × Admitted program fn anc bytes fuel ws (λ h. h.dynamic) P h vs v
    × Carries fits P max_height h vs v w n × (n ≤ fuel) × (size w ≤ out))

-- Demand 2: backward gives the input `v` in `n` steps exactly if the call is admitted and the rules carry `v`, of the dynamic parameter's
-- type, to the given value in `n` steps, within the fuel and the limits, and the output is long enough.
abbrev pub BackwardIffRules : Type 0
BackwardIffRules = (ws out fuel fn : ℕ) (program anc bytes : List ℕ) (v : Val) (n : ℕ)
    → (backward_call program fn anc bytes fuel ws out ≡ answer v n)
    ↔ ((P : Program) × (h : Fun) × (vs : List Val) × (w : Val) × Admitted program fn anc bytes fuel ws (λ h. h.result) P h vs w
    × HasTy v h.dynamic × Carries fits P max_height h vs v w n × (n ≤ fuel) × (size v ≤ out))

-- So backward gives an input in `n` steps if and only if forward carries that input to the given value in `n` steps, with the same fuel
-- and limits, the outputs being long enough.
abbrev pub BackwardIffForward : Type 0
BackwardIffForward = (ws out out' fuel fn : ℕ) (program anc : List ℕ) (v w : Val) (n : ℕ) → size v ≤ out → size w ≤ out'
    → (backward_call program fn anc (encode w) fuel ws out ≡ answer v n) ↔ (forward_call program fn anc (encode v) fuel ws out' ≡ answer w n)

-- Refusal 16: the call was admitted, and no input exists at any fuel, height or size.
abbrev pub NoInput : Type 0
NoInput = (ws out fuel fn : ℕ) (program anc bytes : List ℕ) (k : ℕ) → backward_call program fn anc bytes fuel ws out ≡ refused 16 k
    → (P : Program) × (h : Fun) × (vs : List Val) × (w : Val) × Admitted program fn anc bytes fuel ws (λ h. h.result) P h vs w
    × ((fits' : Val → Bool) (r n : ℕ) (v : Val) → HasTy v h.dynamic → Carries fits' P r h vs v w n → ⊥)

-- Refusal 15 forward: the call was admitted, and the rules yield nothing, at any fuel, height or size.
abbrev pub NoValue : Type 0
NoValue = (ws out fuel fn : ℕ) (program anc bytes : List ℕ) (k : ℕ) → forward_call program fn anc bytes fuel ws out ≡ refused 15 k
    → (P : Program) × (h : Fun) × (vs : List Val) × (v : Val) × Admitted program fn anc bytes fuel ws (λ h. h.dynamic) P h vs v
    × ((fits' : Val → Bool) (r n : ℕ) (w : Val) → Carries fits' P r h vs v w n → ⊥)

-- Document 02, F-3: 15 is never met at a case that chooses by an ancilla. A call that is refused with 15 at entry `k`, either way, was admitted,
-- and of its program's cases with this number not all choose so.
abbrev pub NeverAtChoice : Type 0
NeverAtChoice = (ws out fuel fn : ℕ) (program anc bytes : List ℕ) (k : ℕ)
    → (forward_call program fn anc bytes fuel ws out ≡ refused 15 k → (P : Program) × (h : Fun) × (vs : List Val) × (v : Val)
    × Admitted program fn anc bytes fuel ws (λ h. h.dynamic) P h vs v × ¬ (ChoosesAt P k))
    × (backward_call program fn anc bytes fuel ws out ≡ refused 15 k → (P : Program) × (h : Fun) × (vs : List Val) × (w : Val)
    × Admitted program fn anc bytes fuel ws (λ h. h.result) P h vs w × ¬ (ChoosesAt P k))

-- Two inputs never share a value, whatever the workspace, output and fuel.
abbrev pub Injective : Type 0
Injective = (ws ws' out out' fuel fuel' fn : ℕ) (program anc bytes bytes' : List ℕ) (w : Val) (n n' : ℕ)
    → forward_call program fn anc bytes fuel ws out ≡ answer w n → forward_call program fn anc bytes' fuel' ws' out' ≡ answer w n' → bytes ≡ bytes'

-- What a call answered another answers too: a value with its steps, and 15 and 16 with their places.
abbrev pub AnswersAlike : Answer Ran → Answer Ran → Type 0
AnswersAlike x y = ((w : Val) (n : ℕ) → x ≡ answer w n → y ≡ answer w n) × ((c k : ℕ) → (c ≡ 15) ⊎ (c ≡ 16) → x ≡ refused c k → y ≡ refused c k)

-- More fuel, workspace or output never changes a value with its steps, nor 15, nor 16, either way.
abbrev pub MoreNeverChanges : Type 0
MoreNeverChanges = (ws ws' out out' fuel fuel' fn : ℕ) (program anc bytes : List ℕ) → workspace_for fuel' ≤ ws' → out ≤ out' → fuel ≤ fuel'
    → AnswersAlike (forward_call program fn anc bytes fuel ws out) (forward_call program fn anc bytes fuel' ws' out')
    × AnswersAlike (backward_call program fn anc bytes fuel ws out) (backward_call program fn anc bytes fuel' ws' out')

-- Demand 1: no call stops on a value of wrong shape (which would be the number 0).
abbrev pub NeverStuck : Type 0
NeverStuck = (ws out fuel fn : ℕ) (program anc bytes : List ℕ) (k : ℕ)
    → ¬ (forward_call program fn anc bytes fuel ws out ≡ refused 0 k) × ¬ (backward_call program fn anc bytes fuel ws out ≡ refused 0 k)
    × ¬ (convert_call program fn anc fuel ws bytes ≡ refused 0 k) × ¬ (rollback_call program fuel ws bytes ≡ refused 0 k)

-- the numbers of section 4's rows from Workspace to Typing, of row Call, and of row Run: a run forward never meets 16
abbrev pub program_numbers : List ℕ
program_numbers = 1 ∷ 2 ∷ 3 ∷ 4 ∷ 5 ∷ 6 ∷ 7 ∷ 8 ∷ []

abbrev pub call_numbers : List ℕ
call_numbers = 9 ∷ 10 ∷ 11 ∷ []

abbrev pub forward_numbers : List ℕ
forward_numbers = 12 ∷ 13 ∷ 14 ∷ 15 ∷ []

abbrev pub backward_numbers : List ℕ
backward_numbers = 12 ∷ 13 ∷ 14 ∷ 15 ∷ 16 ∷ []

-- of a journal's readers (02, F-1)
abbrev pub reader_numbers : List ℕ
reader_numbers = 17 ∷ 18 ∷ []

-- A call is refused with the numbers of the list, each for some arguments, and with no other.
abbrev pub Exactly : List ℕ → (ℕ → Type 0) → Type 0
Exactly ns Met = (n : ℕ) → (member n ns ≡ true) ↔ Met n

-- Demand 1: what a call does not accept it refuses under a number of document 01, and these are the numbers of each call.
abbrev pub RefusalNumbers : Type 0
RefusalNumbers =
    Exactly program_numbers (λ n. (ws : ℕ) × (program : List ℕ) × (k : ℕ) × (check_call program ws ≡ refused n k))
    × Exactly (program_numbers ++ call_numbers ++ forward_numbers ++ (17 ∷ [])) (λ n. (ws : ℕ) × (out : ℕ) × (fuel : ℕ) × (fn : ℕ)
    × (program : List ℕ) × (anc : List ℕ) × (bytes : List ℕ) × (k : ℕ) × (forward_call program fn anc bytes fuel ws out ≡ refused n k))
    × Exactly (program_numbers ++ call_numbers ++ backward_numbers ++ (17 ∷ [])) (λ n. (ws : ℕ) × (out : ℕ) × (fuel : ℕ) × (fn : ℕ)
    × (program : List ℕ) × (anc : List ℕ) × (bytes : List ℕ) × (k : ℕ) × (backward_call program fn anc bytes fuel ws out ≡ refused n k))
    × Exactly (program_numbers ++ (10 ∷ 20 ∷ [])) (λ n. (ws : ℕ) × (program : List ℕ) × (bytes : List ℕ) × (m : ℕ) × (k : ℕ)
    × (open_call program bytes ws m ≡ refused n k))
    × Exactly (program_numbers ++ (18 ∷ 20 ∷ []) ++ call_numbers ++ forward_numbers) (λ n. (ws : ℕ) × (fuel : ℕ) × (fn : ℕ)
    × (program : List ℕ) × (anc : List ℕ) × (journal : List ℕ) × (k : ℕ) × (convert_call program fn anc fuel ws journal ≡ refused n k))
    × Exactly (program_numbers ++ (18 ∷ 19 ∷ 20 ∷ []) ++ call_numbers ++ backward_numbers) (λ n. (ws : ℕ) × (fuel : ℕ)
    × (program : List ℕ) × (journal : List ℕ) × (k : ℕ) × (rollback_call program fuel ws journal ≡ refused n k))
    × Exactly reader_numbers (λ n. (journal : List ℕ) × (out : ℕ) × (k : ℕ) × (nurse_call journal out ≡ refused n k))
    × Exactly reader_numbers (λ n. (journal : List ℕ) × (out : ℕ) × (k : ℕ) × (workshop_call journal out ≡ refused n k))

-- A conversion that was accepted under narrower limits goes back under wider ones, in as many steps, given fuel for them.
abbrev pub OldConversionsReturn : Type 0
OldConversionsReturn = (variables most : ℕ) (P : Program) → OfTyped variables most P λ h vs.
    (narrow wide : Val → Bool) (r r' f g n : ℕ) (v w : Val) → Wider narrow wide → r ≤ r' → HasTy v h.dynamic
    → Carries narrow P r h vs v w n → f ≡ n + g → run_backward wide P r' h vs w f ≡ ok v g

----------------------------------------------------------------
-- Demand 3

-- fuel is 0 to 65,535 and a function number two bytes, by their types
abbrev pub Sized : Call → Type 0
Sized (opens v ws n) = Unit {0}
Sized (converts fn anc fuel ws n) = (fuel ≤ max_fuel) × (fn < 65536)
Sized (rolls_back fuel ws n) = fuel ≤ max_fuel

-- the end of the journal's last field
unfoldable pub last_field : List ℕ → ℕ
last_field journal = elim (read_journal journal) [ none ↦ length journal | some J ↦ length (fields J) ]

-- Premises: each call gets the journal as the last one left it, and a buffer that becomes shorter loses only zeros behind the last field.
abbrev pub Premises : List ℕ → List Call → List ℕ → Type 0
Premises program [] journal = Unit {0}
Premises program (c ∷ cs) journal = Sized c × (last_field journal ≤ buffer c) × Premises program cs (call program c (resized (buffer c) journal)).journal

-- The rules carry record `v` through rows, oldest first, to `w`, and count the steps that the entries say.
pub data CarriedThrough (P : Program) : List Row → List Entry → Val → Val → Type 0 where
  no_rows : {v : Val} → CarriedThrough P [] [] v v
  one_row : {row : Row} {rows : List Row} {es : List Entry} {h : Fun} {v u w : Val} {n : ℕ}
      → nth P row.function ≡ some h → Carries fits P max_height h row.ancillae v u n → CarriedThrough P rows es u w
      → CarriedThrough P (row ∷ rows) (record { function = row.function; steps = n; ancillae = row.ancillae } ∷ es) v w

-- the book as the open before the list leaves it
abbrev pub begun : Val → Book
begun first = record { first = first; rows = [] }

-- the length of the last call's buffer, the open's before the list being `n`
unfoldable pub last_buffer : ℕ → List Call → ℕ
last_buffer n [] = n
last_buffer n (c ∷ cs) = last_buffer (buffer c) cs

-- After a list of calls from a journal in a buffer of `n` bytes: every answer, the journal's bytes and the held record are the book's.
module _ (program : List ℕ) (P : Program) (first : Val) (n : ℕ) (journal : List ℕ) (cs : List Call) where
  pub record AsTheBook : Type 0 where
    pub answers : (call_run program cs journal).answers ≡ (book_run program P cs (begun first)).answers
    pub bytes : (call_run program cs journal).journal ≡ write_out (last_buffer n cs) (journal_of P (book_run program P cs (begun first)).book)
    pub held : read_journal (call_run program cs journal).journal ≡ some (journal_of P (book_run program P cs (begun first)).book)
    pub carried : CarriedThrough P (book_run program P cs (begun first)).book.rows (journal_of P (book_run program P cs (begun first)).book).entries
        (book_run program P cs (begun first)).book.first (journal_of P (book_run program P cs (begun first)).book).held

-- For every list of calls, refused ones included, from a journal just left by an open that is accepted.
abbrev pub Demand3 : Type 0
Demand3 = (program : List ℕ) (P : Program) (ws n : ℕ) (bytes journal : List ℕ) (first : Val) → load program ≡ accepted P → value bytes ≡ some first
    → open_call program bytes ws n ≡ accepted journal → (cs : List Call) → Premises program cs journal → AsTheBook program P first n journal cs

----------------------------------------------------------------
-- Demand 3: the rollback that is never refused

-- what a standing conversion met: the journal in its call's buffer; and its steps
pub record Met : Type 0 where
  pub journal : List ℕ
  pub steps : ℕ

-- The conversions that stand after a call on `journal` was answered, newest first: an open strikes all, a rollback the newest.
unfoldable pub remember : Call → List ℕ → Told → List Met → List Met
remember (opens v ws n) journal is_open ms = []
remember (opens v ws n) journal (holds l s) ms = ms
remember (opens v ws n) journal (refuses c p) ms = ms
remember (converts fn anc fuel ws n) journal is_open ms = ms
remember (converts fn anc fuel ws n) journal (holds l s) ms = record { journal = journal; steps = s } ∷ ms
remember (converts fn anc fuel ws n) journal (refuses c p) ms = ms
remember (rolls_back fuel ws n) journal is_open ms = ms
remember (rolls_back fuel ws n) journal (holds l s) [] = []
remember (rolls_back fuel ws n) journal (holds l s) (m ∷ ms) = ms
remember (rolls_back fuel ws n) journal (refuses c p) ms = ms

unfoldable pub standing : List ℕ → List Call → List ℕ → List Met → List Met
unfolding remember
standing program [] journal ms = ms
standing program (c ∷ cs) journal ms =
    let before = resized (buffer c) journal in
    let l = call program c before in
    standing program cs l.journal (remember c before l.told ms)

-- The newest standing conversion rolls back, whatever calls came between, if the buffer is no shorter than it had, the fuel no less than
-- its steps, and the workspace suffices: the journal that it met, byte by byte, with zeros behind, in as many steps.
abbrev pub NewestRollsBack : Type 0
NewestRollsBack = (program : List ℕ) (ws n : ℕ) (bytes journal : List ℕ) → open_call program bytes ws n ≡ accepted journal
    → (cs : List Call) → Premises program cs journal → (m : Met) (ms : List Met) → standing program cs journal [] ≡ m ∷ ms
    → (ws' fuel n' : ℕ) → workspace_for fuel ≤ ws' → m.steps ≤ fuel → length m.journal ≤ n'
    → (J : Journal) × (read_journal m.journal ≡ some J)
    × (rollback_call program fuel ws' (resized n' (call_run program cs journal).journal)
    ≡ accepted (record { held = size J.held; steps = m.steps; journal = m.journal ++ replicate (n' - length m.journal) 0 }))

----------------------------------------------------------------
-- The readers of a journal (02, F-1)

-- The nurse's answer is a function of held value, count and the output's length alone. So two journals with equal held value and equal
-- count, read into outputs of equal length, give equal answers and equal bytes written, whichever functions, steps and ancillae they carry.
abbrev pub NurseSeesNoEntries : Type 0
NurseSeesNoEntries =
    ((journal : List ℕ) (J : Journal) (out : ℕ) → read_journal journal ≡ some J → nurse_call journal out ≡ nurse_of J.held (length J.entries) out)
    × ((journal journal' out out' : List ℕ) (J J' : Journal) → read_journal journal ≡ some J → read_journal journal' ≡ some J' → J.held ≡ J'.held
    → length J.entries ≡ length J'.entries → length out ≡ length out' → (nurse_call journal (length out) ≡ nurse_call journal' (length out'))
    × (bytes_written (held_bytes (nurse_call journal (length out))) ≡ bytes_written (held_bytes (nurse_call journal' (length out')))))

-- The nurse is told the held value and how many conversions stand, and the value's bytes are written, if the output is long enough; else 17, and
-- nothing is written.
abbrev pub NurseSeesTheHeld : Type 0
NurseSeesTheHeld = (journal : List ℕ) (J : Journal) (out : ℕ) → read_journal journal ≡ some J
    → (size J.held ≤ out → (nurse_call journal out ≡ accepted (record { held = J.held; standing = length J.entries }))
    × (bytes_written (held_bytes (nurse_call journal out)) ≡ encode J.held))
    × (out < size J.held → (nurse_call journal out ≡ refused 17 0) × (bytes_written (held_bytes (nurse_call journal out)) ≡ []))

-- The workshop is given the fields of all entries byte by byte as they stand in the journal, oldest first: behind field 21, before the zeros.
abbrev pub WorkshopAsItStands : Type 0
WorkshopAsItStands = (journal xs : List ℕ) (out : ℕ) → AreBytes journal → workshop_call journal out ≡ accepted xs
    → (J : Journal) × (read_journal journal ≡ some J) × (xs ≡ entry_fields J.entries)
    × (journal ≡ field held_tag (encode J.held) ++ xs ++ replicate (length journal - length (fields J)) 0)

-- It is given them if the output is long enough; else 17, and nothing is written.
abbrev pub WorkshopSeesTheEntries : Type 0
WorkshopSeesTheEntries = (journal : List ℕ) (J : Journal) (out : ℕ) → read_journal journal ≡ some J
    → (length (entry_fields J.entries) ≤ out → workshop_call journal out ≡ accepted (entry_fields J.entries))
    × (out < length (entry_fields J.entries) → (workshop_call journal out ≡ refused 17 0) × (bytes_written (workshop_call journal out) ≡ []))

-- Both readers look at the whole form before all else: 18 is for malformed journals, whatever the output, and for no others.
abbrev pub ReadersKnowTheForm : Type 0
ReadersKnowTheForm = (journal : List ℕ) (out : ℕ)
    → ((read_journal journal ≡ none) ↔ (nurse_call journal out ≡ refused 18 0)) × ((read_journal journal ≡ none) ↔ (workshop_call journal out ≡ refused 18 0))

-- An output as long as a value may be is never too short for the nurse, nor one of `most_entries` bytes for the workshop.
abbrev pub ReadersAlwaysEnough : Type 0
ReadersAlwaysEnough = (journal : List ℕ) (out k : ℕ) → AreBytes journal
    → (max_value_bytes ≤ out → ¬ (nurse_call journal out ≡ refused 17 k)) × (most_entries ≤ out → ¬ (workshop_call journal out ≡ refused 17 k))

-- After any list of calls the nurse sees the book's held record and how many rows stand, and the workshop an entry for each row.
abbrev pub ReadersSeeTheBook : Type 0
ReadersSeeTheBook = (program : List ℕ) (P : Program) (ws n : ℕ) (bytes journal : List ℕ) (first : Val) → load program ≡ accepted P
    → value bytes ≡ some first → open_call program bytes ws n ≡ accepted journal → (cs : List Call) → Premises program cs journal → (out : ℕ)
    → ((v : Val) → (journal_of P (book_run program P cs (begun first)).book).held ≡ v → size v ≤ out
    → nurse_call (call_run program cs journal).journal out
    ≡ accepted (record { held = v; standing = length (book_run program P cs (begun first)).book.rows }))
    × ((xs : List ℕ) → entry_fields (journal_of P (book_run program P cs (begun first)).book).entries ≡ xs → length xs ≤ out
    → workshop_call (call_run program cs journal).journal out ≡ accepted xs)
