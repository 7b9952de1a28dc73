-- The claims about the readers of a journal (document 02, F-1).
use Prim.Native.Nat.{ℕ, suc, ◌-◌, ◌≤◌, ◌<◌}
use native.Mathlib.Omega.{arith}
use borrow.Author.Tests.{lt-leb}
use mathlib.Core.Path.{◌≡◌, refl, sym, ap, ap₂, subst, ◌∙◌}
use mathlib.Core.Option.{Option, none, some}
use mathlib.Core.List.{List, [], ◌∷◌, ◌++◌}
use mathlib.Core.Bool.{false≢true}
use mathlib.Core.Logic.{◌↔◌}
use lib.ListN.{length, replicate}
use lib.Dec.{leb}
use package.Rattle.octets.specs.Numbers.{AreBytes}
use package.Rattle.rules.specs.Limits.{fits, max_value_bytes, max_ancilla_bytes, max_conversions}
use package.Rattle.rules.specs.Val.{Val, size, encode}
use package.Rattle.rules.specs.Term.{Program}
use package.Rattle.rules.proofs.Basics.{given, none≢some}
use package.Rattle.rules.proofs.Typing.Tests.{leb_yes, leb-sound}
use package.Rattle.calls.specs.Answer.{Answer, accepted, refused, ◌>>=◌, require, present, bytes_written}
use package.Rattle.calls.specs.Named.{member}
use package.Rattle.calls.specs.Journal.{Entry, Journal, field, held_tag, entry_fields, fields, write_out, read_journal}
use package.Rattle.calls.specs.Readers.{most_entries, nurse_of, workshop_of, nurse_call, workshop_call, held_bytes}
use package.Rattle.calls.specs.Book.{Row, carry, entries_of, journal_of, BookRun, book_run}
use package.Rattle.calls.specs.Claims.{begun, reader_numbers, NurseSeesNoEntries, NurseSeesTheHeld, WorkshopAsItStands}
use package.Rattle.calls.specs.Claims.{WorkshopSeesTheEntries, ReadersKnowTheForm, ReadersAlwaysEnough, ReadersSeeTheBook}
use package.Rattle.calls.proofs.Answer.{refused≢accepted, accepted_inj, refused-number, unbind, via, stops, require_yes, require-no, present_some, presented}
use package.Rattle.calls.proofs.Refusals.{within, Numbered, accepts, number, numbered-wider, numbered-present, numbered_bind, numbered-test}
use package.Rattle.calls.proofs.Journal.Entries.{length-entry_fields}
use package.Rattle.calls.proofs.Journal.Buffers.{written_read}
use package.Rattle.calls.proofs.Book.Demand.{demand3}

----------------------------------------------------------------
-- Of a journal that is read

pub nurse-reads : (journal : List ℕ) (J : Journal) (out : ℕ) → read_journal journal ≡ some J
    → nurse_call journal out ≡ nurse_of J.held (length J.entries) out
unfolding nurse_call
nurse-reads journal J out e = via _ (present_some 18 e) refl

pub workshop-reads : (journal : List ℕ) (J : Journal) (out : ℕ) → read_journal journal ≡ some J
    → workshop_call journal out ≡ workshop_of J.entries out
unfolding workshop_call
workshop-reads journal J out e = via _ (present_some 18 e) refl

pub nurse_sees_no_entries : NurseSeesNoEntries
nurse_sees_no_entries = (
  nurse-reads,
  λ journal journal' out out' J J' e e' held count long.
      given (nurse-reads journal J (length out) e ∙ ap₂ (λ v n. nurse_of v n (length out)) held count ∙ ap (nurse_of J'.held (length J'.entries)) long
      ∙ sym (nurse-reads journal' J' (length out') e')) λ same. (same, ap (λ x. bytes_written (held_bytes x)) same),
)

-- where there is room, and where there is not
nurse_of-room : (v : Val) (standing out : ℕ) → size v ≤ out → nurse_of v standing out ≡ accepted (record { held = v; standing = standing })
unfolding nurse_of
nurse_of-room v standing out h = via _ (require_yes 17 0 (leb_yes (size v) out h)) refl

nurse_of-short : (v : Val) (standing out : ℕ) → out < size v → nurse_of v standing out ≡ refused 17 0
unfolding nurse_of
nurse_of-short v standing out h = stops _ (require-no 17 0 (lt-leb (size v) out h))

workshop_of-room : (es : List Entry) (out : ℕ) → length (entry_fields es) ≤ out → workshop_of es out ≡ accepted (entry_fields es)
unfolding workshop_of
workshop_of-room es out h = via _ (require_yes 17 0 (leb_yes (length (entry_fields es)) out h)) refl

workshop_of-short : (es : List Entry) (out : ℕ) → out < length (entry_fields es) → workshop_of es out ≡ refused 17 0
unfolding workshop_of
workshop_of-short es out h = stops _ (require-no 17 0 (lt-leb (length (entry_fields es)) out h))

pub nurse_sees_the_held : NurseSeesTheHeld
unfolding held_bytes bytes_written ◌>>=◌
nurse_sees_the_held journal J out e = (
  λ h. given (nurse-reads journal J out e ∙ nurse_of-room J.held (length J.entries) out h) λ shown.
      (shown, ap (λ x. bytes_written (held_bytes x)) shown),
  λ h. given (nurse-reads journal J out e ∙ nurse_of-short J.held (length J.entries) out h) λ short.
      (short, ap (λ x. bytes_written (held_bytes x)) short),
)

pub workshop_sees_the_entries : WorkshopSeesTheEntries
unfolding bytes_written
workshop_sees_the_entries journal J out e = (
  λ h. workshop-reads journal J out e ∙ workshop_of-room J.entries out h,
  λ h. given (workshop-reads journal J out e ∙ workshop_of-short J.entries out h) λ short. (short, ap bytes_written short),
)

-- what it accepts
workshop_of-accepts : (es : List Entry) (out : ℕ) {xs : List ℕ} → workshop_of es out ≡ accepted xs → xs ≡ entry_fields es
unfolding workshop_of
workshop_of-accepts es out e = given (unbind (require _ 17 0) _ e) λ (room, fits, same). sym (accepted_inj same)

pub workshop_as_it_stands : WorkshopAsItStands
unfolding workshop_call fields write_out
workshop_as_it_stands journal xs out bytes e =
    given (unbind (present (read_journal journal) 18) _ e) λ (J, read, last).
    given (presented (read_journal journal) 18 read) λ says. given (workshop_of-accepts J.entries out last) λ same.
    given (written_read journal bytes says) λ (whole, writable, within). (
      J,
      says,
      same,
      whole ∙ ap (λ ys. field held_tag (encode J.held) ++ ys ++ replicate (length journal - length (fields J)) 0) (sym same),
    )

----------------------------------------------------------------
-- Outputs that are always enough

-- what a journal in form writes
pub held-most : (journal : List ℕ) {J : Journal} → AreBytes journal → read_journal journal ≡ some J → size J.held ≤ max_value_bytes
unfolding fits
held-most journal {J} b e = given (written_read journal b e) λ (whole, writable, within). leb-sound (size J.held) max_value_bytes writable.held_fits

pub entries-most : (journal : List ℕ) {J : Journal} → AreBytes journal → read_journal journal ≡ some J → length (entry_fields J.entries) ≤ most_entries
unfolding most_entries max_conversions max_ancilla_bytes
entries-most journal {J} b e = given (written_read journal b e) λ (whole, writable, within).
    omega (arith, length-entry_fields writable.entries_writable, writable.entries_few)

-- a reader is not refused with 17, if it is not once the journal is read
module _ {A : Type 0} {k : ℕ} where
  full : (o : Option Journal) (reads : Journal → Answer A) → ((J : Journal) → o ≡ some J → ¬ (reads J ≡ refused 17 k))
      → ¬ ((present o 18 >>= reads) ≡ refused 17 k)
  unfolding present ◌>>=◌
  full none reads s e = let z : ◌≡◌ {A = ℕ} 18 17 = refused-number e in omega arith
  full (some J) reads s e = s J refl e

  -- nor is it where there is room
  roomy : (n out : ℕ) (a : A) → n ≤ out → ¬ ((require (leb n out) 17 0 >>= λ room. accepted a) ≡ refused 17 k)
  roomy n out a h e = refused≢accepted (sym e ∙ via _ (require_yes 17 0 (leb_yes n out h)) refl)

pub readers_always_enough : ReadersAlwaysEnough
unfolding nurse_call workshop_call nurse_of workshop_of
readers_always_enough journal out k b = (
  λ l. full (read_journal journal) _ λ J e. roomy _ out _ (omega (arith, held-most journal b e, l)),
  λ l. full (read_journal journal) _ λ J e. roomy _ out _ (omega (arith, entries-most journal b e, l)),
)

----------------------------------------------------------------
-- Of a journal that is malformed

-- the test of room is no 18
nurse_of-numbered : (v : Val) (standing out : ℕ) → Numbered (17 ∷ []) (nurse_of v standing out)
unfolding nurse_of member
nurse_of-numbered v standing out = numbered-test _ 17 0 _ refl λ room. accepts

workshop_of-numbered : (es : List Entry) (out : ℕ) → Numbered (17 ∷ []) (workshop_of es out)
unfolding workshop_of member
workshop_of-numbered es out = numbered-test _ 17 0 _ refl λ room. accepts

pub nurse-numbered : (journal : List ℕ) (out : ℕ) → Numbered reader_numbers (nurse_call journal out)
unfolding nurse_call within member
nurse-numbered journal out = numbered_bind _ (numbered-present (read_journal journal) 18 refl) λ J e. numbered-wider refl (nurse_of-numbered _ _ out)

pub workshop-numbered : (journal : List ℕ) (out : ℕ) → Numbered reader_numbers (workshop_call journal out)
unfolding workshop_call within member
workshop-numbered journal out = numbered_bind _ (numbered-present (read_journal journal) 18 refl) λ J e. numbered-wider refl (workshop_of-numbered _ out)

-- a reader whose tests after the form are 17 alone is refused with 18 exactly where there is no form
known : {A : Type 0} (k : Journal → Answer A) → ((J : Journal) → Numbered (17 ∷ []) (k J)) → (o : Option Journal)
    → (o ≡ none) ↔ ((present o 18 >>= k) ≡ refused 18 0)
unfolding present ◌>>=◌ member
known k s none = (λ e. refl, λ e. refl)
known k s (some J) = (λ e. absurd (none≢some (sym e)), λ e. absurd (false≢true (number (s J) e)))

pub readers_know_the_form : ReadersKnowTheForm
unfolding nurse_call workshop_call
readers_know_the_form journal out = (
  known _ (λ J. nurse_of-numbered _ _ out) (read_journal journal),
  known _ (λ J. workshop_of-numbered _ out) (read_journal journal),
)

----------------------------------------------------------------
-- Of a journal after a list of calls

-- an entry for each row
entries-rows : (P : Program) (rows : List Row) (v : Val) → length (entries_of P rows v) ≡ length rows
unfolding entries_of
entries-rows P [] v = refl
entries-rows P (row ∷ rows) v = ap suc (entries-rows P rows (carry P row v).value)

pub readers_see_the_book : ReadersSeeTheBook
unfolding journal_of
readers_see_the_book program P ws n bytes journal first lp vr op cs pr out =
    given (demand3 program P ws n bytes journal first lp vr op cs pr).held λ held. (
      λ v is h. nurse-reads _ _ out held
          ∙ ap₂ (λ v k. nurse_of v k out) is (entries-rows P book.book.rows book.book.first) ∙ nurse_of-room v _ out h,
      λ xs is h. workshop-reads _ _ out held
          ∙ workshop_of-room (journal_of P book.book).entries out (subst (λ ys. length ys ≤ out) (sym is) h) ∙ ap accepted is,
    )
  where
    book : BookRun
    book = book_run program P cs (begun first)
