-- What a reader answers of a journal, and what it leaves in its output: malformed, in form and too long for the output, in form and written.
use Prim.Native.Nat.{ℕ, ◌≤◌, ◌<◌}
use native.Mathlib.Omega.{arith}
use mathlib.Core.Path.{◌≡◌, sym, ap, subst, ◌∙◌}
use mathlib.Core.Option.{some}
use Rattle.std.specs.Prelude.{Option, Some, None, Result, Ok, Err}
use Rattle.std.specs.Option.{ok_or}
use mathlib.Core.List.{List}
use lib.ListN.{length}
use package.Rattle.octets.specs.Runs.{pasted}
use package.Rattle.rules.specs.Val.{size, encode}
use package.Rattle.rules.proofs.Val.{length-encode}
use package.Rattle.calls.specs.Answer.{accepted, refused, ◌>>=◌, bytes_written, overwritten}
use package.Rattle.calls.specs.Journal.{entry_fields, read_journal}
use package.Rattle.calls.specs.Readers.{nurse_call, workshop_call, held_bytes}
use package.Rattle.calls.proofs.Answer.{stops, present_none, overwritten-pasted}
use package.Rattle.calls.proofs.Journal.Fields.{fits_below}
use package.Rattle.calls.proofs.Readers.{nurse_sees_the_held, workshop_sees_the_entries}
use package.Rattle.answers.specs.declared.Refusal.{Refusal}
use package.Rattle.answers.specs.declared.Refusal.TheVariants.{Output, Journal}
use package.Rattle.answers.specs.declared.Shown.{Shown}
use package.Rattle.readers.specs.Reading.{FormTested, Filled}
use package.Rattle.answers.specs.Answers.{number_of, place_of, nurse_answer, write_answer, seen_answer, length_answer}
use package.Rattle.journal.specs.declared.places.Places.{Places}
use package.Rattle.journal.specs.declared.parts.Standing.{Standing}
use package.Rattle.journal.specs.Places.{Surveyed, Stands, journal_in}
use package.Rattle.journal.proofs.Stands.{standing, count-place, unformed}
use package.Rattle.rules.specs.Limits.{max_conversions}

in_form : (journal : List ℕ) {pl : Places} → Stands pl journal → read_journal journal ≡ some (journal_in journal)
in_form journal {pl} s = (standing pl journal s).read

----------------------------------------------------------------
-- The nurse's reader

-- what was read stands there
pub stands_in : (s : Standing) {journal : List ℕ} → s.journal.now ≡ journal → Stands s.places journal
stands_in s e = subst (Stands s.places) e s.in_form

-- what has no form is no journal
pub not_read : {journal : List ℕ} (o : Option Places) → Surveyed o journal → {e : Refusal} → ok_or o Journal ≡ Err e
    → {r : Result Standing Refusal} → r ≡ Err e → FormTested r journal
not_read (Some pl) S is w = cc
not_read {journal} None S {e} is w = let same : e ≡ Journal = cc in rw w (same, unformed journal S)

-- the answer and the output afterwards, which the contract speaks of
abbrev pub Nursed : Result Shown Refusal → List ℕ → List ℕ → List ℕ → Type 0
Nursed r journal out out' =
    (nurse_answer r ≡ seen_answer (nurse_call journal (length out))) × (out' ≡ overwritten (held_bytes (nurse_call journal (length out))) out)

module _ (journal out : List ℕ) where
  nurse-refused : (r : Refusal) → nurse_call journal (length out) ≡ refused (number_of r) (place_of r) → Nursed (Err r) journal out out
  unfolding overwritten bytes_written held_bytes ◌>>=◌
  nurse-refused r e = (ap seen_answer (sym e), ap (λ x. overwritten (held_bytes x) out) (sym e))

  pub nurse_malformed : {r : Result Shown Refusal} {e : Refusal} → r ≡ Err e → FormTested (Err e) journal → Nursed r journal out out
  unfolding nurse_call
  nurse_malformed w (is, absent) = rw w (rw is (nurse-refused Journal (stops _ (present_none 18 absent))))

  module _ {pl : Places} (s : Stands pl journal) {held : List ℕ} (is : held ≡ encode (journal_in journal).held) where
    held-long : length held ≡ size (journal_in journal).held
    held-long = ap length is ∙ length-encode (journal_in journal).held

    pub nurse_short : {r : Result Shown Refusal} {e : Refusal} {out' : List ℕ} → r ≡ Err e → Filled (Err e) held out out' → Nursed r journal out out'
    nurse_short w (is, l, same) = rw w (rw is (rw same (nurse-refused Output
        ((nurse_sees_the_held journal (journal_in journal) (length out) (in_form journal s)).1 (omega (arith, held-long))).0)))

    shown : length held ≤ length out → nurse_call journal (length out) ≡ accepted (record { held = (journal_in journal).held; standing = pl.count })
    shown l = ((nurse_sees_the_held journal (journal_in journal) (length out) (in_form journal s)).0 (omega (arith, held-long))).0
        ∙ ap (λ n. accepted (record { held = (journal_in journal).held; standing = n })) (sym (count-place (standing pl journal s)))

    pub nurse-shown : {n : ℕ} {out' : List ℕ} → Filled (Ok n) held out out' → Nursed (Ok (record { len = n; standing = pl.count })) journal out out'
    unfolding held_bytes ◌>>=◌
    nurse-shown (long, l, e) = (
      ap (λ n. accepted (n, pl.count)) (long ∙ held-long) ∙ ap seen_answer (sym (shown l)),
      e ∙ ap (pasted out 0) is ∙ overwritten-pasted out (encode (journal_in journal).held) ∙ ap (λ x. overwritten (held_bytes x) out) (sym (shown l)),
    )

    -- both numbers are of two bytes
    pub length-narrow : length held < 65536
    length-narrow = omega (arith, held-long, fits_below (journal_in journal).held (standing pl journal s).writable.held_fits)

  pub count-narrow : {pl : Places} → Stands pl journal → pl.count < 65536
  unfolding max_conversions
  count-narrow {pl} s = omega (arith, count-place (standing pl journal s), (standing pl journal s).writable.entries_few)

----------------------------------------------------------------
-- The workshop's reader

abbrev pub Listed : Result ℕ Refusal → List ℕ → List ℕ → List ℕ → Type 0
Listed r journal out out' =
    (write_answer r ≡ length_answer (workshop_call journal (length out))) × (out' ≡ overwritten (workshop_call journal (length out)) out)

module _ (journal out : List ℕ) where
  workshop-refused : (r : Refusal) → workshop_call journal (length out) ≡ refused (number_of r) (place_of r) → Listed (Err r) journal out out
  unfolding overwritten bytes_written
  workshop-refused r e = (ap length_answer (sym e), ap (λ x. overwritten x out) (sym e))

  pub workshop_malformed : {r : Result ℕ Refusal} {e : Refusal} → r ≡ Err e → FormTested (Err e) journal → Listed r journal out out
  unfolding workshop_call
  workshop_malformed w (is, absent) = rw w (rw is (workshop-refused Journal (stops _ (present_none 18 absent))))

  module _ {pl : Places} (s : Stands pl journal) {fields : List ℕ} (is : fields ≡ entry_fields (journal_in journal).entries) where
    workshop_short : length out < length fields → Listed (Err Output) journal out out
    workshop_short l = workshop-refused Output
        ((workshop_sees_the_entries journal (journal_in journal) (length out) (in_form journal s)).1 (omega (arith, ap length is))).0

    listed : length fields ≤ length out → workshop_call journal (length out) ≡ accepted fields
    listed l = (workshop_sees_the_entries journal (journal_in journal) (length out) (in_form journal s)).0 (omega (arith, ap length is)) ∙ ap accepted (sym is)

    pub workshop-filled : (r : Result ℕ Refusal) {out' : List ℕ} → Filled r fields out out' → Listed r journal out out'
    workshop-filled (Ok n) (long, l, e) = (
      ap accepted long ∙ ap length_answer (sym (listed l)),
      e ∙ overwritten-pasted out fields ∙ ap (λ x. overwritten x out) (sym (listed l)),
    )
    workshop-filled (Err r) (why, l, same) = rw why (rw same (workshop_short l))
