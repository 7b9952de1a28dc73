-- Journals in buffers: which ones can be written, how long their fields are, how they stand in a buffer and in one of another
-- length, and that they are read from what is written out, and from no other bytes.
use Prim.Native.Nat.{ℕ, zero, suc, ◌+◌, ◌-◌, ◌≤◌, min}
use native.Mathlib.Omega.{arith}
use native.Mathlib.Nat.{zero-min, min-zero, suc-min-suc}
use mathlib.Core.Path.{◌≡◌, refl, sym, ap, ap₂, ◌∙◌, subst}
use mathlib.Core.Bool.{true}
use mathlib.Core.Option.{some}
use mathlib.Core.List.{List, [], ◌∷◌, ◌++◌, append_assoc}
use lib.ListN.{length, take, replicate, length-append, length-take, length-replicate, replicate-append-replicate}
use lib.Seq.{take-append-add}
use package.Rattle.octets.specs.Numbers.{AreBytes}
use package.Rattle.rules.specs.Limits.{fits, max_conversions}
use package.Rattle.rules.specs.Val.{Val, size, encode}
use package.Rattle.rules.proofs.Basics.{given, some_inj}
use package.Rattle.rules.proofs.Val.{length-encode}
use package.Rattle.calls.specs.Values.{value, encode_all}
use package.Rattle.calls.specs.Fields.{field_head}
use package.Rattle.calls.specs.Journal.{Entry, Journal, field, held_tag, entry_tag, entry_body, entry_fields, fields, write_out, opened, read_entries, read_journal}
use package.Rattle.calls.specs.Book.{resized}
use package.Rattle.calls.specs.Claims.{last_field}
use package.Rattle.calls.proofs.Values.{value-encode, value-sound}
use package.Rattle.calls.proofs.Journal.Fields.{there, was_there, fits_below, length-field, opened-field, opened-sound, opened-bytes}
use package.Rattle.calls.proofs.Journal.Entries.{WritableEntries, entry_fields_snoc, length-entry_fields_snoc, read_entries-written, read_entries-sound}

-- a journal that can be written
pub record Writable (J : Journal) : Type 0 where
  pub held_fits : fits J.held ≡ true
  pub entries_writable : WritableEntries J.entries
  pub entries_few : length J.entries ≤ max_conversions

----------------------------------------------------------------
-- Fields

pub length_fields : (J : Journal) → length (fields J) ≡ field_head + size J.held + length (entry_fields J.entries)
unfolding fields
length_fields J =
    length-append (field held_tag (encode J.held)) (entry_fields J.entries)
    ∙ omega (arith, length-field held_tag (encode J.held), length-encode J.held)

-- a newest entry's field stands behind the others
pub fields_snoc : (v : Val) (es : List Entry) (e : Entry)
    → fields (record { held = v; entries = es ++ (e ∷ []) }) ≡ field held_tag (encode v) ++ entry_fields es ++ field entry_tag (entry_body e)
unfolding fields
fields_snoc v es e =
    ap (λ xs. field held_tag (encode v) ++ xs) (entry_fields_snoc es e) ∙ sym (append_assoc (field held_tag (encode v)) (entry_fields es) (field entry_tag (entry_body e)))

pub length-fields_snoc : (v : Val) (es : List Entry) (e : Entry)
    → length (fields (record { held = v; entries = es ++ (e ∷ []) })) ≡ 12 + size v + length (entry_fields es) + length (encode_all e.ancillae)
length-fields_snoc v es e = length_fields (record { held = v; entries = es ++ (e ∷ []) }) ∙ omega (arith, length-entry_fields_snoc es e)

----------------------------------------------------------------
-- In a buffer

length-filled : (xs : List ℕ) (n : ℕ) → length (xs ++ replicate n 0) ≡ length xs + n
length-filled xs n = rw (length-append xs (replicate n 0), length-replicate {A = ℕ} n 0)

more-zeros : (xs : List ℕ) (n m k : ℕ) → n + m ≡ k → xs ++ replicate n 0 ++ replicate m 0 ≡ xs ++ replicate k 0
more-zeros xs n m k e = rw (append_assoc xs (replicate n 0) (replicate m 0), replicate-append-replicate {A = ℕ} n m 0, e)

take-zeros : (n m : ℕ) → take n (replicate m 0) ≡ replicate {A = ℕ} (min n m) 0
take-zeros zero m = ap (λ k. replicate k 0) (sym (zero-min m))
take-zeros (suc n) zero = ap (λ k. replicate k 0) (sym (min-zero (suc n)))
take-zeros (suc n) (suc m) = ap (λ xs. 0 ∷ xs) (take-zeros n m) ∙ ap (λ k. replicate k 0) (sym (suc-min-suc n m))

-- the first `n` bytes, of a list that has no more before its zeros
take-filled : (n m : ℕ) (xs : List ℕ) → length xs ≤ n → take n (xs ++ replicate m 0) ≡ xs ++ replicate (min (n - length xs) m) 0
take-filled n m xs h =
    ap (λ k. take k (xs ++ replicate m 0)) within ∙ take-append-add xs (replicate m 0) (n - length xs) ∙ ap (λ zs. xs ++ zs) (take-zeros (n - length xs) m)
  where
    within : n ≡ length xs + (n - length xs)
    within = omega arith

pub length-write_out : (n : ℕ) (J : Journal) → length (fields J) ≤ n → length (write_out n J) ≡ n
unfolding write_out
length-write_out n J h = length-filled (fields J) (n - length (fields J)) ∙ omega arith

-- a longer buffer has more zeros behind
pub written-longer : (n m : ℕ) (J : Journal) → length (fields J) ≤ n → n ≤ m → write_out m J ≡ write_out n J ++ replicate (m - n) 0
unfolding write_out
written-longer n m J h k = sym (more-zeros (fields J) (n - length (fields J)) (m - n) (m - length (fields J)) (omega arith))

pub resized-length : (n : ℕ) (xs : List ℕ) → length (resized n xs) ≡ n
unfolding resized
resized-length n xs = length-filled (take n xs) (n - length xs) ∙ omega (arith, length-take n xs)

pub resized-written : (n m : ℕ) (J : Journal) → length (fields J) ≤ n → length (fields J) ≤ m → resized n (write_out m J) ≡ write_out n J
unfolding resized write_out
resized-written n m J h k =
    ap₂ (λ xs j. xs ++ replicate (n - j) 0) (take-filled n (m - length (fields J)) (fields J) h) (length-write_out m J k)
    ∙ more-zeros (fields J) (min (n - length (fields J)) (m - length (fields J))) (n - m) (n - length (fields J)) (omega arith)

----------------------------------------------------------------
-- Written, then read

pub read-written : (n : ℕ) (J : Journal) → Writable J → length (fields J) ≤ n → read_journal (write_out n J) ≡ some J
unfolding read_journal write_out fields
read-written n J w h =
    rw (append_assoc (field held_tag (encode J.held)) (entry_fields J.entries) (replicate (n - length (fields J)) 0))
    (there _ (opened-field held_tag (encode J.held) _ (omega (arith, length-encode J.held, fits_below J.held w.held_fits)))
    (there _ (value-encode J.held w.held_fits)
    (there _ (read_entries-written (suc max_conversions) (n - length (fields J)) w.entries_writable (omega (arith, w.entries_few))) refl)))

pub last_field-written : (n : ℕ) (J : Journal) → Writable J → length (fields J) ≤ n → last_field (write_out n J) ≡ length (fields J)
unfolding last_field
last_field-written n J w h = rw (read-written n J w h, last_field)

----------------------------------------------------------------
-- Read, then written

-- fields and zeros are what is written out to the end
filled-out : (k : ℕ) (xs : List ℕ) (J : Journal) → xs ≡ fields J ++ replicate k 0 → (xs ≡ write_out (length xs) J) × (length (fields J) ≤ length xs)
unfolding write_out
filled-out k xs J e = (e ∙ ap (λ j. fields J ++ replicate j 0) behind, omega (arith, long))
  where
    long : length xs ≡ length (fields J) + k
    long = ap length e ∙ length-filled (fields J) k

    behind : k ≡ length xs - length (fields J)
    behind = omega (arith, long)

pub written_read : (xs : List ℕ) {J : Journal} → AreBytes xs → read_journal xs ≡ some J
    → (xs ≡ write_out (length xs) J) × Writable J × (length (fields J) ≤ length xs)
unfolding read_journal fields
written_read xs h e =
    given (was_there (opened held_tag xs) _ e) λ (f, first, next). given (was_there (value f.body) _ next) λ (v, held, further).
    given (was_there (read_entries (suc max_conversions) f.rest) _ further) λ (es, rest, last).
    given (opened-sound held_tag xs h first) λ whole. given (opened-bytes held_tag xs f.body f.rest h whole) λ (in_Body, behind).
    given (value-sound f.body held) λ (same, fitting). given (read_entries-sound (suc max_conversions) f.rest behind rest) λ i.
    given (filled-out i.zeros xs (record { held = v; entries = es })
    (whole ∙ ap₂ (λ b r. field held_tag b ++ r) same i.bytes ∙ sym (append_assoc (field held_tag (encode v)) (entry_fields es) (replicate i.zeros 0)))) λ (out, within).
    subst (λ J. (xs ≡ write_out (length xs) J) × Writable J × (length (fields J) ≤ length xs)) (some_inj last)
    (out, record { held_fits = fitting; entries_writable = i.writable; entries_few = omega (arith, i.fewer) }, within)
