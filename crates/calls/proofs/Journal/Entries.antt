-- The entries of a journal: which ones can be written, what a newest one adds, and that they are read from the fields that they are
-- written as, with zeros behind, and from no other bytes.
use Prim.Native.Nat.{ℕ, zero, suc, ◌+◌, ◌*◌, ◌≤◌, ◌<◌}
use native.Mathlib.Omega.{arith}
use mathlib.Core.Path.{◌≡◌, refl, sym, ap, ap₂, ◌∙◌, subst}
use mathlib.Core.Bool.{true}
use mathlib.Core.Option.{some}
use mathlib.Core.List.{List, [], ◌∷◌, ◌++◌, append_assoc, append-nil}
use lib.ListN.{length, replicate, length-append}
use lib.Dec.{eqb}
use package.Rattle.octets.specs.Numbers.{AreBytes}
use package.Rattle.rules.specs.Limits.{max_ancilla_bytes}
use package.Rattle.rules.proofs.Basics.{given, none≢some, some_inj, and_both, eqb-sound}
use package.Rattle.calls.specs.Values.{encode_all}
use package.Rattle.calls.specs.Journal.{Entry, entry_bytes, field, entry_tag, entry_body, entry_fields, provided, opened, read_entry, all_zero, read_entries}
use package.Rattle.calls.proofs.Journal.Fields.{there, was_there, provided_true, provided_some, length-field, opened-field, opened-sound, opened-bytes, WritableEntry, length-entry_body, entry-fits, read_entry-body, read_entry-sound}

----------------------------------------------------------------
-- Entries that can be written

pub data WritableEntries : List Entry → Type 0 where
  no_entries : WritableEntries []
  one_more : {e : Entry} {es : List Entry} → WritableEntry e → WritableEntries es → WritableEntries (e ∷ es)

pub entries_snoc : {es : List Entry} {e : Entry} → WritableEntries es → WritableEntry e → WritableEntries (es ++ (e ∷ []))
entries_snoc no_entries w = one_more w no_entries
entries_snoc (one_more v vs) w = one_more v (entries_snoc vs w)

pub entries_unsnoc : (es : List Entry) {e : Entry} → WritableEntries (es ++ (e ∷ [])) → WritableEntries es × WritableEntry e
entries_unsnoc [] (one_more w ws) = (no_entries, w)
entries_unsnoc (d ∷ es) (one_more w ws) = given (entries_unsnoc es ws) λ (older, newest). (one_more w older, newest)

----------------------------------------------------------------
-- Their fields

pub entry_fields_snoc : (es : List Entry) (e : Entry) → entry_fields (es ++ (e ∷ [])) ≡ entry_fields es ++ field entry_tag (entry_body e)
unfolding entry_fields
entry_fields_snoc [] e = append-nil (field entry_tag (entry_body e))
entry_fields_snoc (d ∷ es) e =
    ap (λ xs. field entry_tag (entry_body d) ++ xs) (entry_fields_snoc es e) ∙ sym (append_assoc (field entry_tag (entry_body d)) (entry_fields es) (field entry_tag (entry_body e)))

-- three bytes of a field, six of an entry, and the ancillae
pub length-entry : (e : Entry) → length (field entry_tag (entry_body e)) ≡ entry_bytes + length (encode_all e.ancillae)
length-entry e = omega (arith, length-field entry_tag (entry_body e), length-entry_body e)

pub length-entry_fields_snoc : (es : List Entry) (e : Entry)
    → length (entry_fields (es ++ (e ∷ []))) ≡ length (entry_fields es) + entry_bytes + length (encode_all e.ancillae)
length-entry_fields_snoc es e = ap length (entry_fields_snoc es e) ∙ length-append (entry_fields es) (field entry_tag (entry_body e)) ∙ omega (arith, length-entry e)

-- how long they are at the most
pub length-entry_fields : {es : List Entry} → WritableEntries es → length (entry_fields es) ≤ length es * (entry_bytes + max_ancilla_bytes)
unfolding entry_fields max_ancilla_bytes
length-entry_fields no_entries = omega arith
length-entry_fields (one_more {e = e} {es = es} w ws) = omega (
  arith,
  length-append (field entry_tag (entry_body e)) (entry_fields es),
  length-entry e,
  w.ancillae_within,
  length-entry_fields ws,
)

----------------------------------------------------------------
-- Zeros

all_zero-replicate : (n : ℕ) → all_zero (replicate n 0) ≡ true
unfolding all_zero
all_zero-replicate zero = refl
all_zero-replicate (suc n) = all_zero-replicate n

all_zero-sound : (xs : List ℕ) → all_zero xs ≡ true → xs ≡ replicate (length xs) 0
unfolding all_zero
all_zero-sound [] e = refl
all_zero-sound (x ∷ xs) e = given (and_both (eqb x 0) (all_zero xs) e) λ (first, rest). λ i. eqb-sound x 0 first i ∷ all_zero-sound xs rest i

----------------------------------------------------------------
-- Written, then read

read_entries-zeros : (n k : ℕ) → read_entries (suc n) (replicate k 0) ≡ some []
unfolding read_entries
read_entries-zeros n zero = refl
read_entries-zeros n (suc k) = there _ (provided_true (all_zero-replicate k)) refl

-- an entry is read off the front
read_entries-more : (n : ℕ) (e : Entry) (xs : List ℕ) {es : List Entry} → WritableEntry e → read_entries n xs ≡ some es
    → read_entries (suc n) (field entry_tag (entry_body e) ++ xs) ≡ some (e ∷ es)
unfolding read_entries field entry_tag
read_entries-more n e xs w p = there _ (opened-field entry_tag (entry_body e) xs (entry-fits e w)) (there _ (read_entry-body e w) (there _ p refl))

pub read_entries-written : (n k : ℕ) {es : List Entry} → WritableEntries es → length es < n → read_entries n (entry_fields es ++ replicate k 0) ≡ some es
unfolding entry_fields
read_entries-written zero k w h = absurd (omega arith)
read_entries-written (suc n) k no_entries h = read_entries-zeros n k
read_entries-written (suc n) k (one_more {e = e} {es = es} w ws) h =
    rw (append_assoc (field entry_tag (entry_body e)) (entry_fields es) (replicate k 0))
    (read_entries-more n e (entry_fields es ++ replicate k 0) w (read_entries-written n k ws (omega arith)))

----------------------------------------------------------------
-- Read, then written

-- bytes that are entries, fewer than `n`, and zeros behind
pub record EntriesIn (n : ℕ) (xs : List ℕ) (es : List Entry) : Type 0 where
  pub zeros : ℕ
  pub bytes : xs ≡ entry_fields es ++ replicate zeros 0
  pub writable : WritableEntries es
  pub fewer : length es < n

-- an entry's field in front
entry_in-front : {n : ℕ} {xs body rest : List ℕ} {e : Entry} {es : List Entry} → xs ≡ field entry_tag body ++ rest → body ≡ entry_body e → WritableEntry e
    → EntriesIn n rest es → EntriesIn (suc n) xs (e ∷ es)
unfolding entry_fields
entry_in-front {e = e} {es = es} whole same w i = record {
  zeros = i.zeros;
  bytes =
      whole ∙ ap₂ (λ b r. field entry_tag b ++ r) same i.bytes
      ∙ sym (append_assoc (field entry_tag (entry_body e)) (entry_fields es) (replicate i.zeros 0));
  writable = one_more w i.writable;
  fewer = omega (arith, i.fewer);
}

pub read_entries-sound : (n : ℕ) (xs : List ℕ) {es : List Entry} → AreBytes xs → read_entries n xs ≡ some es → EntriesIn n xs es
unfolding read_entries entry_fields
read_entries-sound zero xs h e = absurd (none≢some e)
read_entries-sound (suc n) [] h e = subst (EntriesIn (suc n) []) (some_inj e) (record { zeros = 0; bytes = refl; writable = no_entries; fewer = omega arith })
read_entries-sound (suc n) (zero ∷ xs) h e =
    given (was_there (provided (all_zero xs)) _ e) λ (u, zeros, last).
    subst (EntriesIn (suc n) (zero ∷ xs)) (some_inj last)
    (record { zeros = suc (length xs); bytes = ap (λ xs. 0 ∷ xs) (all_zero-sound xs (provided_some (all_zero xs) zeros)); writable = no_entries; fewer = omega arith })
read_entries-sound (suc n) (suc x ∷ xs) h e =
    given (was_there (opened entry_tag (suc x ∷ xs)) _ e) λ (f, first, next). given (was_there (read_entry f.body) _ next) λ (d, entry, further).
    given (was_there (read_entries n f.rest) _ further) λ (es, rest, last).
    given (opened-sound entry_tag (suc x ∷ xs) h first) λ whole. given (opened-bytes entry_tag (suc x ∷ xs) f.body f.rest h whole) λ (in_Body, behind).
    given (read_entry-sound f.body in_Body entry) λ (same, w).
    subst (EntriesIn (suc n) (suc x ∷ xs)) (some_inj last) (entry_in-front whole same w (read_entries-sound n f.rest behind rest))
