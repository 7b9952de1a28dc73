-- A journal in form: its bytes are what is written out of it, and what stands at each of its places.
use Prim.Native.Nat.{ℕ, ◌+◌, ◌-◌, ◌≤◌, ◌<◌}
use native.Mathlib.Omega.{arith}
use mathlib.Core.Path.{◌≡◌, refl, sym, ap, ap₂, subst, ◌∙◌}
use mathlib.Core.Option.{Option, none, some}
use mathlib.Core.List.{List, [], ◌∷◌, ◌++◌, append_assoc}
use lib.ListN.{length, take, drop, replicate, length-append, take-append-drop}
use lib.Seq.{length-take-le, take_at, drop_at, drop-drop}
use package.Rattle.octets.specs.Numbers.{get16, get32, bytes16, bytes32}
use package.Rattle.octets.proofs.Numbers.{get16-bytes16, get32-bytes32, get16-behind, get32-behind}
use package.Rattle.rules.specs.Val.{size, encode}
use package.Rattle.rules.proofs.Basics.{given}
use package.Rattle.rules.proofs.Val.{length-encode}
use package.Rattle.calls.specs.Values.{encode_all}
use package.Rattle.calls.specs.Journal.{entry_bytes, Entry, Journal, field, held_tag, entry_tag, entry_body, entry_fields, fields, write_out, read_journal}
use package.Rattle.calls.specs.Conversions.{Newest, behind, newest}
use package.Rattle.calls.proofs.Journal.Fields.{length-field, WritableEntry}
use package.Rattle.calls.proofs.Journal.Entries.{WritableEntries, entry_fields_snoc, entries_unsnoc, length-entry}
use package.Rattle.calls.proofs.Journal.Buffers.{Writable, length_fields, written_read}
use package.Rattle.calls.specs.Fields.{field_head}
use package.Rattle.journal.specs.declared.places.Places.{Places}
use package.Rattle.journal.specs.declared.parts.Standing as parts
use Rattle.std.specs.Prelude.{Option as Found, Some, None}
use package.Rattle.journal.specs.Places.{or_else, no_newest, newest_of, journal_in, places_of, survey_of, Surveyed, Stands}

----------------------------------------------------------------
-- In form

pub record Standing (pl : Places) (xs : List ℕ) (J : Journal) : Type 0 where
  pub read : read_journal xs ≡ some J
  pub places : pl ≡ places_of J
  pub bytes : xs ≡ write_out (length xs) J
  pub writable : Writable J
  pub within : length (fields J) ≤ length xs

form≢malformed : {pl : Places} → Some pl ≡ None → ⊥
form≢malformed p = let z : ◌≡◌ {A = ℕ} 0 1 = cc in omega arith

form_inj : {a b : Places} → Some a ≡ Some b → a ≡ b
form_inj p = cc

-- a survey whose answer was found out
pub surveyed_as : {xs : List ℕ} {r r' : Found Places} → Surveyed r xs → r ≡ r' → Surveyed r' xs
surveyed_as {xs} s e = subst (λ r. Surveyed r xs) e s

-- what is not in form is no journal
pub unformed : (xs : List ℕ) → Surveyed None xs → read_journal xs ≡ none
unfolding survey_of
unformed xs s = go (read_journal xs) s.answer
  where
    go : (o : Option Journal) → None ≡ survey_of o → o ≡ none
    go none p = refl
    go (some J) p = absurd (form≢malformed (sym p))

pub standing : (pl : Places) (xs : List ℕ) → Stands pl xs → Standing pl xs (journal_in xs)
unfolding survey_of
standing pl xs s = go (read_journal xs) refl
  where
    go : (o : Option Journal) → read_journal xs ≡ o → Standing pl xs (journal_in xs)
    go none e = absurd (form≢malformed (s.answer ∙ ap survey_of e))
    go (some J) e = subst (Standing pl xs) (sym (ap (or_else _) e)) (given (written_read xs s.bytes e) λ (out, w, within).
        record { read = e; places = form_inj (s.answer ∙ ap survey_of e); bytes = out; writable = w; within = within })

pub journal_in_is : (xs : List ℕ) {J : Journal} → read_journal xs ≡ some J → journal_in xs ≡ J
journal_in_is xs e = ap (or_else _) e

----------------------------------------------------------------
-- The newest conversion, and those before it

record Split (es : List Entry) : Type 0 where
  here : Newest
  is : newest es ≡ some here
  whole : es ≡ here.older ++ (here.newest ∷ [])

splits : (e : Entry) (es : List Entry) → Split (e ∷ es)
unfolding newest behind
splits e [] = record { here = record { older = []; newest = e }; is = refl; whole = refl }
splits e (d ∷ ds) = given (splits d ds) λ s.
    record { here = record { older = e ∷ s.here.older; newest = s.here.newest }; is = ap (behind e) s.is; whole = ap (λ l. e ∷ l) s.whole }

pub newest_split : (es : List Entry) → 0 < length es → es ≡ (newest_of es).older ++ ((newest_of es).newest ∷ [])
newest_split [] h = absurd (omega arith)
newest_split (e ∷ es) h = given (splits e es) λ s. s.whole ∙ ap (λ (n : Newest). n.older ++ (n.newest ∷ [])) (sym (ap (or_else no_newest) s.is))

-- none is the newest, or the one that `newest_of` gives
pub newest_none : (es : List Entry) → length es ≡ 0 → newest es ≡ none
unfolding newest
newest_none [] h = refl
newest_none (e ∷ es) h = absurd (omega arith)

pub newest_some : (es : List Entry) → 0 < length es → newest es ≡ some (newest_of es)
newest_some [] h = absurd (omega arith)
newest_some (e ∷ es) h = given (splits e es) λ s. s.is ∙ ap some (sym (ap (or_else no_newest) s.is))

-- the fields of the older ones come first
older-first : (es : List Entry) → (r : List ℕ) × (entry_fields es ≡ entry_fields (newest_of es).older ++ r)
unfolding newest entry_fields
older-first [] = ([], refl)
older-first (e ∷ es) =
    let s = newest_of (e ∷ es) in
    (field entry_tag (entry_body s.newest), ap entry_fields (newest_split (e ∷ es) (omega arith)) ∙ entry_fields_snoc s.older s.newest)

----------------------------------------------------------------
-- What stands at the places

module _ {pl : Places} {xs : List ℕ} {J : Journal} (s : Standing pl xs J) where
  zeros : List ℕ
  zeros = replicate (length xs - length (fields J)) 0

  -- the held value's field, the conversions' fields, zeros
  split : xs ≡ field held_tag (encode J.held) ++ (entry_fields J.entries ++ zeros)
  unfolding write_out fields zeros
  split = s.bytes ∙ append_assoc (field held_tag (encode J.held)) (entry_fields J.entries) zeros

  pub held_place : pl.held ≡ field_head + size J.held
  unfolding places_of
  held_place = ap (λ (p : Places). p.held) s.places

  pub count-place : pl.count ≡ length J.entries
  unfolding places_of
  count-place = ap (λ (p : Places). p.count) s.places

  pub newest-place : pl.newest ≡ pl.held + length (entry_fields (newest_of J.entries).older)
  unfolding places_of
  newest-place = ap (λ (p : Places). p.newest) s.places ∙ length_fields (record { held = J.held; entries = (newest_of J.entries).older }) ∙ omega (arith, held_place)

  pub end-place : pl.end ≡ pl.held + length (entry_fields J.entries)
  unfolding places_of
  end-place = ap (λ (p : Places). p.end) s.places ∙ length_fields J ∙ omega (arith, held_place)

  pub end-within : pl.end ≤ length xs
  end-within = omega (arith, end-place, held_place, length_fields J, s.within)

  pub newest-within : pl.newest ≤ pl.end
  newest-within = given (older-first J.entries) λ (r, e).
      omega (arith, newest-place, end-place, ap length e, length-append (entry_fields (newest_of J.entries).older) r)

  -- the places in order
  pub ranges : (field_head ≤ pl.held) × (pl.held ≤ pl.newest) × (pl.newest ≤ pl.end) × (pl.end ≤ length xs)
  ranges = (omega (arith, held_place), omega (arith, newest-place), newest-within, end-within)

  pub held_is : take (pl.held - field_head) (drop field_head xs) ≡ encode J.held
  unfolding field bytes16
  held_is =
      ap₂ (λ n l. take n (drop field_head l)) (let z : pl.held - field_head ≡ size J.held = omega (arith, held_place) in z) split
      ∙ take_at (encode J.held) (entry_fields J.entries ++ zeros) (size J.held) (length-encode J.held)

  behind-held : drop pl.held xs ≡ entry_fields J.entries ++ zeros
  behind-held =
      ap (drop pl.held) split
      ∙ drop_at (field held_tag (encode J.held)) (entry_fields J.entries ++ zeros) pl.held
      (omega (arith, held_place, length-field held_tag (encode J.held), length-encode J.held))

  -- the fields of the conversions, and of those before the newest
  pub entries_are : take (pl.end - pl.held) (drop pl.held xs) ≡ entry_fields J.entries
  entries_are =
      ap (take (pl.end - pl.held)) behind-held ∙ take_at (entry_fields J.entries) zeros (pl.end - pl.held) (omega (arith, end-place))

  pub older_are : take (pl.newest - pl.held) (drop pl.held xs) ≡ entry_fields (newest_of J.entries).older
  older_are = given (older-first J.entries) λ (r, e).
      ap (take (pl.newest - pl.held)) (behind-held ∙ ap (λ l. l ++ zeros) e ∙ append_assoc (entry_fields (newest_of J.entries).older) r zeros)
      ∙ take_at (entry_fields (newest_of J.entries).older) (r ++ zeros) (pl.newest - pl.held) (omega (arith, newest-place))

  module _ (some_stand : 0 < pl.count) where
    last : Entry
    last = (newest_of J.entries).newest

    last_split : J.entries ≡ (newest_of J.entries).older ++ (last ∷ [])
    unfolding last
    last_split = newest_split J.entries (omega (arith, count-place))

    last-writable : WritableEntry last
    last-writable = (entries_unsnoc (newest_of J.entries).older (subst WritableEntries last_split s.writable.entries_writable)).1

    pub newest-length : pl.end ≡ pl.newest + entry_bytes + length (encode_all (newest_of J.entries).newest.ancillae)
    unfolding last
    newest-length = omega (
      arith,
      end-place,
      newest-place,
      ap length (ap entry_fields last_split ∙ entry_fields_snoc (newest_of J.entries).older last),
      length-append (entry_fields (newest_of J.entries).older) (field entry_tag (entry_body last)),
      length-entry last,
    )

    pub newest-room : pl.newest + entry_bytes ≤ pl.end
    newest-room = omega (arith, newest-length)

    -- its field, and zeros behind
    behind_older : drop pl.newest xs ≡ field entry_tag (entry_body last) ++ zeros
    behind_older =
        ap (λ n. drop n xs) newest-place ∙ sym (drop-drop (length older) pl.held xs)
        ∙ ap (drop (length older)) (behind-held ∙ ap (λ l. l ++ zeros) (ap entry_fields last_split ∙ entry_fields_snoc (newest_of J.entries).older last)
        ∙ append_assoc older (field entry_tag (entry_body last)) zeros)
        ∙ drop_at older (field entry_tag (entry_body last) ++ zeros) (length older) refl
      where
        older : List ℕ
        older = entry_fields (newest_of J.entries).older

    at-newest : length (take pl.newest xs) ≡ pl.newest
    at-newest = length-take-le pl.newest xs (omega (arith, newest-within, end-within))

    pub function_is : get16 xs (pl.newest + field_head) ≡ (newest_of J.entries).newest.function
    unfolding get16 field entry_body bytes16 bytes32 last
    function_is =
        ap₂ get16 (sym (take-append-drop pl.newest xs)) (ap (λ n. n + field_head) (sym at-newest)) ∙ get16-behind (take pl.newest xs) (drop pl.newest xs) field_head
        ∙ ap (λ l. get16 l field_head) behind_older ∙ get16-bytes16 last.function (bytes32 last.steps ++ encode_all last.ancillae ++ zeros) last-writable.function_below

    pub steps_are : get32 xs (pl.newest + 5) ≡ (newest_of J.entries).newest.steps
    unfolding get32 get16 field entry_body bytes16 bytes32 last
    steps_are =
        ap₂ get32 (sym (take-append-drop pl.newest xs)) (ap (λ n. n + 5) (sym at-newest)) ∙ get32-behind (take pl.newest xs) (drop pl.newest xs) 5
        ∙ ap (λ l. get32 l 5) behind_older ∙ get32-bytes32 last.steps (encode_all last.ancillae ++ zeros) last-writable.steps_below

    pub ancillae_are : take (pl.end - (pl.newest + entry_bytes)) (drop (pl.newest + entry_bytes) xs) ≡ encode_all (newest_of J.entries).newest.ancillae
    unfolding field entry_body bytes16 bytes32 last
    ancillae_are =
        ap (take (pl.end - (pl.newest + entry_bytes))) (sym (drop-drop entry_bytes pl.newest xs) ∙ ap (drop entry_bytes) behind_older)
        ∙ take_at (encode_all last.ancillae) zeros (pl.end - (pl.newest + entry_bytes)) (omega (arith, newest-length))

----------------------------------------------------------------
-- As the code holds a journal in form

-- the places in order
pub in_order : (s : parts.Standing) → (field_head ≤ s.places.held) × (s.places.held ≤ s.places.newest) × (s.places.newest ≤ s.places.end) × (s.places.end ≤ length s.journal.now)
in_order s = ranges (standing _ _ s.in_form)

pub newest_within : (s : parts.Standing) → 0 < s.places.count → s.places.newest + entry_bytes ≤ s.places.end
newest_within s h = newest-room (standing _ _ s.in_form) h
