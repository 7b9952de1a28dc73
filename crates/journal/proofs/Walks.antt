-- The walk over a journal's fields: what was read so far and what is left agree with reading them all. One law for each way that the
-- walk starts, goes on and ends.
use Prim.Native.Nat.{ℕ, zero, suc, ◌+◌, ◌-◌, ◌≤◌, ◌<◌}
use native.Mathlib.Decide.{dec_lt}
use native.Mathlib.Omega.{arith}
use mathlib.Core.Path.{◌≡◌, refl, sym, ap, ap₂, ◌∙◌}
use mathlib.Core.Bool.{Bool, true, false, false≢true}
use mathlib.Core.Option.{Option, none, some}
use mathlib.Core.List.{List, [], ◌∷◌, ◌++◌, append_assoc, append-nil}
use lib.ListN.{length, get_or, drop, length-append, length-drop, drop_of_length-le}
use lib.Seq.{drop-cons, get_or-drop}
use package.Rattle.octets.specs.Numbers.{AreBytes}
use package.Rattle.rules.specs.Limits.{max_conversions}
use package.Rattle.rules.specs.Val.{Val, size}
use package.Rattle.rules.proofs.Basics.{given, none≢some, some_inj, and_both, eqb-sound}
use package.Rattle.rules.proofs.Val.{length-encode}
use package.Rattle.calls.specs.Values.{value, encode_all}
use package.Rattle.calls.specs.Journal.{entry_bytes, Entry, Journal, field, held_tag, entry_tag, entry_fields, fields, Opened, opened, read_entry, all_zero, read_entries, read_journal, provided, ◌>>=◌}
use package.Rattle.calls.specs.Conversions.{Newest, newest}
use package.Rattle.calls.proofs.Values.{value-sound}
use package.Rattle.calls.proofs.Journal.Fields.{there, was_there, length-entry_body, read_entry-sound, opened-bytes}
use package.Rattle.calls.proofs.Journal.Buffers.{length_fields, length-fields_snoc}
use package.Rattle.calls.proofs.Book.Rows.{newest_snoc}
use package.Rattle.calls.specs.Fields.{field_head}
use Rattle.std.specs.Prelude.{Some, None}
use package.Rattle.journal.specs.Places.{or_else, no_newest, held_field, entry_field, end_of, newest_of, places_of, survey_of, Surveyed}
use package.Rattle.journal.proofs.Ends.{not_here, is_here, here, here_rest, here-within, bytes_from}

----------------------------------------------------------------
-- Options

-- what is there with a test, and is none, is none with more behind it
tested_none : {X Y : Type 0} (o : Option Opened) (g : Opened → Option X) (k : Opened → X → Option Y) → (o >>= λ f. g f >>= λ x. some f) ≡ none → (o >>= λ f. g f >>= k f) ≡ none
unfolding ◌>>=◌
tested_none none g k e = refl
tested_none (some f) g k e = go (g f) e
  where
    go : (r : Option _) → (r >>= λ x. some f) ≡ none → (r >>= k f) ≡ none
    go none e = refl
    go (some x) e = absurd (none≢some (sym e))

-- a journal that was read
abbrev said : Val → List Entry → Option Journal
said v es = some (record { held = v; entries = es })

-- one more in front of what is left
more_left : (v : Val) (es : List Entry) (e : Entry) (r : Option (List Entry))
    → ((r >>= λ ds. some (e ∷ ds)) >>= λ ds. said v (es ++ ds)) ≡ (r >>= λ ds. said v (es ++ (e ∷ []) ++ ds))
unfolding ◌>>=◌
more_left v es e none = refl
more_left v es e (some ds) = ap (λ ds. said v ds) (sym (append_assoc es (e ∷ []) ds))

----------------------------------------------------------------
-- Reading one entry more

-- the next byte is not zero
read_entries-next : (n : ℕ) (ys : List ℕ) → (get_or ys 0 0 ≡ 0 → ⊥)
    → read_entries (suc n) ys ≡ (opened entry_tag ys >>= λ f. read_entry f.body >>= λ e. read_entries n f.rest >>= λ es. some (e ∷ es))
unfolding read_entries
read_entries-next n [] d = absurd (d refl)
read_entries-next n (zero ∷ ys) d = absurd (d refl)
read_entries-next n (suc y ∷ ys) d = refl

-- or it is
read_entries-zero : (n : ℕ) (ys : List ℕ) → 0 < length ys → get_or ys 0 0 ≡ 0 → read_entries (suc n) ys ≡ (provided (all_zero ys) >>= λ u. some [])
unfolding read_entries all_zero
read_entries-zero n [] h e = absurd (omega arith)
read_entries-zero n (zero ∷ ys) h e = refl
read_entries-zero n (suc y ∷ ys) h e = absurd (omega arith)

read_entries-end : (n : ℕ) → read_entries (suc n) [] ≡ some []
unfolding read_entries
read_entries-end n = refl

read_entries-over : (ys : List ℕ) → read_entries 0 ys ≡ none
unfolding read_entries
read_entries-over ys = refl

-- the held value, and what is behind its field
pub record HeldRead (xs : List ℕ) (held : ℕ) : Type 0 where
  pub value : Val
  pub read : read_journal xs ≡ (read_entries (suc max_conversions) (drop held xs) >>= λ es. said value es)
  pub place : held ≡ field_head + size value
  pub inside : held ≤ length xs

held-read : (xs : List ℕ) (held : ℕ) → AreBytes xs → Some held ≡ end_of 0 (held_field xs) → HeldRead xs held
unfolding held_field read_journal end_of
held-read xs held h p =
    given (is_here 0 held (held_field xs) p) λ (f, is, place). given (was_there (opened held_tag xs) _ is) λ (f', first, next).
    given (was_there (value f'.body) _ next) λ (v, second, last).
    given (here held_tag 0 held xs h (ap Some place ∙ sym (ap (end_of 0) (first ∙ last)))) λ q.
    record {
      value = v;
      read = there _ first (there _ second (ap (λ r. read_entries (suc max_conversions) r >>= λ es. said v es) (ap (λ f. f.rest) (some_inj (sym first ∙ q.is)) ∙ here_rest q)));
      place = omega (arith, place, ap (λ f. length f.body) (some_inj last), ap length (value-sound f'.body second).0, length-encode v);
      inside = (here-within q).1;
    }

-- an entry, and what is behind its field
pub record EntryRead (xs : List ℕ) (end next : ℕ) : Type 0 where
  pub entry : Entry
  pub read : (n : ℕ) → (get_or xs end 0 ≡ 0 → ⊥) → read_entries (suc n) (drop end xs) ≡ (read_entries n (drop next xs) >>= λ es. some (entry ∷ es))
  pub place : next ≡ end + entry_bytes + length (encode_all entry.ancillae)
  pub inside : next ≤ length xs

-- the first byte behind a place
byte_at : (xs : List ℕ) (end : ℕ) → get_or (drop end xs) 0 0 ≡ get_or xs end 0
byte_at xs end = get_or-drop end xs 0 0 ∙ ap (λ n. get_or xs n 0) (let z : end + 0 ≡ end = omega arith in z)

entry_read : (xs : List ℕ) (end next : ℕ) → AreBytes xs → Some next ≡ end_of end (entry_field (drop end xs)) → EntryRead xs end next
unfolding entry_field end_of
entry_read xs end next h p =
    given (is_here end next (entry_field (drop end xs)) p) λ (f, is, place). given (was_there (opened entry_tag (drop end xs)) _ is) λ (f', first, behind).
    given (was_there (read_entry f'.body) _ behind) λ (e, second, last).
    given (here entry_tag end next xs h (ap Some place ∙ sym (ap (end_of end) (first ∙ last)))) λ q.
    given (opened-bytes entry_tag (drop end xs) q.field.body q.field.rest (bytes_from xs end h) q.bytes) λ (in_Body, in_rest).
    given (read_entry-sound q.field.body in_Body (ap (λ f. read_entry f.body) (some_inj (sym q.is ∙ first)) ∙ second)) λ (same, w).
    record {
      entry = e;
      read = λ n d. read_entries-next n (drop end xs) (λ z. d (sym (byte_at xs end) ∙ z))
          ∙ there _ first (there _ second (ap (λ r. read_entries n r >>= λ es. some (e ∷ es)) (ap (λ f. f.rest) (some_inj (sym first ∙ q.is)) ∙ here_rest q)));
      place = omega (arith, q.place, ap length same, length-entry_body e);
      inside = (here-within q).1;
    }

----------------------------------------------------------------
-- The walk

pub newest_of_snoc : (es : List Entry) (e : Entry) → newest_of (es ++ (e ∷ [])) ≡ record { older = es; newest = e }
newest_of_snoc es e = ap (or_else no_newest) (newest_snoc es e)

-- What was read so far: the held value and the entries, the field of the newest at `newest`. The bytes from `end` on are left.
pub record Walk (xs : List ℕ) (held end newest count : ℕ) : Type 0 where
  pub value : Val
  pub entries : List Entry
  pub left : read_journal xs ≡ (read_entries (suc max_conversions - count) (drop end xs) >>= λ es. said value (entries ++ es))
  pub head : held ≡ field_head + size value
  pub counted : count ≡ length entries
  pub few : count ≤ max_conversions
  pub last : newest ≡ length (fields (record { held = value; entries = (newest_of entries).older }))
  pub place : end ≡ length (fields (record { held = value; entries = entries }))
  pub inside : end ≤ length xs

pub walk_none : (xs : List ℕ) → AreBytes xs → None ≡ end_of 0 (held_field xs) → Surveyed None xs
unfolding held_field read_journal survey_of
walk_none xs h p = record {
  answer = ap survey_of (sym (tested_none (opened held_tag xs) (λ f. value f.body) _ (not_here 0 (held_field xs) p)));
  bytes = h;
}

walk_starts : (xs : List ℕ) (held : ℕ) → AreBytes xs → Some held ≡ end_of 0 (held_field xs) → Walk xs held held held 0
unfolding newest entry_fields
walk_starts xs held h p = given (held-read xs held h p) λ r.
    let fields_are : held ≡ length (fields (record { held = r.value; entries = [] })) = omega (arith, r.place, length_fields (record { held = r.value; entries = [] })) in
    record {
      value = r.value;
      entries = [];
      left = r.read ∙ ap (λ n. read_entries n (drop held xs) >>= λ es. said r.value es) (let z : suc max_conversions ≡ suc max_conversions - 0 = omega arith in z);
      head = r.place;
      counted = refl;
      few = omega arith;
      last = fields_are;
      place = fields_are;
      inside = r.inside;
    }

module _ {xs : List ℕ} {held end newest count : ℕ} (h : AreBytes xs) (w : Walk xs held end newest count) where
  -- no journal is read
  unread : read_entries (suc max_conversions - count) (drop end xs) ≡ none → Surveyed None xs
  unfolding survey_of ◌>>=◌
  unread e = record { answer = ap survey_of (sym (w.left ∙ ap (λ r. r >>= λ es. said w.value (w.entries ++ es)) e)); bytes = h }

  -- the journal is read, and its fields stand so
  formed : read_entries (suc max_conversions - count) (drop end xs) ≡ some [] → Surveyed (Some (record { held = held; count = count; newest = newest; end = end })) xs
  unfolding survey_of places_of ◌>>=◌
  formed e = record {
    answer =
        ap Some (λ i. record { held = w.head i; count = w.counted i; newest = w.last i; end = w.place i })
        ∙ ap survey_of (sym (w.left ∙ ap (λ r. r >>= λ es. said w.value (w.entries ++ es)) e ∙ ap (λ es. said w.value es) (append-nil w.entries)));
    bytes = h;
  }

  one_more : suc max_conversions - count ≡ suc (max_conversions - count)
  one_more = omega (arith, w.few)

  walk_ends : length xs ≤ end → Surveyed (Some (record { held = held; count = count; newest = newest; end = end })) xs
  walk_ends l = formed (ap₂ read_entries one_more (drop_of_length-le xs l) ∙ read_entries-end (max_conversions - count))

  module _ (l : end < length xs) where
    behind-zero : get_or xs end 0 ≡ 0 → (b : Bool) → b ≡ all_zero (drop end xs) → read_entries (suc max_conversions - count) (drop end xs) ≡ (provided b >>= λ u. some [])
    behind-zero e b z =
        ap (λ n. read_entries n (drop end xs)) one_more ∙ read_entries-zero (max_conversions - count) (drop end xs) (omega (arith, length-drop end xs)) (byte_at xs end ∙ e)
        ∙ ap (λ b. provided b >>= λ u. some []) (sym z)

    walk_zeros : get_or xs end 0 ≡ 0 → (b : Bool) → b ≡ all_zero (drop end xs) → b ≡ true
        → Surveyed (Some (record { held = held; count = count; newest = newest; end = end })) xs
    unfolding provided ◌>>=◌
    walk_zeros e b z t = formed (behind-zero e b z ∙ ap (λ b. provided b >>= λ u. some []) t)

    walk_dirty : get_or xs end 0 ≡ 0 → (b : Bool) → b ≡ all_zero (drop end xs) → b ≡ false → Surveyed None xs
    unfolding provided ◌>>=◌
    walk_dirty e b z t = unread (behind-zero e b z ∙ ap (λ b. provided b >>= λ u. some []) t)

    module _ (d : get_or xs end 0 ≡ 0 → ⊥) where
      next : (n : ℕ) → read_entries (suc n) (drop end xs)
          ≡ (opened entry_tag (drop end xs) >>= λ f. read_entry f.body >>= λ e. read_entries n f.rest >>= λ es. some (e ∷ es))
      next n = read_entries-next n (drop end xs) (λ z. d (sym (byte_at xs end) ∙ z))

      walk_stops : None ≡ end_of end (entry_field (drop end xs)) → Surveyed None xs
      unfolding entry_field
      walk_stops p = unread (ap (λ n. read_entries n (drop end xs)) one_more ∙ next (max_conversions - count)
          ∙ tested_none (opened entry_tag (drop end xs)) (λ f. read_entry f.body) _ (not_here end (entry_field (drop end xs)) p))

      walk_full : max_conversions ≤ count → Surveyed None xs
      unfolding ◌>>=◌
      walk_full m = unread (ap (λ n. read_entries n (drop end xs)) (let z : suc max_conversions - count ≡ suc 0 = omega (arith, w.few) in z) ∙ next 0 ∙ go (opened entry_tag (drop end xs)))
        where
          go : (o : Option Opened) → (o >>= λ f. read_entry f.body >>= λ e. read_entries 0 f.rest >>= λ es. some (e ∷ es)) ≡ none
          go none = refl
          go (some f) = further (read_entry f.body)
            where
              further : (r : Option Entry) → (r >>= λ e. read_entries 0 f.rest >>= λ es. some (e ∷ es)) ≡ none
              further none = refl
              further (some e) = ap (λ r. r >>= λ es. some (e ∷ es)) (read_entries-over f.rest)

      walk_more : (to : ℕ) → count < max_conversions → Some to ≡ end_of end (entry_field (drop end xs)) → Walk xs held to end (count + 1)
      walk_more to m p = given (entry_read xs end to h p) λ r.
          record {
            value = w.value;
            entries = w.entries ++ (r.entry ∷ []);
            left =
                w.left
                ∙ ap (λ r. r >>= λ es. said w.value (w.entries ++ es))
                (ap (λ n. read_entries n (drop end xs)) (let z : suc max_conversions - count ≡ suc (suc max_conversions - (count + 1)) = omega (arith, m) in z)
                ∙ r.read (suc max_conversions - (count + 1)) d)
                ∙ more_left w.value w.entries r.entry (read_entries (suc max_conversions - (count + 1)) (drop to xs));
            head = w.head;
            counted = omega (arith, w.counted, length-append w.entries (r.entry ∷ []));
            few = omega (arith, m);
            last = w.place ∙ ap (λ (s : Newest). length (fields (record { held = w.value; entries = s.older }))) (sym (newest_of_snoc w.entries r.entry));
            place = omega (
              arith,
              r.place,
              w.place,
              length_fields (record { held = w.value; entries = w.entries }),
              length-fields_snoc w.value w.entries r.entry,
            );
            inside = r.inside;
          }

----------------------------------------------------------------
-- One turn of the walk

-- no field begins with a zero
marked : (xs : List ℕ) (end to : ℕ) → AreBytes xs → Some to ≡ end_of end (entry_field (drop end xs)) → get_or xs end 0 ≡ 0 → ⊥
unfolding entry_field end_of field entry_tag
marked xs end to h p z =
    given (is_here end to (entry_field (drop end xs)) p) λ (f, is, place). given (was_there (opened entry_tag (drop end xs)) _ is) λ (f', first, behind).
    given (was_there (read_entry f'.body) _ behind) λ (e, second, last).
    given (here entry_tag end to xs h (ap Some place ∙ sym (ap (end_of end) (first ∙ last)))) λ q.
    let tag : get_or (drop end xs) 0 0 ≡ entry_tag = ap (λ l. get_or l 0 0) q.bytes in
    absurd (omega (arith, tag, byte_at xs end, z))

zero-front : (xs : List ℕ) (end : ℕ) → end < length xs → all_zero (drop end xs) ≡ true → get_or xs end 0 ≡ 0
unfolding all_zero
zero-front xs end l z = eqb-sound _ 0 (and_both _ _ (sym (ap all_zero (drop-cons xs end 0 l)) ∙ z)).0

ends-zero : (xs : List ℕ) (end : ℕ) → length xs ≤ end → all_zero (drop end xs) ≡ true
unfolding all_zero
ends-zero xs end l = ap all_zero (drop_of_length-le xs l)

-- what the walk has at each count, and behind the most that may stand
pub record Turn (xs : List ℕ) (held end newest count : ℕ) : Type 0 where
  pub walk : count ≤ max_conversions → Walk xs held end newest count
  pub inside : end ≤ length xs
  pub over : max_conversions < count → Surveyed None xs

pub turn_starts : (xs : List ℕ) (held : ℕ) → AreBytes xs → Some held ≡ end_of 0 (held_field xs) → Turn xs held held held 0
turn_starts xs held h p = given (walk_starts xs held h p) λ w. record { walk = λ l. w; inside = w.inside; over = λ l. absurd (omega arith) }

module _ {xs : List ℕ} {held end newest count : ℕ} (h : AreBytes xs) (few : count < max_conversions + 1) (t : Turn xs held end newest count) (b : Bool)
    (z : b ≡ all_zero (drop end xs)) where
  walk : Walk xs held end newest count
  walk = t.walk (omega arith)

  pub turn_closes : b ≡ true → Surveyed (Some (record { held = held; count = count; newest = newest; end = end })) xs
  turn_closes y = go (dec_lt end (length xs))
    where
      go : Dec (end < length xs) → Surveyed (Some (record { held = held; count = count; newest = newest; end = end })) xs
      go (yes l) = walk_zeros h walk l (zero-front xs end l (sym z ∙ y)) b z y
      go (no l) = walk_ends h walk (omega arith)

  module _ (n : b ≡ false) where
    left : end < length xs
    left = go (dec_lt end (length xs))
      where
        go : Dec (end < length xs) → end < length xs
        go (yes l) = l
        go (no l) = absurd (false≢true (sym n ∙ z ∙ ends-zero xs end (omega arith)))

    pub turn_breaks : None ≡ end_of end (entry_field (drop end xs)) → Surveyed None xs
    turn_breaks p = go (get_or xs end 0) refl
      where
        go : (x : ℕ) → get_or xs end 0 ≡ x → Surveyed None xs
        go zero e = walk_dirty h walk left e b z n
        go (suc x) e = walk_stops h walk left (λ d. absurd (omega arith)) p

    pub turn_more : (to : ℕ) → Some to ≡ end_of end (entry_field (drop end xs)) → Turn xs held to end (count + 1)
    turn_more to p = record {
      walk = λ l. walk_more h walk left (marked xs end to h p) to (omega arith) p;
      inside = (entry_read xs end to h p).inside;
      over = λ l. walk_full h walk left (marked xs end to h p) (omega arith);
    }
