-- The journals that open, convert and rollback leave: how long their fields are, and that what the code puts into the buffer is what
-- is written out of them.
use Prim.Native.Nat.{ℕ, ◌+◌, ◌-◌, ◌≤◌, ◌<◌}
use native.Mathlib.Omega.{arith}
use mathlib.Core.Path.{◌≡◌, refl, sym, ap, ap₂, ◌∙◌}
use mathlib.Core.Bool.{true, false≢true}
use mathlib.Core.Option.{Option, none, some}
use mathlib.Core.List.{List, ◌++◌, append-nil}
use lib.ListN.{length, take, drop, replicate, length-append}
use package.Rattle.octets.specs.Numbers.{bytes16, bytes32}
use package.Rattle.octets.specs.Runs.{pasted}
use package.Rattle.rules.specs.Val.{Val, size, encode}
use package.Rattle.rules.proofs.Basics.{given}
use package.Rattle.rules.proofs.Val.{length-encode}
use package.Rattle.calls.specs.Values.{value, ancillae, encode_all}
use package.Rattle.calls.specs.Journal.{entry_head, entry_bytes, Journal, field, held_tag, entry_tag, entry_body, entry_fields, fields, write_out}
use package.Rattle.calls.proofs.Values.{value-sound, ancillae-sound}
use package.Rattle.calls.proofs.Journal.Fields.{fits_below, ancillae-below, length-field}
use package.Rattle.calls.proofs.Journal.Buffers.{length_fields, length-fields_snoc, fields_snoc}
use package.Rattle.calls.specs.Book.{or_unit, or_none}
use package.Rattle.calls.specs.Fields.{field_head}
use package.Rattle.valuebytes.specs.Ends.{is_some, is_value, value_in, values_in}
use package.Rattle.journal.specs.declared.places.Places.{Places}
use package.Rattle.journal.specs.Places.{journal_in, Stands}
use package.Rattle.journal.specs.Turns.{are_values, conversion, opens, converted, rolled_back}
use package.Rattle.journal.proofs.Stands.{standing, ranges, end-place, newest-place, entries_are, older_are}
use package.Rattle.journal.proofs.Writes.{put_next, written_out}

----------------------------------------------------------------
-- Bytes that are values

pub value_in_is : (h : List ℕ) {v : Val} → value h ≡ some v → value_in h ≡ v
unfolding or_unit
value_in_is h e = ap or_unit e

pub values_in_is : (a : List ℕ) {vs : List Val} → ancillae a ≡ some vs → values_in a ≡ vs
unfolding or_none
values_in_is a e = ap or_none e

pub record IsValue (h : List ℕ) : Type 0 where
  pub bytes : h ≡ encode (value_in h)
  pub long : length h ≡ size (value_in h)
  pub short : length h < 65536

pub is_value_lem : (h : List ℕ) → is_value h ≡ true → IsValue h
is_value_lem h t = go (value h) refl t
  where
    go : (o : Option Val) → value h ≡ o → is_some o ≡ true → IsValue h
    go none e t = absurd (false≢true t)
    go (some v) e t = given (value-sound h e) λ (same, fit).
        let is : value_in h ≡ v = value_in_is h e in
        let long : length h ≡ size v = ap length same ∙ length-encode v in
        record { bytes = same ∙ ap encode (sym is); long = long ∙ ap size (sym is); short = omega (arith, long, fits_below v fit) }

pub record AreValues (a : List ℕ) : Type 0 where
  pub bytes : a ≡ encode_all (values_in a)
  pub short : entry_head + length a < 65536

pub are_values_lem : (a : List ℕ) → are_values a ≡ true → AreValues a
are_values_lem a t = go (ancillae a) refl t
  where
    go : (o : Option (List Val)) → ancillae a ≡ o → is_some o ≡ true → AreValues a
    go none e t = absurd (false≢true t)
    go (some vs) e t = given (ancillae-sound a e) λ (same, within).
        record { bytes = same ∙ ap encode_all (sym (values_in_is a e)); short = ancillae-below within }

----------------------------------------------------------------
-- Open

module _ (h : List ℕ) (t : is_value h ≡ true) where
  pub open_length : length (fields (opens (value_in h))) ≡ field_head + length h
  unfolding entry_fields
  open_length = length_fields (opens (value_in h)) ∙ omega (arith, (is_value_lem h t).long)

  open_fields : field held_tag h ≡ fields (opens (value_in h))
  unfolding fields entry_fields
  open_fields = ap (field held_tag) (is_value_lem h t).bytes ∙ sym (append-nil (field held_tag (encode (value_in h))))

  pub open_written : (xs ys zs : List ℕ) → length (fields (opens (value_in h))) ≤ length xs → ys ≡ pasted xs 0 (field held_tag h)
      → zs ≡ take (field_head + length h) ys ++ replicate (length ys - (field_head + length h)) 0 → zs ≡ write_out (length xs) (opens (value_in h))
  open_written xs ys zs fit e k =
      k ∙ ap (λ s. take (field_head + length h) s ++ replicate (length s - (field_head + length h)) 0) e
      ∙ written_out xs (field held_tag h) (field_head + length h) (opens (value_in h)) open_fields fit (sym (length-field held_tag h))

----------------------------------------------------------------
-- Convert

module _ (pl : Places) (xs h a : List ℕ) (s : Stands pl xs) (t : is_value h ≡ true) (u : are_values a ≡ true) (f n : ℕ) where
  after : Journal
  after = converted (journal_in xs) (value_in h) (conversion f n (values_in a))

  pub convert_length : length (fields (converted (journal_in xs) (value_in h) (conversion f n (values_in a)))) ≡ field_head + entry_bytes + length h + (pl.end - pl.held) + length a
  convert_length =
      length-fields_snoc (value_in h) (journal_in xs).entries (conversion f n (values_in a))
      ∙ omega (arith, (is_value_lem h t).long, end-place (standing pl xs s), ap length (are_values_lem a u).bytes)

  -- the held value's field, those that stood, and the new one
  block : List ℕ
  block = take (pl.end - pl.held) (drop pl.held xs)

  entry : List ℕ
  entry = field entry_tag (bytes16 f ++ bytes32 n ++ a)

  convert_fields : field held_tag h ++ block ++ entry ≡ fields after
  unfolding after block entry entry_body
  convert_fields =
      ap₂ (λ b e. field held_tag b ++ e ++ entry) (is_value_lem h t).bytes (entries_are (standing pl xs s))
      ∙ ap (λ b. field held_tag (encode (value_in h)) ++ entry_fields (journal_in xs).entries ++ field entry_tag (bytes16 f ++ bytes32 n ++ b)) (are_values_lem a u).bytes
      ∙ sym (fields_snoc (value_in h) (journal_in xs).entries (conversion f n (values_in a)))

  front_length : length (field held_tag h ++ block) ≡ field_head + length h + (pl.end - pl.held)
  unfolding block
  front_length =
      length-append (field held_tag h) block
      ∙ omega (arith, length-field held_tag h, ap length (entries_are (standing pl xs s)), end-place (standing pl xs s))

  entry_length : length entry ≡ entry_bytes + length a
  unfolding entry bytes16 bytes32
  entry_length = length-field entry_tag (bytes16 f ++ bytes32 n ++ a) ∙ omega arith

  module _ (fit : length (fields (converted (journal_in xs) (value_in h) (conversion f n (values_in a)))) ≤ length xs) where
    -- what the parts of the code ask
    pub record ConvertRoom : Type 0 where
      pub ordered : pl.held ≤ pl.end
      pub inside : pl.end ≤ length xs
      pub whole : field_head + entry_bytes + length h + (pl.end - pl.held) + length a ≤ length xs
      pub short : length h < 65536
      pub few : entry_head + length a < 65536

    pub convert_room : ConvertRoom
    convert_room = given (ranges (standing pl xs s)) λ (r₀, r₁, r₂, r₃).
        record { ordered = omega arith; inside = r₃; whole = omega (arith, fit, convert_length); short = (is_value_lem h t).short; few = (are_values_lem a u).short }

    pub convert_written : (ys zs ws : List ℕ) → ys ≡ pasted xs 0 (field held_tag h ++ take (pl.end - pl.held) (drop pl.held xs))
        → zs ≡ pasted ys (field_head + length h + (pl.end - pl.held)) (field entry_tag (bytes16 f ++ bytes32 n ++ a))
        → ws ≡ take (field_head + length h + (pl.end - pl.held) + entry_bytes + length a) zs ++ replicate (length zs - (field_head + length h + (pl.end - pl.held) + entry_bytes + length a)) 0
        → ws ≡ write_out (length xs) (converted (journal_in xs) (value_in h) (conversion f n (values_in a)))
    unfolding after block entry
    convert_written ys zs ws e k l =
        l ∙ ap (λ r. take (field_head + length h + (pl.end - pl.held) + entry_bytes + length a) r ++ replicate (length r - (field_head + length h + (pl.end - pl.held) + entry_bytes + length a)) 0)
        (k ∙ ap (λ r. pasted r (field_head + length h + (pl.end - pl.held)) entry) e
        ∙ put_next xs (field_head + length h + (pl.end - pl.held)) (field held_tag h ++ block) entry (sym front_length) (omega (arith, front_length, entry_length, fit, convert_length)))
        ∙ written_out xs (field held_tag h ++ block ++ entry) (field_head + length h + (pl.end - pl.held) + entry_bytes + length a) after convert_fields fit
        (omega (arith, length-append (field held_tag h ++ block) entry, front_length, entry_length))

----------------------------------------------------------------
-- Rollback

module _ (pl : Places) (xs h : List ℕ) (s : Stands pl xs) (t : is_value h ≡ true) where
  pub rollback_length : length (fields (rolled_back (journal_in xs) (value_in h))) ≡ field_head + length h + (pl.newest - pl.held)
  rollback_length = length_fields (rolled_back (journal_in xs) (value_in h)) ∙ omega (arith, (is_value_lem h t).long, newest-place (standing pl xs s))

  rollback_fields : field held_tag h ++ take (pl.newest - pl.held) (drop pl.held xs) ≡ fields (rolled_back (journal_in xs) (value_in h))
  unfolding fields
  rollback_fields = ap₂ (λ b e. field held_tag b ++ e) (is_value_lem h t).bytes (older_are (standing pl xs s))

  module _ (fit : length (fields (rolled_back (journal_in xs) (value_in h))) ≤ length xs) where
    pub record RollbackRoom : Type 0 where
      pub ordered : pl.held ≤ pl.newest
      pub inside : pl.newest ≤ length xs
      pub whole : field_head + length h + (pl.newest - pl.held) ≤ length xs
      pub short : length h < 65536

    pub rollback_room : RollbackRoom
    rollback_room = given (ranges (standing pl xs s)) λ (r₀, r₁, r₂, r₃).
        record { ordered = r₁; inside = omega arith; whole = omega (arith, fit, rollback_length); short = (is_value_lem h t).short }

    pub rollback_written : (ys zs : List ℕ) → ys ≡ pasted xs 0 (field held_tag h ++ take (pl.newest - pl.held) (drop pl.held xs))
        → zs ≡ take (field_head + length h + (pl.newest - pl.held)) ys ++ replicate (length ys - (field_head + length h + (pl.newest - pl.held))) 0
        → zs ≡ write_out (length xs) (rolled_back (journal_in xs) (value_in h))
    rollback_written ys zs e k =
        k ∙ ap (λ r. take (field_head + length h + (pl.newest - pl.held)) r ++ replicate (length r - (field_head + length h + (pl.newest - pl.held))) 0) e
        ∙ written_out xs (field held_tag h ++ take (pl.newest - pl.held) (drop pl.held xs)) (field_head + length h + (pl.newest - pl.held))
        (rolled_back (journal_in xs) (value_in h)) rollback_fields fit (omega (arith, ap length rollback_fields, rollback_length))
