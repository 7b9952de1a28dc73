-- Where a field ends: what the tests of the code say of the field that the definitions open, and what an end that was found says.
use Prim.Native.Nat.{ℕ, suc, ◌+◌, ◌-◌, ◌≤◌, ◌<◌}
use native.Mathlib.Omega.{arith}
use mathlib.Core.Path.{◌≡◌, refl, sym, ap, ap₂, ◌∙◌}
use mathlib.Core.Bool.{Bool, true, false, false≢true}
use mathlib.Core.Option.{Option, none, some}
use mathlib.Core.List.{List, [], ◌∷◌, ◌++◌}
use lib.ListN.{length, get_or, take, drop, length-append, length-drop, take-append-drop}
use lib.Seq.{length-take-le, drop-cons, drop-drop, drop-append-le, take_at, drop_at}
use lib.Dec.{leb, eqb}
use borrow.Author.Tests.{le-leb, lt-leb, eq-eqb, ne_eqb}
use mir.Syntax.{w8}
use mir.Val.{Fits}
use package.Rattle.octets.specs.Numbers.{get16, get32, bytes16, AreBytes}
use package.Rattle.octets.proofs.Numbers.{bytes-right}
use package.Rattle.rules.specs.Val.{Val}
use package.Rattle.rules.proofs.Basics.{given}
use package.Rattle.calls.specs.Values.{value, ancillae}
use package.Rattle.calls.specs.Journal.{entry_head, entry_bytes, Opened, opened, read_entry, provided, ◌>>=◌, held_tag, entry_tag}
use package.Rattle.calls.specs.Journal as journal
use package.Rattle.calls.proofs.Journal.Fields.{there, provided_true, length-field, opened-sound}
use package.Rattle.calls.specs.Fields.{field_head}
use package.Rattle.valuebytes.specs.Ends.{is_some, is_value, counted}
use Rattle.std.specs.Prelude.{Some, None}
use package.Rattle.journal.specs.Places.{held_field, entry_field, end_of}

----------------------------------------------------------------
-- A field of a tag at a place

opened-few : (tag : ℕ) (ys : List ℕ) → length ys < field_head → opened tag ys ≡ none
unfolding opened
opened-few tag [] h = refl
opened-few tag (t ∷ []) h = refl
opened-few tag (t ∷ a ∷ []) h = refl
opened-few tag (t ∷ a ∷ b ∷ ys) h = absurd (omega arith)

module _ (tag : ℕ) (xs : List ℕ) (at : ℕ) where
  pub end_short : length xs - at < field_head → None ≡ end_of at (opened tag (drop at xs))
  unfolding end_of
  end_short h = ap (end_of at) (sym (opened-few tag (drop at xs) (omega (arith, length-drop at xs))))

  three : field_head ≤ length xs - at → drop at xs ≡ get_or xs at 0 ∷ get_or xs (at + 1) 0 ∷ get_or xs (at + 1 + 1) 0 ∷ drop (at + field_head) xs
  three h =
      drop-cons xs at 0 (omega arith)
      ∙ ap (λ r. get_or xs at 0 ∷ r) (ap (λ n. drop n xs) (let z : suc at ≡ at + 1 = omega arith in z) ∙ drop-cons xs (at + 1) 0 (omega arith))
      ∙ ap (λ r. get_or xs at 0 ∷ get_or xs (at + 1) 0 ∷ r)
      (ap (λ n. drop n xs) (let z : suc (at + 1) ≡ at + 1 + 1 = omega arith in z) ∙ drop-cons xs (at + 1 + 1) 0 (omega arith))
      ∙ ap (λ n. get_or xs at 0 ∷ get_or xs (at + 1) 0 ∷ get_or xs (at + 1 + 1) 0 ∷ drop n xs) (let z : suc (at + 1 + 1) ≡ at + field_head = omega arith in z)

  -- the field by its tests
  tested : Bool → Bool → Option Opened
  tested tagged whole = do
    u ← provided tagged
    u' ← provided whole
    some (record { body = take (get16 xs (at + 1)) (drop (at + field_head) xs); rest = drop (get16 xs (at + 1)) (drop (at + field_head) xs) })

  opened-tested : field_head ≤ length xs - at → opened tag (drop at xs) ≡ tested (eqb (get_or xs at 0) tag) (leb (get16 xs (at + 1)) (length xs - (at + field_head)))
  unfolding opened get16 tested
  opened-tested h =
      ap (opened tag) (three h) ∙ ap (λ n. tested (eqb (get_or xs at 0) tag) (leb (get16 xs (at + 1)) n)) (length-drop (at + field_head) xs)

  pub end-other : field_head ≤ length xs - at → (get_or xs at 0 ≡ tag → ⊥) → None ≡ end_of at (opened tag (drop at xs))
  unfolding end_of tested provided ◌>>=◌
  end-other h d = ap (end_of at) (sym (opened-tested h ∙ ap (λ b. tested b (leb (get16 xs (at + 1)) (length xs - (at + field_head)))) (ne_eqb (get_or xs at 0) tag d)))

  pub end-cut : field_head ≤ length xs - at → get_or xs at 0 ≡ tag → length xs - (at + field_head) < get16 xs (at + 1) → None ≡ end_of at (opened tag (drop at xs))
  unfolding end_of tested provided ◌>>=◌
  end-cut h e l = ap (end_of at) (sym (opened-tested h ∙ ap₂ tested (eq-eqb (get_or xs at 0) tag e) (lt-leb (get16 xs (at + 1)) (length xs - (at + field_head)) l)))

  pub end_whole : field_head ≤ length xs - at → get_or xs at 0 ≡ tag → get16 xs (at + 1) ≤ length xs - (at + field_head)
      → Some (at + field_head + get16 xs (at + 1)) ≡ end_of at (opened tag (drop at xs))
  unfolding end_of tested provided ◌>>=◌
  end_whole h e l =
      ap (λ n. Some (at + field_head + n)) (sym (length-take-le (get16 xs (at + 1)) (drop (at + field_head) xs) (omega (arith, length-drop (at + field_head) xs))))
      ∙ ap (end_of at) (sym (opened-tested h ∙ ap₂ tested (eq-eqb (get_or xs at 0) tag e) (le-leb (get16 xs (at + 1)) (length xs - (at + field_head)) l)))

----------------------------------------------------------------
-- An end that was found

-- a field of the tag stands at `at` and ends at `end`
pub record Here (tag at end : ℕ) (xs : List ℕ) : Type 0 where
  pub field : Opened
  pub is : opened tag (drop at xs) ≡ some field
  pub place : end ≡ at + field_head + length (field).body
  pub bytes : drop at xs ≡ journal.field tag (field).body ++ (field).rest

malformed≢to : {e : ℕ} → None ≡ Some e → ⊥
malformed≢to p = let z : ◌≡◌ {A = ℕ} 0 1 = cc in omega arith

to_inj : {a b : ℕ} → Some a ≡ Some b → a ≡ b
to_inj p = cc

-- no end was found
pub not_here : (at : ℕ) (o : Option Opened) → None ≡ end_of at o → o ≡ none
unfolding end_of
not_here at none p = refl
not_here at (some f) p = absurd (malformed≢to p)

pub is_here : (at end : ℕ) (o : Option Opened) → Some end ≡ end_of at o → (f : Opened) × (o ≡ some f) × (end ≡ at + field_head + length f.body)
unfolding end_of
is_here at end none p = absurd (malformed≢to (sym p))
is_here at end (some f) p = (f, refl, to_inj p)

-- what the prover knows of a slice of bytes
pub are_bytes : (xs : List ℕ) → ((i : ℕ) → Fits w8 (get_or xs i 0)) → AreBytes xs
are_bytes xs h i = (h i).fits

-- the bytes behind a place are bytes
pub bytes_from : (xs : List ℕ) (at : ℕ) → AreBytes xs → AreBytes (drop at xs)
bytes_from xs at h = bytes-right (take at xs) (drop at xs) (rw (take-append-drop at xs) h)

pub here : (tag at end : ℕ) (xs : List ℕ) → AreBytes xs → Some end ≡ end_of at (opened tag (drop at xs)) → Here tag at end xs
here tag at end xs h p = given (is_here at end (opened tag (drop at xs)) p) λ (f, is, place).
    record { field = f; is = is; place = place; bytes = opened-sound tag (drop at xs) (bytes_from xs at h) is }

module _ {tag at end : ℕ} {xs : List ℕ} (h : Here tag at end xs) where
  pub here-long : length xs - at ≡ field_head + length h.field.body + length h.field.rest
  here-long =
      sym (length-drop at xs) ∙ ap length h.bytes ∙ length-append (journal.field tag h.field.body) h.field.rest
      ∙ ap (λ n. n + length h.field.rest) (length-field tag h.field.body)

  pub here-within : (at + field_head ≤ end) × (end ≤ length xs)
  here-within = (omega (arith, h.place), omega (arith, h.place, here-long))

  -- what stands behind it
  pub here_rest : h.field.rest ≡ drop end xs
  here_rest =
      sym (drop_at (journal.field tag h.field.body) h.field.rest (field_head + length h.field.body) (length-field tag h.field.body))
      ∙ ap (drop (field_head + length h.field.body)) (sym h.bytes)
      ∙ drop-drop (field_head + length h.field.body) at xs
      ∙ ap (λ n. drop n xs) (let z : at + (field_head + length h.field.body) ≡ end = omega (arith, h.place) in z)

  -- its body
  body-behind : drop (at + field_head) xs ≡ h.field.body ++ h.field.rest
  unfolding journal.field bytes16
  body-behind = sym (drop-drop field_head at xs) ∙ ap (drop field_head) h.bytes

  -- the body from its byte `k` on
  pub body-part : (k : ℕ) → k ≤ length h.field.body → take (end - (at + field_head + k)) (drop (at + field_head + k) xs) ≡ drop k h.field.body
  body-part k l =
      ap (take (end - (at + field_head + k))) (sym (drop-drop k (at + field_head) xs) ∙ ap (drop k) body-behind ∙ drop-append-le k h.field.body h.field.rest l)
      ∙ take_at (drop k h.field.body) h.field.rest (end - (at + field_head + k)) (omega (arith, length-drop k h.field.body, h.place))

----------------------------------------------------------------
-- The held value's field

some_value : (o : Option Val) → is_some o ≡ true → (v : Val) × (o ≡ some v)
some_value none e = absurd (false≢true e)
some_value (some v) e = (v, refl)

pub no_value : (o : Option Val) → is_some o ≡ false → o ≡ none
no_value none e = refl
no_value (some v) e = absurd (false≢true (sym e))

pub held_missing : (xs : List ℕ) → None ≡ end_of 0 (opened held_tag xs) → None ≡ end_of 0 (held_field xs)
unfolding held_field end_of ◌>>=◌
held_missing xs p = ap (end_of 0) (sym (ap (λ o. o >>= λ f. value f.body >>= λ v. some f) (not_here 0 (opened held_tag xs) p)))

module _ (xs : List ℕ) (bytes : AreBytes xs) (end : ℕ) (p : Some end ≡ end_of 0 (opened held_tag xs)) (b : Bool)
    (told : b ≡ is_value (take (end - field_head) (drop field_head xs))) where
  pub held_whole : b ≡ true → Some end ≡ end_of 0 (held_field xs)
  unfolding held_field end_of
  held_whole e = given (here held_tag 0 end xs bytes p) λ h.
      given (some_value (value h.field.body) (ap is_value (sym (body-part h 0 (omega arith))) ∙ sym told ∙ e)) λ (v, is).
      ap Some h.place ∙ ap (end_of 0) (sym (there _ h.is (there _ is refl)))

  pub held-broken : b ≡ false → None ≡ end_of 0 (held_field xs)
  unfolding held_field end_of ◌>>=◌
  held-broken e = given (here held_tag 0 end xs bytes p) λ h.
      ap (end_of 0) (sym (there _ h.is (ap (λ o. o >>= λ v. some h.field) (no_value (value h.field.body) (ap is_value (sym (body-part h 0 (omega arith))) ∙ sym told ∙ e)))))

----------------------------------------------------------------
-- An entry's field

some_values : (o : Option (List Val)) {n : ℕ} → Some n ≡ counted o → (vs : List Val) × (o ≡ some vs)
unfolding counted
some_values none e = absurd (let z : ◌≡◌ {A = ℕ} 0 1 = cc in omega arith)
some_values (some vs) e = (vs, refl)

no-values : (o : Option (List Val)) → None ≡ counted o → o ≡ none
unfolding counted
no-values none e = refl
no-values (some vs) e = absurd (let z : ◌≡◌ {A = ℕ} 0 1 = cc in omega arith)

pub entry_missing : (xs : List ℕ) (at : ℕ) → None ≡ end_of at (opened entry_tag xs) → None ≡ end_of at (entry_field xs)
unfolding entry_field end_of ◌>>=◌
entry_missing xs at p = ap (end_of at) (sym (ap (λ o. o >>= λ f. read_entry f.body >>= λ e. some f) (not_here at (opened entry_tag xs) p)))

module _ (xs : List ℕ) (bytes : AreBytes xs) (at end : ℕ) (p : Some end ≡ end_of at (opened entry_tag (drop at xs))) where
  unread : (h : Here entry_tag at end xs) → read_entry h.field.body ≡ none → None ≡ end_of at (entry_field (drop at xs))
  unfolding entry_field end_of ◌>>=◌
  unread h e = ap (end_of at) (sym (there _ h.is (ap (λ o. o >>= λ e. some h.field) e)))

  pub entry-short : end - at < entry_bytes → None ≡ end_of at (entry_field (drop at xs))
  unfolding read_entry provided ◌>>=◌
  entry-short l = given (here entry_tag at end xs bytes p) λ h.
      unread h (rw (read_entry, lt-leb entry_head (length h.field.body) (omega (arith, h.place))))

  module _ (l : entry_bytes ≤ end - at) where
    -- the values behind the six bytes
    values-behind : (h : Here entry_tag at end xs) → take (end - (at + entry_bytes)) (drop (at + entry_bytes) xs) ≡ drop entry_head h.field.body
    values-behind h =
        ap (λ n. take (end - n) (drop n xs)) (let z : at + entry_bytes ≡ at + field_head + entry_head = omega arith in z) ∙ body-part h entry_head (omega (arith, h.place))

    pub entry-broken : None ≡ counted (ancillae (take (end - (at + entry_bytes)) (drop (at + entry_bytes) xs))) → None ≡ end_of at (entry_field (drop at xs))
    unfolding read_entry provided ◌>>=◌
    entry-broken q = given (here entry_tag at end xs bytes p) λ h.
        unread h (there _ (provided_true (le-leb entry_head (length h.field.body) (omega (arith, h.place))))
        (ap (λ o. o >>= λ vs. some (record { function = get16 h.field.body 0; steps = get32 h.field.body 2; ancillae = vs }))
        (ap ancillae (sym (values-behind h)) ∙ no-values _ q)))

    pub entry_whole : (n : ℕ) → Some n ≡ counted (ancillae (take (end - (at + entry_bytes)) (drop (at + entry_bytes) xs))) → Some end ≡ end_of at (entry_field (drop at xs))
    unfolding entry_field end_of read_entry
    entry_whole n q = given (here entry_tag at end xs bytes p) λ h. given (some_values (ancillae (take (end - (at + entry_bytes)) (drop (at + entry_bytes) xs))) q) λ (vs, is).
        ap Some h.place ∙ ap (end_of at) (sym (there _ h.is (there _
        (there _ (provided_true (le-leb entry_head (length h.field.body) (omega (arith, h.place)))) (there _ (ap ancillae (sym (values-behind h)) ∙ is) refl)) refl)))
