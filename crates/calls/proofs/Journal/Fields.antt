-- One field of a journal: how long it is, and that it is opened from the bytes that it is written as, and from no others. The same
-- for an entry, which is a field's body.
use Prim.Native.Nat.{ℕ, ◌+◌, ◌*◌, ◌≤◌, ◌<◌}
use native.Mathlib.Omega.{arith}
use mathlib.Core.Path.{◌≡◌, refl, sym, ap, ap₂, ◌∙◌, subst}
use mathlib.Core.Bool.{Bool, true, false}
use mathlib.Core.Option.{Option, none, some}
use mathlib.Core.List.{List, [], ◌∷◌, ◌++◌}
use lib.ListN.{length, take, drop, length-append, take-append-drop}
use lib.Dec.{leb, eqb}
use lib.Seq.{length-take-le, take_at, drop_at}
use package.Rattle.octets.specs.Numbers.{get16, get32, bytes16, bytes32, AreBytes}
use package.Rattle.octets.proofs.Numbers.{bytes_left, bytes-right, get16-bytes16, get32-bytes32, get32-behind, get16-below, get32-below, bytes16-get16, bytes32-get32}
use package.Rattle.rules.specs.Limits.{fits, max_value_bytes, max_ancilla_bytes}
use package.Rattle.rules.specs.Val.{Val, size}
use package.Rattle.rules.proofs.Basics.{given, none≢some, some_inj, eqb_yes, eqb-sound}
use package.Rattle.rules.proofs.Typing.Tests.{leb_yes, leb-sound}
use package.Rattle.calls.specs.Values.{encode_all, ancillae}
use package.Rattle.calls.specs.Fields.{field_head}
use package.Rattle.calls.specs.Journal.{Entry, entry_head, field, entry_body, ◌>>=◌, provided, Opened, opened, read_entry}
use package.Rattle.calls.proofs.Values.{ancillae-encode, ancillae-sound}

----------------------------------------------------------------
-- What is there: laws of options

module _ {A B : Type 0} where
  -- what is there goes on
  pub there : {x : Option A} (k : A → Option B) {a : A} {y : Option B} → x ≡ some a → k a ≡ y → (x >>= k) ≡ y
  unfolding ◌>>=◌
  there k p q = ap (λ x. x >>= k) p ∙ q

  -- an answer that is there: what was there before
  pub was_there : (x : Option A) (k : A → Option B) {b : B} → (x >>= k) ≡ some b → (a : A) × (x ≡ some a) × (k a ≡ some b)
  unfolding ◌>>=◌
  was_there none k e = absurd (none≢some e)
  was_there (some a) k e = (a, refl, e)

pub provided_true : {b : Bool} → b ≡ true → provided b ≡ some tt
unfolding provided
provided_true e = ap provided e

pub provided_some : (b : Bool) {u : Unit {0}} → provided b ≡ some u → b ≡ true
unfolding provided
provided_some true e = refl
provided_some false e = absurd (none≢some e)

----------------------------------------------------------------
-- Limits

-- the bytes of a value fit a field
pub fits_below : (v : Val) → fits v ≡ true → size v < 65536
unfolding fits max_value_bytes
fits_below v e = omega (arith, leb-sound (size v) max_value_bytes e)

-- the body of an entry fits a field
pub ancillae-below : {n : ℕ} → n ≤ max_ancilla_bytes → entry_head + n < 65536
unfolding max_ancilla_bytes
ancillae-below h = omega arith

----------------------------------------------------------------
-- A field

pub length-field : (tag : ℕ) (body : List ℕ) → length (field tag body) ≡ field_head + length body
unfolding field bytes16
length-field tag body = omega arith

pub opened-field : (tag : ℕ) (body rest : List ℕ) → length body < 65536 → opened tag (field tag body ++ rest) ≡ some (record { body = body; rest = rest })
unfolding field opened bytes16
opened-field tag body rest h =
    there _ (provided_true (eqb_yes tag)) (there _ (provided_true (leb_yes _ (length (body ++ rest)) whole))
    (ap₂ (λ b r. some (record { body = b; rest = r })) (take_at body rest _ (sym number)) (drop_at body rest _ (sym number))))
  where
    number : get16 (bytes16 (length body) ++ []) 0 ≡ length body
    number = get16-bytes16 (length body) [] h

    whole : get16 (bytes16 (length body) ++ []) 0 ≤ length (body ++ rest)
    whole = omega (arith, number, length-append body rest)

-- a field whose length stands in two bytes
cut_field : (tag a b : ℕ) (xs : List ℕ) → a < 256 → b < 256 → get16 (a ∷ b ∷ []) 0 ≤ length xs
    → field tag (take (get16 (a ∷ b ∷ []) 0) xs) ++ drop (get16 (a ∷ b ∷ []) 0) xs ≡ tag ∷ a ∷ b ∷ xs
unfolding field
cut_field tag a b xs h k l = rw (length-take-le (get16 (a ∷ b ∷ []) 0) xs l, bytes16-get16 a b [] h k, take-append-drop (get16 (a ∷ b ∷ []) 0) xs)

pub opened-sound : (tag : ℕ) (xs : List ℕ) {f : Opened} → AreBytes xs → opened tag xs ≡ some f → xs ≡ field tag f.body ++ f.rest
unfolding opened
opened-sound tag [] h e = absurd (none≢some e)
opened-sound tag (t ∷ []) h e = absurd (none≢some e)
opened-sound tag (t ∷ a ∷ []) h e = absurd (none≢some e)
opened-sound tag (t ∷ a ∷ b ∷ xs) h e =
    given (was_there (provided (eqb t tag)) _ e) λ (u, tagged, next). given (was_there (provided (leb (get16 (a ∷ b ∷ []) 0) (length xs))) _ next) λ (u', whole, last).
    ap (λ t. t ∷ a ∷ b ∷ xs) (eqb-sound t tag (provided_some (eqb t tag) tagged))
    ∙ sym (cut_field tag a b xs (h 1) (h 2) (leb-sound (get16 (a ∷ b ∷ []) 0) (length xs) (provided_some (leb (get16 (a ∷ b ∷ []) 0) (length xs)) whole)))
    ∙ ap (λ f. field tag f.body ++ f.rest) (some_inj last)

-- of bytes, a field's body and what stands behind it are bytes
pub opened-bytes : (tag : ℕ) (xs body rest : List ℕ) → AreBytes xs → xs ≡ field tag body ++ rest → AreBytes body × AreBytes rest
unfolding field bytes16
opened-bytes tag xs body rest h e = (bytes_left body rest behind, bytes-right body rest behind)
  where
    behind : AreBytes (body ++ rest)
    behind = bytes-right (tag ∷ bytes16 (length body)) (body ++ rest) (subst AreBytes e h)

----------------------------------------------------------------
-- An entry

-- an entry that a field can hold
pub record WritableEntry (e : Entry) : Type 0 where
  pub function_below : e.function < 65536
  pub steps_below : e.steps < 65536 * 65536
  pub ancillae_within : length (encode_all e.ancillae) ≤ max_ancilla_bytes

pub length-entry_body : (e : Entry) → length (entry_body e) ≡ entry_head + length (encode_all e.ancillae)
unfolding entry_body bytes16 bytes32
length-entry_body e = omega arith

pub entry-fits : (e : Entry) → WritableEntry e → length (entry_body e) < 65536
entry-fits e w = omega (arith, length-entry_body e, ancillae-below w.ancillae_within)

pub read_entry-body : (e : Entry) → WritableEntry e → read_entry (entry_body e) ≡ some e
unfolding read_entry entry_body bytes16 bytes32
read_entry-body e w =
    there _ (provided_true (leb_yes entry_head (length (entry_body e)) (omega (arith, length-entry_body e)))) (there _ (ancillae-encode e.ancillae w.ancillae_within)
    (ap₂ (λ f s. some (record { function = f; steps = s; ancillae = e.ancillae }))
    (get16-bytes16 e.function (bytes32 e.steps ++ encode_all e.ancillae) w.function_below)
    (get32-behind (bytes16 e.function) (bytes32 e.steps ++ encode_all e.ancillae) 0
    ∙ get32-bytes32 e.steps (encode_all e.ancillae) w.steps_below)))

-- a function, steps, and the rest
head_whole : (xs : List ℕ) → AreBytes xs → entry_head ≤ length xs → bytes16 (get16 xs 0) ++ bytes32 (get32 xs 2) ++ drop entry_head xs ≡ xs
unfolding get16 get32
head_whole [] h l = absurd (omega arith)
head_whole (a ∷ []) h l = absurd (omega arith)
head_whole (a ∷ b ∷ []) h l = absurd (omega arith)
head_whole (a ∷ b ∷ c ∷ []) h l = absurd (omega arith)
head_whole (a ∷ b ∷ c ∷ d ∷ []) h l = absurd (omega arith)
head_whole (a ∷ b ∷ c ∷ d ∷ e ∷ []) h l = absurd (omega arith)
head_whole (a ∷ b ∷ c ∷ d ∷ e ∷ f ∷ xs) h l =
    ap₂ (λ x y. x ++ y ++ xs) (bytes16-get16 a b [] (h 0) (h 1)) (bytes32-get32 c d e f [] (h 2) (h 3) (h 4) (h 5))

pub read_entry-sound : (xs : List ℕ) {e : Entry} → AreBytes xs → read_entry xs ≡ some e → (xs ≡ entry_body e) × WritableEntry e
unfolding read_entry entry_body
read_entry-sound xs h e =
    given (was_there (provided (leb entry_head (length xs))) _ e) λ (u, long, next). given (was_there (ancillae (drop entry_head xs)) _ next) λ (vs, anc, last).
    given (ancillae-sound (drop entry_head xs) anc) λ (same, within).
    subst (λ e. (xs ≡ entry_body e) × WritableEntry e) (some_inj last) (
      sym (head_whole xs h (leb-sound entry_head (length xs) (provided_some (leb entry_head (length xs)) long))) ∙ ap (λ ys. bytes16 (get16 xs 0) ++ bytes32 (get32 xs 2) ++ ys) same,
      record { function_below = get16-below xs 0 h; steps_below = get32-below xs 2 h; ancillae_within = rw same at within },
    )
