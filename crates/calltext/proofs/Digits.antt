-- Digits become bytes and bytes digits, a byte at a time (specs/Hexadecimal).
use Prim.Native.Nat.{ℕ, suc, ◌+◌, ◌*◌, ◌/◌, ◌%◌, ◌≤◌, ◌<◌}
use native.Mathlib.Omega.{arith}
use lib.Dec.{eqb}
use mathlib.Core.Path.{◌≡◌, refl, sym, ap, subst, ◌∙◌}
use mathlib.Core.Bool.{Bool, true, false, cond}
use Rattle.std.specs.Bool.{then_some}
use Rattle.std.specs.Prelude.{Option, Some, None}
use mathlib.Core.List.{List, [], ◌∷◌, ◌++◌, append_assoc, append-nil}
use lib.ListN.{length, take, drop, get_or, set, length-set, length-drop, take-append-drop}
use lib.Seq.{drop-drop, drop-set-lt, append_snoc, length-take-le, take-suc, take-suc-set, take_all}
use borrow.Author.Tests.{le-leb, lt-leb}
use package.Rattle.calltext.specs.Wrote.{Wrote}
use package.Rattle.calltext.specs.Hexadecimal.{digit_of, glyph_of, onto, byte_of, pairs_of, bytes_in, leads, leading, filled, digits_of, hex_text}
use package.Rattle.calltext.specs.Decoded.{DecodesWord}
use package.Rattle.calltext.proofs.Writing.{wrote-byte, wrote-both, wrote_as, wrote_to}

onto_none : (xs : List ℕ) → onto xs None ≡ None
unfolding onto
onto_none xs = refl

onto-onto : (xs ys : List ℕ) (r : Option (List ℕ)) → onto xs (onto ys r) ≡ onto (xs ++ ys) r
unfolding onto
onto-onto xs ys None = refl
onto-onto xs ys (Some zs) = ap Some (sym (append_assoc xs ys zs))

onto_nil : (r : Option (List ℕ)) → onto [] r ≡ r
unfolding onto
onto_nil None = refl
onto_nil (Some zs) = refl

----------------------------------------------------------------
-- Decoding: `n` bytes are made, and the digits `left` are still to be read

-- and the rest of the buffer is as it was
pub record Decoding (w before out left : List ℕ) (n : ℕ) : Type 0 where
  pub said : pairs_of w ≡ onto (take n out) (pairs_of left)
  pub leads : leading w ≡ take n out ++ leading left
  pub rest : drop n out ≡ drop n before
  pub size : length w ≡ 2 * n + length left

pub decoding : (w out : List ℕ) → Decoding w out out w 0
decoding w out = record { said = sym (onto_nil (pairs_of w)); leads = refl; rest = refl; size = omega arith }

two-left : (l : List ℕ) → 2 ≤ length l → l ≡ get_or l 0 0 ∷ get_or l 1 0 ∷ drop 2 l
two-left [] h = absurd (omega (arith, h))
two-left (x ∷ []) h = absurd (omega (arith, h))
two-left (x ∷ y ∷ l) h = refl

two : (l : List ℕ) → 2 ≤ length l → pairs_of l ≡ byte_of (digit_of (get_or l 0 0)) (digit_of (get_or l 1 0)) (pairs_of (drop 2 l))
unfolding pairs_of
two l h = ap pairs_of (two-left l h)

two-leading : (l : List ℕ) → 2 ≤ length l → leading l ≡ leads (digit_of (get_or l 0 0)) (digit_of (get_or l 1 0)) (leading (drop 2 l))
unfolding leading
two-leading l h = ap leading (two-left l h)

leads_high : (high low : ℕ) (r : List ℕ) → high ≡ 16 → leads high low r ≡ []
unfolding leads
leads_high high low r h = rw (le-leb 16 high (omega arith))

leads-low : (high low : ℕ) (r : List ℕ) → high < 16 → low ≡ 16 → leads high low r ≡ []
unfolding leads
leads-low high low r h h' = rw (lt-leb 16 high h, le-leb 16 low (omega arith))

leads-both : (high low : ℕ) (r : List ℕ) → high < 16 → low < 16 → leads high low r ≡ (high * 16 + low) ∷ r
unfolding leads
leads-both high low r h h' = rw (lt-leb 16 high h, lt-leb 16 low h')

byte_high : (high low : ℕ) (r : Option (List ℕ)) → high ≡ 16 → byte_of high low r ≡ None
unfolding byte_of
byte_high high low r h = rw (le-leb 16 high (omega arith))

byte_low : (high low : ℕ) (r : Option (List ℕ)) → high < 16 → low ≡ 16 → byte_of high low r ≡ None
unfolding byte_of
byte_low high low r h h' = rw (lt-leb 16 high h, le-leb 16 low (omega arith))

byte-both : (high low : ℕ) (r : Option (List ℕ)) → high < 16 → low < 16 → byte_of high low r ≡ onto ((high * 16 + low) ∷ []) r
unfolding byte_of
byte-both high low r h h' = rw (lt-leb 16 high h, lt-leb 16 low h')

module _ {w before out left : List ℕ} {n : ℕ} (d : Decoding w before out left n) where
  -- no pair of digits stands next: the buffer has what the word starts with
  leaves : n ≤ length out → leading left ≡ [] → out ≡ filled w before
  unfolding filled
  leaves h e = sym
      (ap (λ l. l ++ drop (length l) before) (d.leads ∙ ap (λ l. take n out ++ l) e ∙ append-nil (take n out))
      ∙ ap (λ k. take n out ++ drop k before) (length-take-le n out h)
      ∙ ap (λ l. take n out ++ l) (sym d.rest)
      ∙ take-append-drop n out)

  stops : n ≤ length out → pairs_of left ≡ None → leading left ≡ [] → DecodesWord None w before out (pairs_of w)
  stops room e f = record { said = sym (d.said ∙ ap (onto (take n out)) e ∙ onto_none (take n out)); within = tt; left = leaves room f }

  -- all digits are read, or one is left
  pub ends : n ≤ length out → length left < 2 → {r : Option ℕ} {b : Bool} → r ≡ then_some b n → b ≡ eqb (length left) 0 → DecodesWord r w before out (pairs_of w)
  unfolding pairs_of onto leading
  ends room h {r} {b} e f = subst (λ o. DecodesWord o w before out (pairs_of w)) (sym (e ∙ ap (λ t. then_some t n) f)) (by left refl)
    where
      by : (l : List ℕ) → l ≡ left → DecodesWord (then_some (eqb (length l) 0) n) w before out (pairs_of w)
      by [] g =
          record {
            said = sym (d.said ∙ ap (λ l. onto (take n out) (pairs_of l)) (sym g) ∙ ap Some (append-nil (take n out)));
            within = room;
            left = leaves room (ap leading (sym g));
          }
      by (x ∷ []) g = stops room (ap pairs_of (sym g)) (ap leading (sym g))
      by (x ∷ y ∷ l) g = absurd (omega (arith, h, ap length g))

  module _ (more : 2 ≤ length left) where
    pub stops_high : n ≤ length out → digit_of (get_or left 0 0) ≡ 16 → DecodesWord None w before out (pairs_of w)
    stops_high room e = stops room (two left more ∙ byte_high _ _ _ e) (two-leading left more ∙ leads_high _ _ _ e)

    module _ (high : ℕ) (e : (high ≡ digit_of (get_or left 0 0)) × (high < 16)) where
      pub stops-low : n ≤ length out → digit_of (get_or left 1 0) ≡ 16 → DecodesWord None w before out (pairs_of w)
      stops-low room f = stops room (two left more ∙ byte_low _ _ _ (rw e.0 at e.1) f) (two-leading left more ∙ leads-low _ _ _ (rw e.0 at e.1) f)

      pub decodes-more : (low : ℕ) → (low ≡ digit_of (get_or left 1 0)) × (low < 16) → n < length out
          → (rest : List ℕ) → rest ≡ drop 2 left → Decoding w before (set out n (high * 16 + low)) rest (n + 1)
      decodes-more low f room rest g =
          let byte = high * 16 + low in
          let same : digit_of (get_or left 0 0) * 16 + digit_of (get_or left 1 0) ≡ byte = sym (ap (λ k. k * 16 + low) e.0 ∙ ap (λ k. digit_of (get_or left 0 0) * 16 + k) f.0) in
          let wrote : take n out ++ (byte ∷ []) ≡ take (n + 1) (set out n byte) =
          sym (take-suc-set out n byte room) ∙ ap (λ k. take k (set out n byte)) (let z : suc n ≡ n + 1 = omega arith in z) in
          record {
            said =
                d.said
                ∙ ap (onto (take n out)) (two left more ∙ byte-both _ _ _ (rw e.0 at e.1) (rw f.0 at f.1))
                ∙ onto-onto (take n out) _ _
                ∙ ap (λ b. onto (take n out ++ (b ∷ [])) (pairs_of (drop 2 left))) same
                ∙ ap (λ l. onto l (pairs_of (drop 2 left))) wrote
                ∙ ap (λ l. onto (take (n + 1) (set out n byte)) (pairs_of l)) (sym g);
            leads =
                d.leads
                ∙ ap (λ l. take n out ++ l) (two-leading left more ∙ leads-both _ _ _ (rw e.0 at e.1) (rw f.0 at f.1) ∙ ap (λ b. b ∷ leading (drop 2 left)) same)
                ∙ sym (append_snoc (take n out) byte (leading (drop 2 left)))
                ∙ ap (λ l. l ++ leading (drop 2 left)) wrote
                ∙ ap (λ l. take (n + 1) (set out n byte) ++ leading l) (sym g);
            rest =
                drop-set-lt (n + 1) out n byte (omega arith)
                ∙ sym (drop-drop 1 n out)
                ∙ ap (drop 1) d.rest
                ∙ drop-drop 1 n before;
            size = omega (arith, d.size, more, ap length g, length-drop 2 left);
          }

----------------------------------------------------------------
-- A word: digits, or the sign for none

-- a word of no pair of digits leaves the buffer as it was
unfilled : (w out : List ℕ) → length w ≤ 1 → out ≡ filled w out
unfolding filled leading
unfilled [] out h = refl
unfilled (x ∷ []) out h = refl
unfilled (x ∷ y ∷ w) out h = absurd (omega (arith, h))

pub empty_word : (w out : List ℕ) → length w < 1 → DecodesWord None w out out (bytes_in w)
unfolding bytes_in
empty_word [] out h = record { said = refl; within = tt; left = unfilled [] out (omega arith) }
empty_word (x ∷ w) out h = absurd (omega (arith, h))

pub sign_word : (w out : List ℕ) → length w ≡ 1 → {r : Option ℕ} → r ≡ then_some (eqb (get_or w 0 0) 45) 0 → DecodesWord r w out out (bytes_in w)
unfolding bytes_in
sign_word [] out h e = absurd (omega (arith, h))
sign_word (x ∷ []) out h {r} e = subst (λ o. DecodesWord o (x ∷ []) out out (cond (eqb x 45) (Some []) None)) (sym e) (by (eqb x 45))
  where
    by : (t : Bool) → DecodesWord (then_some t 0) (x ∷ []) out out (cond t (Some []) None)
    by true = record { said = refl; within = omega arith; left = unfilled (x ∷ []) out (omega arith) }
    by false = record { said = refl; within = tt; left = unfilled (x ∷ []) out (omega arith) }
sign_word (x ∷ y ∷ w) out h e = absurd (omega (arith, h))

pub longer_word : (w : List ℕ) → 2 ≤ length w → pairs_of w ≡ bytes_in w
unfolding bytes_in
longer_word [] h = absurd (omega (arith, h))
longer_word (x ∷ []) h = absurd (omega (arith, h))
longer_word (x ∷ y ∷ w) h = refl

----------------------------------------------------------------
-- Encoding: the digits of the first `i` bytes stand from `at` to `end`

digits_append : (xs ys : List ℕ) → digits_of (xs ++ ys) ≡ digits_of xs ++ digits_of ys
unfolding digits_of
digits_append [] ys = refl
digits_append (x ∷ xs) ys = ap (λ l. glyph_of (x / 16) ∷ glyph_of (x % 16) ∷ l) (digits_append xs ys)

pub encode-start : (bytes out : List ℕ) (at : ℕ) → Wrote out out at at (digits_of (take 0 bytes))
unfolding digits_of
encode-start bytes out at = record { front = sym (append-nil (take at out)); ends = omega arith; kept = refl; behind = refl }

pub encode-more : (bytes a b : List ℕ) (at end i : ℕ) → Wrote a b at end (digits_of (take i bytes)) → i < length bytes → end + 1 < length b
    → Wrote a (set (set b end (glyph_of (get_or bytes i 0 / 16))) (end + 1) (glyph_of (get_or bytes i 0 % 16))) at (end + 2) (digits_of (take (i + 1) bytes))
unfolding digits_of
encode-more bytes a b at end i p h room =
    let x = get_or bytes i 0 in
    let one = wrote-both p (wrote-byte b end (glyph_of (x / 16)) (omega arith)) in
    let both = wrote-both one (wrote-byte (set b end (glyph_of (x / 16))) (end + 1) (glyph_of (x % 16)) (simp length-set room)) in
    wrote_as (wrote_to both (omega arith))
    (append_assoc (digits_of (take i bytes)) _ _
    ∙ sym (digits_append (take i bytes) (x ∷ []))
    ∙ ap digits_of (sym (take-suc bytes i 0 h))
    ∙ ap (λ k. digits_of (take k bytes)) (let z : suc i ≡ i + 1 = omega arith in z))

pub no_bytes_lem : (bytes : List ℕ) → length bytes ≡ 0 → 45 ∷ [] ≡ hex_text bytes
unfolding hex_text
no_bytes_lem [] e = refl
no_bytes_lem (b ∷ rest) e = absurd (omega (arith, e))

pub all-bytes : (bytes : List ℕ) (i : ℕ) → (length bytes ≡ 0 → ⊥) → length bytes ≤ i → digits_of (take i bytes) ≡ hex_text bytes
unfolding hex_text
all-bytes [] i e h = absurd (e refl)
all-bytes (b ∷ rest) i e h = ap digits_of (take_all i (b ∷ rest) h)

length_digits : (xs : List ℕ) → length (digits_of xs) ≡ 2 * length xs
unfolding digits_of
length_digits [] = refl
length_digits (x ∷ xs) = omega (arith, length_digits xs)

pub hex_length : (xs : List ℕ) → length (hex_text xs) ≤ 2 * length xs + 1
unfolding hex_text
hex_length [] = omega arith
hex_length (x ∷ xs) = omega (arith, length_digits (x ∷ xs))
