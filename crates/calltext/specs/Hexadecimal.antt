-- Bytes as hexadecimal digits: two a byte, the high one first; `-` (45) stands for no bytes.
use Rattle.std.specs.Prelude.{ℕ, ◌+◌, ◌*◌, ◌-◌, ◌/◌, ◌%◌, cond, List, [], ◌∷◌, ◌++◌, length, drop, eqb, ltb, leb}
use Rattle.std.specs.Prelude.{Option, Some, None}

-- the number of a digit, of either case; 16 for a byte that is none
unfoldable pub digit_of : ℕ → ℕ
digit_of b =
    cond (ltb b 48) 16
    (cond (leb b 57) (b - 48)
    (cond (ltb b 65) 16
    (cond (leb b 70) (b - 55)
    (cond (ltb b 97) 16
    (cond (leb b 102) (b - 87) 16)))))

-- the digit of a number, in lower case
unfoldable pub glyph_of : ℕ → ℕ
glyph_of d = cond (ltb d 10) (48 + d) (87 + d)

-- bytes in front of bytes, if those are any
unfoldable pub onto : List ℕ → Option (List ℕ) → Option (List ℕ)
onto xs None = None
onto xs (Some ys) = Some (xs ++ ys)

-- the byte of two digits, in front of the rest
unfoldable pub byte_of : ℕ → ℕ → Option (List ℕ) → Option (List ℕ)
unfolding onto
byte_of high low rest = cond (leb 16 high) None (cond (leb 16 low) None (onto ((high * 16 + low) ∷ []) rest))

-- the bytes that digits are
unfoldable pub pairs_of : List ℕ → Option (List ℕ)
unfolding digit_of byte_of
pairs_of [] = Some []
pairs_of (x ∷ []) = None
pairs_of (x ∷ y ∷ rest) = byte_of (digit_of x) (digit_of y) (pairs_of rest)

-- the bytes that a word is
unfoldable pub bytes_in : List ℕ → Option (List ℕ)
unfolding pairs_of
bytes_in [] = None
bytes_in (x ∷ []) = cond (eqb x 45) (Some []) None
bytes_in (x ∷ y ∷ rest) = pairs_of (x ∷ y ∷ rest)

-- the byte of two digits in front of the rest; nothing if one is no digit
unfoldable pub leads : ℕ → ℕ → List ℕ → List ℕ
leads high low rest = cond (leb 16 high) [] (cond (leb 16 low) [] ((high * 16 + low) ∷ rest))

-- the bytes of the pairs of digits that a word starts with, whatever stands behind them
unfoldable pub leading : List ℕ → List ℕ
unfolding digit_of leads
leading [] = []
leading (x ∷ []) = []
leading (x ∷ y ∷ rest) = leads (digit_of x) (digit_of y) (leading rest)

-- a buffer with these at its start, the rest unchanged
unfoldable pub filled : List ℕ → List ℕ → List ℕ
unfolding leading
filled word buffer = leading word ++ drop (length (leading word)) buffer

-- the digits of bytes
unfoldable pub digits_of : List ℕ → List ℕ
unfolding glyph_of
digits_of [] = []
digits_of (b ∷ rest) = glyph_of (b / 16) ∷ glyph_of (b % 16) ∷ digits_of rest

-- the word of bytes
unfoldable pub hex_text : List ℕ → List ℕ
unfolding digits_of
hex_text [] = 45 ∷ []
hex_text (b ∷ rest) = digits_of (b ∷ rest)
