-- Laws of numbers of two and four bytes: what was written is read, what was read is written, and a number is read from the same
-- bytes behind a prefix.
use Prim.Native.Nat.{ℕ, zero, suc, ◌+◌, ◌*◌, ◌/◌, ◌%◌, ◌<◌}
use native.Mathlib.Omega.{arith}
use native.Mathlib.Nat.{add_assoc, div-add-mod'}
use mathlib.Core.Path.{◌≡◌, refl, ap₂, ◌∙◌}
use mathlib.Core.List.{List, [], ◌∷◌, ◌++◌}
use lib.ListN.{length}
use lib.Arith.{digits_lt, digits_div, digits_mod}
use lib.Seq.{get_or-append-add}
use package.Rattle.octets.specs.Numbers.{AreBytes, get16, get32, bytes16, bytes32}

----------------------------------------------------------------
-- Lists of bytes

pub bytes_left : (xs ys : List ℕ) → AreBytes (xs ++ ys) → AreBytes xs
bytes_left [] ys h i = omega arith
bytes_left (x ∷ xs) ys h zero = h 0
bytes_left (x ∷ xs) ys h (suc i) = bytes_left xs ys (λ i. h (suc i)) i

pub bytes-right : (xs ys : List ℕ) → AreBytes (xs ++ ys) → AreBytes ys
bytes-right xs ys h i = rw (get_or-append-add xs ys i 0) at (h (length xs + i))

----------------------------------------------------------------
-- Behind a prefix

pub get16-behind : (ps xs : List ℕ) (i : ℕ) → get16 (ps ++ xs) (length ps + i) ≡ get16 xs i
unfolding get16
get16-behind ps xs i = rw (add_assoc (length ps) i 1, get_or-append-add ps xs i 0, get_or-append-add ps xs (i + 1) 0)

pub get32-behind : (ps xs : List ℕ) (i : ℕ) → get32 (ps ++ xs) (length ps + i) ≡ get32 xs i
unfolding get32
get32-behind ps xs i = rw (add_assoc (length ps) i 2, get16-behind ps xs i, get16-behind ps xs (i + 2))

----------------------------------------------------------------
-- Written, then read

pub length-bytes16 : (n : ℕ) → length (bytes16 n) ≡ 2
unfolding bytes16
length-bytes16 n = refl

pub length-bytes32 : (n : ℕ) → length (bytes32 n) ≡ 4
unfolding bytes32 bytes16
length-bytes32 n = refl

pub get16-bytes16 : (n : ℕ) (xs : List ℕ) → n < 65536 → get16 (bytes16 n ++ xs) 0 ≡ n
unfolding get16 bytes16
get16-bytes16 n xs h = omega arith

pub get32-bytes32 : (n : ℕ) (xs : List ℕ) → n < 65536 * 65536 → get32 (bytes32 n ++ xs) 0 ≡ n
unfolding get32 bytes32 bytes16
get32-bytes32 n xs h =
    ap₂ (λ x y. x * 65536 + y)
    (get16-bytes16 (n / 65536) (bytes16 (n % 65536) ++ xs) (omega arith))
    (get16-behind (bytes16 (n / 65536)) (bytes16 (n % 65536) ++ xs) 0 ∙ get16-bytes16 (n % 65536) xs (omega arith))
    ∙ div-add-mod' n 65536

----------------------------------------------------------------
-- Read, then written

pub get16-below : (xs : List ℕ) (i : ℕ) → AreBytes xs → get16 xs i < 65536
unfolding get16
get16-below xs i h = omega (arith, h i, h (i + 1))

pub get32-below : (xs : List ℕ) (i : ℕ) → AreBytes xs → get32 xs i < 65536 * 65536
unfolding get32
get32-below xs i h = digits_lt (get16-below xs i h) (get16-below xs (i + 2) h)

pub bytes16-get16 : (a b : ℕ) (xs : List ℕ) → a < 256 → b < 256 → bytes16 (get16 (a ∷ b ∷ xs) 0) ≡ a ∷ b ∷ []
unfolding get16 bytes16
bytes16-get16 a b xs h k = ap₂ (λ x y. x ∷ y ∷ []) (omega arith) (omega arith)

pub bytes32-get32 : (a b c d : ℕ) (xs : List ℕ) → a < 256 → b < 256 → c < 256 → d < 256 → bytes32 (get32 (a ∷ b ∷ c ∷ d ∷ xs) 0) ≡ a ∷ b ∷ c ∷ d ∷ []
unfolding get32 bytes32 get16
bytes32-get32 a b c d xs h k l m =
    ap₂ (λ x y. bytes16 x ++ bytes16 y) (digits_div (a * 256 + b) below) (digits_mod (a * 256 + b) below)
    ∙ ap₂ (λ x y. x ++ y) (bytes16-get16 a b [] h k) (bytes16-get16 c d [] l m)
  where
    below : c * 256 + d < 65536
    below = omega arith
