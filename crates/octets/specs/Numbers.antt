-- Numbers of two and four bytes at a place of a list of bytes, the high byte first (section 1). Laws: proofs/Numbers.
use Rattle.std.specs.Prelude.{ℕ, ◌+◌, ◌*◌, ◌/◌, ◌%◌, ◌<◌, List, [], ◌∷◌, ◌++◌, get_or, set}

-- Every element is a byte. (Past the end the answer is 0.)
abbrev pub AreBytes : List ℕ → Type 0
AreBytes xs = (i : ℕ) → get_or xs i 0 < 256

----------------------------------------------------------------
-- Reading

unfoldable pub get16 : List ℕ → ℕ → ℕ
get16 xs i = get_or xs i 0 * 256 + get_or xs (i + 1) 0

unfoldable pub get32 : List ℕ → ℕ → ℕ
get32 xs i = get16 xs i * 65536 + get16 xs (i + 2)

----------------------------------------------------------------
-- Writing

unfoldable pub put16 : List ℕ → ℕ → ℕ → List ℕ
put16 xs i n = set (set xs i (n / 256 % 256)) (i + 1) (n % 256)

unfoldable pub put32 : List ℕ → ℕ → ℕ → List ℕ
put32 xs i n = put16 (put16 xs i (n / 65536)) (i + 2) (n % 65536)

-- the bytes of a number
unfoldable pub bytes16 : ℕ → List ℕ
bytes16 n = n / 256 % 256 ∷ n % 256 ∷ []

unfoldable pub bytes32 : ℕ → List ℕ
bytes32 n = bytes16 (n / 65536) ++ bytes16 (n % 65536)
