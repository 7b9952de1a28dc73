-- The line of seven bytes that answers a call of a script: 41 (hexadecimal) opened, 42 held or 43 refused; two bytes, the held value's
-- length or the refusal's number; four bytes, the steps or the place.
use Rattle.std.specs.Prelude.{ℕ, List, [], ◌∷◌, ◌++◌}
use package.Rattle.octets.specs.Numbers.{bytes16, bytes32}
use package.Rattle.calls.specs.Book.{Told, is_open, holds, refuses}

abbrev pub line_length : ℕ
line_length = 7

unfoldable pub line_of : ℕ → ℕ → ℕ → List ℕ
unfolding bytes16 bytes32
line_of kind number detail = kind ∷ (bytes16 number ++ bytes32 detail)

unfoldable pub line : Told → List ℕ
unfolding line_of
line is_open = line_of 0x41 0 0
line (holds l s) = line_of 0x42 l s
line (refuses n p) = line_of 0x43 n p

-- one line behind another
unfoldable pub lines : List Told → List ℕ
unfolding line
lines [] = []
lines (t ∷ ts) = line t ++ lines ts
