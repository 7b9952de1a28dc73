-- The words of a line: what stands between single spaces (32). Words count from 0.
use Rattle.std.specs.Prelude.{ℕ, zero, suc, ◌+◌, cond, List, [], ◌∷◌, take, drop, eqb}

-- the first index at which a byte stands; the length where there is none
unfoldable pub index_of : ℕ → List ℕ → ℕ
index_of b [] = 0
index_of b (x ∷ rest) = cond (eqb x b) 0 (suc (index_of b rest))

-- the bytes from index `at` to `end`
unfoldable pub slice : ℕ → ℕ → List ℕ → List ℕ
slice at end xs = drop at (take end xs)

-- the first word, and what is behind the space that ends it
unfoldable pub first : List ℕ → List ℕ
first xs = take (index_of 32 xs) xs

unfoldable pub behind : List ℕ → List ℕ
behind xs = drop (index_of 32 xs + 1) xs

-- a line from word k on
unfoldable pub from : ℕ → List ℕ → List ℕ
unfolding behind
from zero xs = xs
from (suc k) xs = behind (from k xs)

-- word k, empty where there are fewer
unfoldable pub word_at : ℕ → List ℕ → List ℕ
unfolding first from
word_at k xs = first (from k xs)

-- how many spaces there are
abbrev pub is_space : ℕ → ℕ
is_space x = cond (eqb x 32) 1 0

unfoldable pub spaces : List ℕ → ℕ
spaces [] = 0
spaces (x ∷ rest) = is_space x + spaces rest
