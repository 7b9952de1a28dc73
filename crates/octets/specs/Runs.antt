-- Runs of bytes: one put into another.
use Rattle.std.specs.Prelude.{ℕ, ◌+◌, Bool, true, false, List, ◌++◌, length, take, drop}

-- `xs` with the bytes of `ys` from index `at` on
unfoldable pub pasted : List ℕ → ℕ → List ℕ → List ℕ
pasted xs at ys = take at xs ++ ys ++ drop (at + length ys) xs

-- a Bool says whether a fact holds
abbrev pub Decides : Bool → Type 0 → Type 0
Decides true P = P
Decides false P = P → ⊥
