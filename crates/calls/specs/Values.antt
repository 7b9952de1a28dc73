-- Values from bytes (section 1). Whether a value is of a type: rules/specs/Ty.
use Rattle.std.specs.Prelude.{ℕ, zero, suc, true, false, List, [], ◌∷◌, ◌++◌, length, leb}
use Rattle.std.proofs.Math.Option.{Option, none, some}
use package.Rattle.rules.specs.Limits.{fits, max_ancilla_bytes}
use package.Rattle.rules.specs.Val.{Val, unit, inl, inr, pair, roll, encode}
unfoldable pub use package.Rattle.rules.specs.Ty.{has_ty, has_tys}

----------------------------------------------------------------
-- Reading

-- one value, and the bytes behind it; or no value
pub data Read : Type 0 where
  got : Val → List ℕ → Read
  malformed : Read

unfoldable pub then : Read → (Val → List ℕ → Read) → Read
then (got v xs) k = k v xs
then malformed k = malformed

-- `n` bounds the value's depth, which is no more than its bytes
unfoldable pub read : ℕ → List ℕ → Read
unfolding then
read zero xs = malformed
read (suc n) [] = malformed
read (suc n) (zero ∷ xs) = got unit xs
read (suc n) (suc zero ∷ xs) = then (read n xs) λ v xs. got (inl v) xs
read (suc n) (suc (suc zero) ∷ xs) = then (read n xs) λ v xs. got (inr v) xs
read (suc n) (suc (suc (suc zero)) ∷ xs) = then (read n xs) λ v xs. then (read n xs) λ w xs. got (pair v w) xs
read (suc n) (suc (suc (suc (suc zero))) ∷ xs) = then (read n xs) λ v xs. got (roll v) xs
read (suc n) (suc (suc (suc (suc (suc b)))) ∷ xs) = malformed

-- a value with nothing behind it, within the limit
unfoldable pub alone : Read → Option Val
alone (got v []) = elim (fits v) [ true ↦ some v | false ↦ none ]
alone (got v (x ∷ xs)) = none
alone malformed = none

-- the one value that the bytes are, if they are one within the limit
unfoldable pub value : List ℕ → Option Val
unfolding alone
value xs = alone (read (length xs) xs)

----------------------------------------------------------------
-- Ancillae: values one after another

unfoldable pub encode_all : List Val → List ℕ
encode_all [] = []
encode_all (v ∷ vs) = encode v ++ encode_all vs

unfoldable pub cons_to : Val → Option (List Val) → Option (List Val)
cons_to v none = none
cons_to v (some vs) = some (v ∷ vs)

-- `n` bounds how many there are
unfoldable pub read_all : ℕ → List ℕ → Option (List Val)
unfolding cons_to
read_all zero [] = some []
read_all zero (x ∷ xs) = none
read_all (suc n) [] = some []
read_all (suc n) (x ∷ xs) = elim (read (length (x ∷ xs)) (x ∷ xs)) [ got v ys ↦ cons_to v (read_all n ys) | malformed ↦ none ]

-- the values that the bytes are, if they are values within the limits
unfoldable pub ancillae : List ℕ → Option (List Val)
ancillae xs = elim (leb (length xs) max_ancilla_bytes) [ true ↦ read_all (length xs) xs | false ↦ none ]
