-- What reading bytes as values answers, of what the reader of the calls gives. Laws: proofs/Pending, proofs/Ends.
use Rattle.std.specs.Prelude.{ℕ, zero, suc, ◌+◌, Bool, true, false, List, [], length, Option as Found, Some, None}
use Rattle.std.proofs.Math.Option.{Option, none, some}
use package.Rattle.rules.specs.Limits.{fits}
use package.Rattle.rules.specs.Val.{Val, unit, inl, inr, pair, roll, size, encode}
use package.Rattle.calls.specs.Values.{Read, got, malformed, read, value, ancillae}
use package.Rattle.calls.specs.Book.{or_unit, or_none}

----------------------------------------------------------------
-- Where a value ends

-- how many values are still to come behind a byte that begins a value, `n` of them after its own
unfoldable pub pending : ℕ → ℕ → ℕ
pending zero n = n
pending (suc zero) n = suc n
pending (suc (suc zero)) n = suc n
pending (suc (suc (suc zero))) n = suc (suc n)
pending (suc (suc (suc (suc k)))) n = suc n

-- the first value of the bytes
abbrev pub first_of : List ℕ → Read
first_of xs = read (length xs) xs

-- where what was read from place `at` ends, if it is within the limit on values
unfoldable pub end_of : ℕ → Read → Found ℕ
end_of at (got v xs) = elim (fits v) [ true ↦ Some (at + size v) | false ↦ None ]
end_of at malformed = None

----------------------------------------------------------------
-- One value; values one after another

abbrev pub is_some : {A : Type 0} → Option A → Bool
is_some none = false
is_some (some a) = true

-- Are the bytes one value within the limit?
abbrev pub is_value : List ℕ → Bool
is_value xs = is_some (value xs)

-- the value, and the values, that bytes are; what stands for bytes that section 4 refuses is the plain book's
abbrev pub value_in : List ℕ → Val
value_in xs = or_unit (value xs)

abbrev pub values_in : List ℕ → List Val
values_in xs = or_none (ancillae xs)

unfoldable pub counted : Option (List Val) → Found ℕ
counted none = None
counted (some vs) = Some (length vs)

----------------------------------------------------------------
-- The parts of a pair

-- the bytes of the second or the first component; of what is no pair, none
unfoldable pub part_of : Bool → Option Val → List ℕ
part_of second none = []
part_of second (some unit) = []
part_of second (some (inl v)) = []
part_of second (some (inr v)) = []
part_of true (some (pair v w)) = encode w
part_of false (some (pair v w)) = encode v
part_of second (some (roll v)) = []
