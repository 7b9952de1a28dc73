-- What a call answers (section 4): what it accepts, or a refusal with its number and place.
use Rattle.std.specs.Prelude.{ℕ, Bool, true, false, cond, List, [], ◌++◌, length, drop, replicate, eqb}
use Rattle.std.proofs.Math.Option.{Option, none, some}

pub data Answer (A : Type 0) : Type 0 where
  accepted : A → Answer A
  -- number, place
  refused : ℕ → ℕ → Answer A

-- the first refusal met stands
infixl 20 ◌>>=◌
unfoldable pub ◌>>=◌ : {A B : Type 0} → Answer A → (A → Answer B) → Answer B
accepted a >>= k = k a
refused n p >>= k = refused n p

-- refusal `n` at `p`, unless the test holds
unfoldable pub require : Bool → ℕ → ℕ → Answer (Unit {0})
require true n p = accepted tt
require false n p = refused n p

-- refusal `n` at 0, unless it is there
unfoldable pub present : {A : Type 0} → Option A → ℕ → Answer A
present none n = refused n 0
present (some a) n = accepted a

-- The workspace after a call: all zero, but unchanged after refusal 1 (section 4).
unfoldable pub cleared : {A : Type 0} → Answer A → List ℕ → List ℕ
cleared (accepted a) ws = replicate (length ws) 0
cleared (refused n p) ws = cond (eqb n 1) ws (replicate (length ws) 0)

-- The bytes that a call writes into its output: none after a refusal.
unfoldable pub bytes_written : Answer (List ℕ) → List ℕ
bytes_written (accepted xs) = xs
bytes_written (refused n p) = []

-- The output after the call: the bytes fill it from its start, the rest unchanged (section 4).
unfoldable pub overwritten : Answer (List ℕ) → List ℕ → List ℕ
unfolding bytes_written
overwritten x out = bytes_written x ++ drop (length (bytes_written x)) out
