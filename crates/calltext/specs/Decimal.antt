-- Numbers as decimal digits.
use Rattle.std.specs.Prelude.{ℕ, zero, suc, ◌+◌, ◌*◌, ◌-◌, ◌/◌, ◌%◌, cond, List, [], ◌∷◌, ◌++◌, ltb}
use Rattle.std.specs.Prelude.{Option, Some, None}

-- the number that digits carry `n` to, as long as it is at most `most`
unfoldable pub carried : ℕ → ℕ → List ℕ → Option ℕ
carried most n [] = Some n
carried most n (b ∷ rest) =
    cond (ltb b 48) None
    (cond (ltb 57 b) None
    (cond (ltb most (n * 10 + (b - 48))) None
    (carried most (n * 10 + (b - 48)) rest)))

-- the number that a word is, if it is one and at most `most`
unfoldable pub number_in : ℕ → List ℕ → Option ℕ
unfolding carried
number_in most [] = None
number_in most (b ∷ rest) = carried most 0 (b ∷ rest)

-- the digits of a number, given more room than it has tens
unfoldable pub text_in : ℕ → ℕ → List ℕ
text_in zero n = []
text_in (suc room) n = cond (ltb n 10) ((48 + n) ∷ []) (text_in room (n / 10) ++ ((48 + n % 10) ∷ []))

-- the digits of a number
unfoldable pub decimal_text : ℕ → List ℕ
unfolding text_in
decimal_text n = text_in (suc n) n
