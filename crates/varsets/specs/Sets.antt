-- Sets of variables as the code has them, and what they hold. Laws: proofs/Bits.
use Rattle.std.specs.Prelude.{ℕ, ◌+◌, ◌*◌, ◌/◌, ◌%◌, ◌^◌, ◌<◌, ◌≡◌, Bool, true, false, not, ◌||◌, ◌&&◌, eqb, ltb}
use package.Rattle.rules.specs.Limits.{max_variables}
use package.Rattle.rules.specs.Term.{inside}
use Rattle.varsets.specs.declared.Uses.{Uses}

-- Is variable `i` in the set?
unfoldable pub has : Uses → ℕ → Bool
has u i = eqb (u.bits / 2 ^ i % 2) 1

-- the set holds, of the variables that there can be, those that `S` says
pub record Holds (u : Uses) (S : ℕ → Bool) : Type 0 where
  pub each : (i : ℕ) → i < max_variables → has u i ≡ S i

abbrev pub nobody : ℕ → Bool
nobody i = false

abbrev pub alone : ℕ → ℕ → Bool
alone i j = eqb j i

-- the first `n` variables
abbrev pub firsts : ℕ → ℕ → Bool
firsts n i = ltb i n

-- the variables from number `low` on and below `n`
abbrev pub ranged : ℕ → ℕ → ℕ → Bool
ranged low n i = ltb i n && not (ltb i low)

abbrev pub joined : (ℕ → Bool) → (ℕ → Bool) → ℕ → Bool
joined S S' i = S i || S' i

-- those of a set that are among the first `n` variables
abbrev pub below : ℕ → (ℕ → Bool) → ℕ → Bool
below n S i = S i && ltb i n

-- two sets have the same variables among those of a third
abbrev pub AgreeOn : Uses → Uses → Uses → Type 0
AgreeOn u v among = (i : ℕ) → i < max_variables → has among i ≡ true → has u i ≡ has v i

-- with `q` ancilla parameters and `n` variables in scope, every variable of the set is an ancilla parameter or bound inside (02, F-3)
abbrev pub AllInside : Uses → ℕ → ℕ → Type 0
AllInside u q n = (i : ℕ) → i < max_variables → has u i ≡ true → inside q n i ≡ true

----------------------------------------------------------------
-- A set as two numbers of 16 bits

-- how many numbers of 16 bits there are
abbrev pub half_range : ℕ
half_range = 65536

abbrev pub low_half : Uses → ℕ
low_half u = u.bits % half_range

abbrev pub high_half : Uses → ℕ
high_half u = u.bits / half_range

-- the set with these halves
abbrev pub of_halves : ℕ → ℕ → Uses
of_halves low high = record { bits = half_range * high + low }
