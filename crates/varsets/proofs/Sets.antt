-- What the operations on sets hold.
use Prim.Native.Nat.{ℕ, ◌-◌, ◌*◌, ◌%◌, ◌^◌, ◌<◌, ◌≤◌}
use native.Mathlib.Omega.{arith}
use native.Mathlib.Decide.{dec_lt}
use mathlib.Core.Path.{◌≡◌, refl, sym, ap, ap₂, ◌∙◌}
use mathlib.Core.Bool.{Bool, true, false, ◌&&◌, beq, not}
use lib.Dec.{eqb, ltb}
use lib.Bits.{bit_and, bit_or, bit_xor, and_le_r}
use lib.Pow.{pow_pos, shl_exact}
use borrow.Author.Tests.{eqb-true, eqb-false, lt-ltb, le-ltb}
use package.Rattle.varsets.specs.Sets.{has, Holds, nobody, alone, firsts, ranged, joined, below, AgreeOn}
use package.Rattle.octets.specs.Runs.{Decides}
use package.Rattle.rules.specs.Limits.{max_variables}
use package.Rattle.varsets.proofs.Bits.{bit, bit-or, bit-and, bit-xor, bit-zero, bit-power, bit_ones, all-clear}
use Rattle.varsets.specs.declared.Uses.{Uses}

pub holds_none : Holds (record { bits = 0 }) nobody
unfolding has
holds_none = record { each = λ i l. bit-zero i }

-- a power of two that a number holds
power : (i : ℕ) → i < max_variables → 1 * 2 ^ i % 4294967296 ≡ 2 ^ i
power i l = shl_exact {a = 1} 1 i 32 (omega arith) (omega arith) ∙ (let z : 1 * 2 ^ i ≡ 2 ^ i = omega arith in z)

pub power_some : (i : ℕ) → i < max_variables → 1 ≤ 1 * 2 ^ i % 4294967296
power_some i l = omega (arith, power i l, pow_pos i)

pub holds-only : (i : ℕ) → i < max_variables → Holds (record { bits = 1 * 2 ^ i % 4294967296 }) (alone i)
unfolding has
holds-only i l = record {
  each = λ j h. ap (λ n. bit n j) (power i l) ∙ bit-power i j;
}

pub holds-first : (n : ℕ) → n < max_variables → Holds (record { bits = 1 * 2 ^ n % 4294967296 - 1 }) (firsts n)
unfolding has
holds-first n l = record { each = λ i h. ap (λ m. bit (m - 1) i) (power n l) ∙ bit_ones n i }

-- of the first `n` and the first `low`, no more than `n`, one set has the variables between
pub holds-between : (low n : ℕ) {u v : Uses} → low ≤ n → Holds u (firsts n) → Holds v (firsts low) → Holds (record { bits = bit_xor u.bits v.bits }) (ranged low n)
unfolding has
holds-between low n {u} {v} l U V = record {
  each = λ i k. bit-xor u.bits v.bits i ∙ ap₂ (λ a b. not (beq a b)) (U.each i k) (V.each i k) ∙ go i (dec_lt i low) (dec_lt i n);
}
  where
    go : (i : ℕ) → Dec (i < low) → Dec (i < n) → not (beq (ltb i n) (ltb i low)) ≡ (ltb i n && not (ltb i low))
    go i (yes a) (yes b) = rw (lt-ltb i low a, lt-ltb i n b)
    go i (yes a) (no b) = absurd (omega arith)
    go i (no a) (yes b) = rw (le-ltb i low (omega arith), lt-ltb i n b)
    go i (no a) (no b) = rw (le-ltb i low (omega arith), le-ltb i n (omega arith))

pub holds-below : (u : Uses) (n : ℕ) {v : Uses} → Holds v (firsts n) → Holds (record { bits = bit_and u.bits v.bits }) (below n (has u))
unfolding has
holds-below u n {v} V = record { each = λ i h. bit-and u.bits v.bits i ∙ ap (λ b. bit u.bits i && b) (V.each i h) }

pub holds_union : (u v : Uses) → Holds (record { bits = bit_or u.bits v.bits }) (joined (has u) (has v))
unfolding has
holds_union u v = record { each = λ i l. bit-or u.bits v.bits i }

----------------------------------------------------------------
-- Agreement

-- bits that do not differ are the same
not_differ : (a b : Bool) → not (beq a b) ≡ false → a ≡ b
not_differ true true e = refl
not_differ true false e = e
not_differ false true e = sym e
not_differ false false e = refl

same_not_differ : (a b : Bool) → a ≡ b → not (beq a b) ≡ false
same_not_differ true true e = refl
same_not_differ true false e = e
same_not_differ false true e = sym e
same_not_differ false false e = refl

and_clear : (a b : Bool) → (a && b) ≡ false → b ≡ true → a ≡ false
and_clear true true h e = h
and_clear true false h e = sym e
and_clear false b h e = refl

clear_and : (a b : Bool) → (b ≡ true → a ≡ false) → (a && b) ≡ false
clear_and true true h = h refl
clear_and true false h = refl
clear_and false b h = refl

pub agree_decides : (u v among : Uses) → among.bits < 2 ^ 32 → Decides (eqb (bit_and (bit_xor u.bits v.bits) among.bits) 0) (AgreeOn u v among)
unfolding has
agree_decides u v among h = go (eqb rest 0) refl
  where
    rest : ℕ
    rest = bit_and (bit_xor u.bits v.bits) among.bits

    bit_rest : (i : ℕ) → bit rest i ≡ (not (beq (bit u.bits i) (bit v.bits i)) && bit among.bits i)
    bit_rest i = bit-and (bit_xor u.bits v.bits) among.bits i ∙ ap (λ x. x && bit among.bits i) (bit-xor u.bits v.bits i)

    go : (b : Bool) → eqb rest 0 ≡ b → Decides b (AgreeOn u v among)
    go true e = λ i l m. not_differ _ _ (and_clear _ (bit among.bits i) (sym (bit_rest i) ∙ ap (λ n. bit n i) (eqb-true rest 0 e) ∙ bit-zero i) m)
    go false e = λ A. eqb-false rest 0 e (all-clear 32 rest (let z : rest ≤ among.bits = and_le_r (bit_xor u.bits v.bits) among.bits in omega arith)
        λ i l. bit_rest i ∙ clear_and _ (bit among.bits i) λ m. same_not_differ _ _ (A i l m))
