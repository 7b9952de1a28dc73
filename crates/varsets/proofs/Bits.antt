-- Bits of numbers: of or, and, xor, of a power of two and the number below it, and of a number whose bits are all clear.
use Prim.Native.Nat.{ℕ, zero, suc, ◌+◌, ◌-◌, ◌*◌, ◌/◌, ◌%◌, ◌^◌, ◌<◌, min, max}
use native.Mathlib.Omega.{arith}
use native.Mathlib.Decide.{dec_lt}
use native.Mathlib.Nat.{two-pow-succ}
use mathlib.Core.Path.{◌≡◌, refl, sym, ap, ◌∙◌}
use mathlib.Core.Bool.{Bool, false, ◌||◌, ◌&&◌, beq, not}
use lib.Dec.{eqb, ltb}
use lib.Bits.{bit_and, bit_or, bit_xor, differ, and_step, or_step, xor_step, and_shr, or_shr, xor_shr}
use lib.Pow.{pow_pos, pow-add, pow-lt, shr_le, shr-shr, shl-shr, high}
use borrow.Author.Tests.{eqb-false, eq-eqb, ne_eqb, lt-ltb, le-ltb}

-- bit `i` of a number
abbrev pub bit : ℕ → ℕ → Bool
bit n i = eqb (n / 2 ^ i % 2) 1

----------------------------------------------------------------
-- Digits

-- a digit is 0 or 1
data Digit : ℕ → Type 0 where
  clear : Digit 0
  one : Digit 1

digit : (n : ℕ) → n < 2 → Digit n
digit zero h = clear
digit (suc zero) h = one
digit (suc (suc n)) h = absurd (omega arith)

max_digits : {a b : ℕ} → Digit a → Digit b → (max a b < 2) × (eqb (max a b) 1 ≡ (eqb a 1 || eqb b 1))
max_digits clear clear = (omega arith, refl)
max_digits clear one = (omega arith, refl)
max_digits one clear = (omega arith, refl)
max_digits one one = (omega arith, refl)

min_digits : {a b : ℕ} → Digit a → Digit b → (min a b < 2) × (eqb (min a b) 1 ≡ (eqb a 1 && eqb b 1))
min_digits clear clear = (omega arith, refl)
min_digits clear one = (omega arith, refl)
min_digits one clear = (omega arith, refl)
min_digits one one = (omega arith, refl)

differ_digits : {a b : ℕ} → Digit a → Digit b → (differ a b < 2) × (eqb (differ a b) 1 ≡ not (beq (eqb a 1) (eqb b 1)))
differ_digits clear clear = (omega arith, refl)
differ_digits clear one = (omega arith, refl)
differ_digits one clear = (omega arith, refl)
differ_digits one one = (omega arith, refl)

low_digit : (n : ℕ) → Digit (n % 2)
low_digit n = digit (n % 2) (omega arith)

----------------------------------------------------------------
-- Bits of the operations

pub bit-or : (a b i : ℕ) → bit (bit_or a b) i ≡ (bit a i || bit b i)
bit-or a b i = ap (λ n. eqb (n % 2) 1) (or_shr a b i) ∙ low (a / 2 ^ i) (b / 2 ^ i)
  where
    low : (x y : ℕ) → eqb (bit_or x y % 2) 1 ≡ (eqb (x % 2) 1 || eqb (y % 2) 1)
    low x y = let h = max_digits (low_digit x) (low_digit y) in
        ap (λ n. eqb n 1) (let z : bit_or x y % 2 ≡ max (x % 2) (y % 2) = omega (arith, or_step x y, h.0) in z) ∙ h.1

pub bit-and : (a b i : ℕ) → bit (bit_and a b) i ≡ (bit a i && bit b i)
bit-and a b i = ap (λ n. eqb (n % 2) 1) (and_shr a b i) ∙ low (a / 2 ^ i) (b / 2 ^ i)
  where
    low : (x y : ℕ) → eqb (bit_and x y % 2) 1 ≡ (eqb (x % 2) 1 && eqb (y % 2) 1)
    low x y = let h = min_digits (low_digit x) (low_digit y) in
        ap (λ n. eqb n 1) (let z : bit_and x y % 2 ≡ min (x % 2) (y % 2) = omega (arith, and_step x y, h.0) in z) ∙ h.1

pub bit-xor : (a b i : ℕ) → bit (bit_xor a b) i ≡ not (beq (bit a i) (bit b i))
bit-xor a b i = ap (λ n. eqb (n % 2) 1) (xor_shr a b i) ∙ low (a / 2 ^ i) (b / 2 ^ i)
  where
    low : (x y : ℕ) → eqb (bit_xor x y % 2) 1 ≡ not (beq (eqb (x % 2) 1) (eqb (y % 2) 1))
    low x y = let h = differ_digits (low_digit x) (low_digit y) in
        ap (λ n. eqb n 1) (let z : bit_xor x y % 2 ≡ differ (x % 2) (y % 2) = omega (arith, xor_step x y, h.0) in z) ∙ h.1

----------------------------------------------------------------
-- Numbers with no bit, and with one

pub bit-zero : (i : ℕ) → bit 0 i ≡ false
bit-zero i = ap (λ n. eqb (n % 2) 1) (let z : 0 / 2 ^ i ≡ 0 = omega (arith, shr_le 0 i) in z)

-- bits above the lowest
bit-half : (n i : ℕ) → bit (n / 2) i ≡ bit n (suc i)
bit-half n i = ap (λ m. eqb (m % 2) 1) (shr-shr n 1 i ∙ ap (λ k. n / 2 ^ k) (let z : 1 + i ≡ suc i = omega arith in z))

-- a number below a power of two none of whose bits is set
pub all-clear : (k n : ℕ) → n < 2 ^ k → ((i : ℕ) → i < k → bit n i ≡ false) → n ≡ 0
all-clear zero n h b = omega arith
all-clear (suc k) n h b =
    let half : n / 2 ≡ 0 = all-clear k (n / 2) (let z : 2 ^ suc k ≡ 2 ^ k + 2 ^ k = two-pow-succ k in omega arith) (λ i l. bit-half n i ∙ b (suc i) (omega arith)) in
    let even : n / 2 ^ 0 % 2 ≡ 1 → ⊥ = eqb-false (n / 2 ^ 0 % 2) 1 (b 0 (omega arith)) in
    lowest n half even
  where
    lowest : (n : ℕ) → n / 2 ≡ 0 → (n / 2 ^ 0 % 2 ≡ 1 → ⊥) → n ≡ 0
    lowest zero h e = refl
    lowest (suc zero) h e = absurd (e refl)
    lowest (suc (suc n)) h e = absurd (omega arith)

power_below : (i j : ℕ) → i < j → 2 ^ i / 2 ^ j ≡ 0
power_below i j l = ap (λ n. n / 2 ^ j) (let z : 2 ^ i ≡ 0 * 2 ^ j + 2 ^ i = omega arith in z) ∙ high 0 j (pow-lt l)

power-above : (d j : ℕ) → 2 ^ (suc d + j) / 2 ^ j % 2 ≡ 0
power-above d j =
    ap (λ n. n / 2 ^ j % 2) (pow-add 2 (suc d) j) ∙ ap (λ n. n % 2) (shl-shr (2 ^ suc d) j) ∙ (let z : 2 ^ suc d ≡ 2 ^ d + 2 ^ d = two-pow-succ d in omega arith)

pub bit-power : (i j : ℕ) → bit (2 ^ i) j ≡ eqb j i
bit-power i j = go (dec_lt i j) (dec_lt j i)
  where
    go : Dec (i < j) → Dec (j < i) → bit (2 ^ i) j ≡ eqb j i
    go (yes l) e = ap (λ n. eqb (n % 2) 1) (power_below i j l) ∙ sym (ne_eqb j i (λ e. omega arith))
    go (no l) (yes l') =
        ap (λ k. bit (2 ^ k) j) (let z : i ≡ suc (i - suc j) + j = omega arith in z) ∙ ap (λ n. eqb n 1) (power-above (i - suc j) j) ∙ sym (ne_eqb j i (λ e. omega arith))
    go (no l) (no l') = let e : j ≡ i = omega arith in
        ap (λ k. bit (2 ^ i) k) e ∙ ap (λ n. eqb (n % 2) 1) (ap (λ n. n / 2 ^ i) (let z : 2 ^ i ≡ 1 * 2 ^ i = omega arith in z) ∙ shl-shr 1 i) ∙ sym (eq-eqb j i e)

-- the number below a power of two has all bits below it
pub bit_ones : (n i : ℕ) → bit (2 ^ n - 1) i ≡ ltb i n
bit_ones zero i = bit-zero i ∙ sym (le-ltb i 0 (omega arith))
bit_ones (suc n) zero =
    ap (λ m. eqb (m % 2) 1) (let z : (2 ^ suc n - 1) / 2 ^ 0 ≡ 2 ^ suc n - 1 = omega arith in z)
    ∙ ap (λ m. eqb m 1) (let z : (2 ^ suc n - 1) % 2 ≡ 1 = omega (arith, two-pow-succ n, pow_pos n) in z) ∙ sym (lt-ltb 0 (suc n) (omega arith))
bit_ones (suc n) (suc i) =
    sym (bit-half (2 ^ suc n - 1) i) ∙ ap (λ m. bit m i) (let z : (2 ^ suc n - 1) / 2 ≡ 2 ^ n - 1 = omega (arith, two-pow-succ n, pow_pos n) in z) ∙ bit_ones n i ∙ shifted (dec_lt i n)
  where
    shifted : Dec (i < n) → ltb i n ≡ ltb (suc i) (suc n)
    shifted (yes l) = lt-ltb i n l ∙ sym (lt-ltb (suc i) (suc n) (omega arith))
    shifted (no l) = le-ltb i n (omega arith) ∙ sym (le-ltb (suc i) (suc n) (omega arith))
