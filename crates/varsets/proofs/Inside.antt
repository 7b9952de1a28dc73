-- When every variable of a set is an ancilla parameter or bound inside (02, F-3): no variable of it below `n` is left from number `q` on.
-- A set in two halves.
use Prim.Native.Nat.{ℕ, ◌+◌, ◌-◌, ◌*◌, ◌/◌, ◌%◌, ◌^◌, ◌<◌, ◌≤◌}
use native.Mathlib.Omega.{arith}
use native.Mathlib.Decide.{dec_lt}
use mathlib.Core.Path.{◌≡◌, refl, sym, ap, ap₂, ◌∙◌}
use mathlib.Core.Bool.{Bool, true, false, ◌&&◌, ◌||◌}
use lib.Dec.{eqb, ltb, leb}
use lib.Pow.{pow-lt, shr-shr, shr_le, high}
use borrow.Author.Tests.{eqb-true, eqb-false, lt-ltb, le-ltb, le-leb, lt-leb}
use package.Rattle.octets.specs.Runs.{Decides}
use package.Rattle.rules.specs.Limits.{max_variables}
use package.Rattle.rules.specs.Term.{inside}
use package.Rattle.varsets.specs.Sets.{has, Holds, below, AllInside, low_half, high_half, of_halves}
use package.Rattle.varsets.proofs.Bits.{bit, bit-zero, all-clear}
use Rattle.varsets.specs.declared.Uses.{Uses}

----------------------------------------------------------------
-- Numbers that no variable of a set has

pub all-ancillae : (u : Uses) (q n : ℕ) → max_variables ≤ q → AllInside u q n
all-ancillae u q n h i l e = ap (λ b. b || leb n i) (lt-ltb i q (omega arith))

----------------------------------------------------------------
-- The test

-- bits after a shift
bit_shifted : (m q j : ℕ) → bit (m / 2 ^ q) j ≡ bit m (q + j)
bit_shifted m q j = ap (λ n. eqb (n % 2) 1) (shr-shr m q j)

-- bits above all
bit_high : (m k j : ℕ) → m < 2 ^ k → k ≤ j → bit m j ≡ false
bit_high m k j h l = ap (λ n. eqb (n % 2) 1) (ap (λ n. n / 2 ^ j) (let z : m ≡ 0 * 2 ^ j + m = omega arith in z) ∙ high 0 j (low (dec_lt k j)))
  where
    low : Dec (k < j) → m < 2 ^ j
    low (yes x) = let z : 2 ^ k < 2 ^ j = pow-lt x in omega arith
    low (no x) = rw (let z : j ≡ k = omega arith in z) h

module _ (q n : ℕ) where
  -- neither below `q` nor from `n` on
  outside : (i : ℕ) → q ≤ i → i < n → inside q n i ≡ false
  outside i l h = ap₂ ◌||◌ (le-ltb i q l) (lt-leb n i h)

  true_differs : {b : Bool} → b ≡ true → b ≡ false → ⊥
  true_differs e f = let z : ◌≡◌ {A = ℕ} 0 1 = cc in omega arith

  -- a variable that has to be inside is not below `n` from number `q` on
  none_left : (i : ℕ) (b : Bool) → q ≤ i → (b ≡ true → inside q n i ≡ true) → (b && ltb i n) ≡ false
  none_left i false l f = refl
  none_left i true l f = go (dec_lt i n)
    where
      go : Dec (i < n) → ltb i n ≡ false
      go (yes x) = absurd (true_differs (f refl) (outside i l x))
      go (no x) = le-ltb i n (omega arith)

  -- a variable of the set that is not inside is left
  one_left : (i : ℕ) → q ≤ i → i < n → (b : Bool) → b ≡ true → (b && ltb i n) ≡ true
  one_left i l x b e = ap₂ ◌&&◌ e (lt-ltb i n x)

  pub inside-decides : (u s : Uses) → s.bits < 2 ^ max_variables → Holds s (below n (has u)) → Decides (eqb (s.bits / 2 ^ q) 0) (AllInside u q n)
  unfolding has
  inside-decides u s h S = go (eqb (s.bits / 2 ^ q) 0) refl
    where
      -- nothing left: each variable is inside
      each-inside : (i : ℕ) → i < max_variables → s.bits / 2 ^ q ≡ 0 → has u i ≡ true → Dec (i < q) → Dec (i < n) → inside q n i ≡ true
      each-inside i l e m (yes x) d = ap (λ b. b || leb n i) (lt-ltb i q x)
      each-inside i l e m (no x) (no y) = ap₂ ◌||◌ (le-ltb i q (omega arith)) (le-leb n i (omega arith))
      each-inside i l e m (no x) (yes y) = absurd (true_differs (S.each i l ∙ one_left i (omega arith) y (has u i) m)
          (ap (bit s.bits) (let z : i ≡ q + (i - q) = omega arith in z)
          ∙ sym (bit_shifted s.bits q (i - q)) ∙ ap (λ m. bit m (i - q)) e ∙ bit-zero (i - q)))

      clear : AllInside u q n → (j : ℕ) → Dec (q + j < max_variables) → bit s.bits (q + j) ≡ false
      clear A j (yes x) = S.each (q + j) x ∙ none_left (q + j) (has u (q + j)) (omega arith) (A (q + j) x)
      clear A j (no x) = bit_high s.bits max_variables (q + j) h (omega arith)

      go : (b : Bool) → eqb (s.bits / 2 ^ q) 0 ≡ b → Decides b (AllInside u q n)
      go true e = λ i l m. each-inside i l (eqb-true _ 0 e) m (dec_lt i q) (dec_lt i n)
      go false e = λ A. eqb-false _ 0 e (all-clear max_variables (s.bits / 2 ^ q) (let z : s.bits / 2 ^ q ≤ s.bits = shr_le s.bits q in omega arith)
          λ j l. bit_shifted s.bits q j ∙ clear A j (dec_lt (q + j) max_variables))

----------------------------------------------------------------
-- Halves

pub halves_whole : (u : Uses) → of_halves (low_half u) (high_half u) ≡ u
halves_whole u = ap (λ n. record { bits = n }) (let z : 65536 * (u.bits / 65536) + u.bits % 65536 ≡ u.bits = omega arith in z)
