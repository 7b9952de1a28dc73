-- Decimal digits become a number and a number digits, a digit at a time (specs/Decimal).
use Prim.Native.Nat.{ℕ, zero, suc, ◌+◌, ◌*◌, ◌-◌, ◌/◌, ◌%◌, ◌^◌, ◌≤◌, ◌<◌}
use native.Mathlib.Omega.{arith}
use native.Mathlib.Nat.{div-lt_iff_lt-mul, pow-suc}
use mathlib.Core.Path.{◌≡◌, refl, sym, ap, ◌∙◌}
use mathlib.Core.Bool.{Bool, true, false, cond}
use Rattle.std.specs.Prelude.{Some, None}
use mathlib.Core.List.{List, [], ◌∷◌, ◌++◌}
use lib.ListN.{length, drop, get_or, length-append, drop_of_length-le}
use lib.Seq.{drop-cons}
use lib.Dec.{ltb}
use mathlib.Core.Logic.{◌⊎◌, inl, inr}
use borrow.Author.Tests.{lt-ltb, le-ltb, ltb-true, ltb-false}
use package.Rattle.calltext.specs.Decimal.{carried, number_in, text_in, decimal_text}

----------------------------------------------------------------
-- Reading: the first `i` digits carry 0 to `n`

pub no_digits : (most : ℕ) (w : List ℕ) → length w ≡ 0 → None ≡ number_in most w
unfolding number_in
no_digits most [] e = refl
no_digits most (b ∷ w) e = absurd (omega (arith, e))

pub some_digits : (most : ℕ) (w : List ℕ) → (length w ≡ 0 → ⊥) → number_in most w ≡ carried most 0 w
unfolding number_in
some_digits most [] e = absurd (e refl)
some_digits most (b ∷ w) e = refl

module _ (most n : ℕ) (w : List ℕ) (i : ℕ) (left : number_in most w ≡ carried most n (drop i w)) where
  module _ (h : i < length w) where
    -- the next byte, in front of the rest
    next : number_in most w ≡ carried most n (get_or w i 0 ∷ drop (i + 1) w)
    next = left ∙ ap (carried most n) (drop-cons w i 0 h ∙ ap (λ k. get_or w i 0 ∷ drop k w) (let z : suc i ≡ i + 1 = omega arith in z))

    pub stops_other : (get_or w i 0 < 48) ⊎ (57 < get_or w i 0) → None ≡ number_in most w
    unfolding carried
    stops_other (inl l) = sym (next ∙ rw (lt-ltb (get_or w i 0) 48 l))
    stops_other (inr l) = sym (next ∙ rw (le-ltb (get_or w i 0) 48 (omega arith), lt-ltb 57 (get_or w i 0) l))

    module _ (low : 48 ≤ get_or w i 0) (high : get_or w i 0 ≤ 57) (m : ℕ) (is : m ≡ n * 10 + (get_or w i 0 - 48)) where
      pub stops_large : most < m → None ≡ number_in most w
      unfolding carried
      stops_large l = sym (next ∙ rw (le-ltb (get_or w i 0) 48 low, le-ltb 57 (get_or w i 0) high, lt-ltb most _ (rw is at l)))

      pub carries : m ≤ most → number_in most w ≡ carried most m (drop (i + 1) w)
      unfolding carried
      carries l = next ∙ rw (le-ltb (get_or w i 0) 48 low, le-ltb 57 (get_or w i 0) high, le-ltb most _ (rw is at l), is)

  pub carried-all : length w ≤ i → Some n ≡ number_in most w
  unfolding carried
  carried-all h = sym (left ∙ ap (carried most n) (drop_of_length-le w h))

----------------------------------------------------------------
-- Writing

tenth_falls : (n : ℕ) → 10 ≤ n → n / 10 < n
tenth_falls n h = omega arith

text-more : (f g n : ℕ) (t : Bool) → ltb n 10 ≡ t → (10 ≤ n → text_in f (n / 10) ≡ text_in g (n / 10))
    → cond t ((48 + n) ∷ []) (text_in f (n / 10) ++ ((48 + n % 10) ∷ [])) ≡ cond t ((48 + n) ∷ []) (text_in g (n / 10) ++ ((48 + n % 10) ∷ []))
text-more f g n true e r = refl
text-more f g n false e r = ap (λ l. l ++ ((48 + n % 10) ∷ [])) (r (ltb-false n 10 e))

-- room beyond what a number needs changes nothing
more_room : (f g n : ℕ) → n < f → n < g → text_in f n ≡ text_in g n
unfolding text_in
more_room zero g n h h' = absurd (omega arith)
more_room (suc f) zero n h h' = absurd (omega arith)
more_room (suc f) (suc g) n h h' = text-more f g n (ltb n 10) refl λ ten. more_room f g (n / 10) (omega (arith, tenth_falls n ten)) (omega (arith, tenth_falls n ten))

pub one-digit : (n : ℕ) → n < 10 → (48 + n) ∷ [] ≡ decimal_text n
unfolding decimal_text
one-digit n h = sym (rw (lt-ltb n 10 h))

pub more_digits : (n : ℕ) → 10 ≤ n → decimal_text (n / 10) ++ ((48 + n % 10) ∷ []) ≡ decimal_text n
unfolding decimal_text
more_digits n h =
    ap (λ l. l ++ ((48 + n % 10) ∷ [])) (more_room (suc (n / 10)) n (n / 10) (omega arith) (tenth_falls n h)) ∙ sym (rw (le-ltb n 10 h))

pub longer_by_one : (n : ℕ) → 10 ≤ n → length (decimal_text n) ≡ length (decimal_text (n / 10)) + 1
longer_by_one n h = ap length (sym (more_digits n h)) ∙ length-append (decimal_text (n / 10)) ((48 + n % 10) ∷ [])

short_by : (k n : ℕ) (t : Bool) → ltb n 10 ≡ t → n < 10 ^ suc k → (10 ≤ n → length (decimal_text (n / 10)) ≤ k) → length (decimal_text n) ≤ suc k
short_by k n true e h r = omega (arith, ap length (one-digit n (ltb-true n 10 e)))
short_by k n false e h r = omega (arith, longer_by_one n (ltb-false n 10 e), r (ltb-false n 10 e))

short : (k n : ℕ) → n < 10 ^ suc k → length (decimal_text n) ≤ suc k
short zero n h = omega (arith, ap length (one-digit n h))
short (suc k) n h = short_by (suc k) n (ltb n 10) refl h λ ten. short k (n / 10) ((div-lt_iff_lt-mul (omega arith)).1 (rw (pow-suc 10 (suc k)) at h))

-- a number of 64 bits has at most 20 digits
pub at-most_twenty : (n : ℕ) → n < 2 ^ 64 → length (decimal_text n) ≤ 20
at-most_twenty n h = short 19 n (omega arith)
