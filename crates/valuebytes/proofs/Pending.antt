-- Counting the values still to come agrees with reading: the bytes of `n` values one after another are found without a tree.
use Prim.Native.Nat.{ℕ, zero, suc, ◌+◌, ◌≤◌, ◌<◌}
use native.Mathlib.Omega.{arith}
use native.Mathlib.Nat.{le_refl}
use mathlib.Core.Path.{◌≡◌, refl, sym, ap, ◌∙◌}
use mathlib.Core.Option.{Option, none, some}
use mathlib.Core.List.{List, [], ◌∷◌}
use lib.ListN.{length}
use package.Rattle.rules.specs.Val.{Val, inl, inr, pair, roll, size}
use package.Rattle.rules.proofs.Basics.{none≢some, some_inj}
use package.Rattle.calls.specs.Values.{Read, got, malformed, then, read}
use package.Rattle.calls.proofs.Values.{read-sound, length-encode-append}
use package.Rattle.valuebytes.specs.Ends.{pending, first_of}

----------------------------------------------------------------
-- How many bytes

-- so many bytes more
unfoldable pub more : ℕ → Option ℕ → Option ℕ
more n none = none
more n (some m) = some (n + m)

pub more-more : (a b c : ℕ) (x : Option ℕ) → a + b ≡ c → more a (more b x) ≡ more c x
unfolding more
more-more a b c none e = refl
more-more a b c (some m) e = ap some (let z : a + (b + m) ≡ c + m = omega arith in z)

-- how many bytes the next `n` values take, if they are values
unfoldable pub bytes_of : List ℕ → ℕ → Option ℕ
unfolding more
bytes_of [] zero = some 0
bytes_of [] (suc n) = none
bytes_of (x ∷ xs) zero = some 0
bytes_of (zero ∷ xs) (suc n) = more 1 (bytes_of xs n)
bytes_of (suc zero ∷ xs) (suc n) = more 1 (bytes_of xs (suc n))
bytes_of (suc (suc zero) ∷ xs) (suc n) = more 1 (bytes_of xs (suc n))
bytes_of (suc (suc (suc zero)) ∷ xs) (suc n) = more 1 (bytes_of xs (suc (suc n)))
bytes_of (suc (suc (suc (suc zero))) ∷ xs) (suc n) = more 1 (bytes_of xs (suc n))
bytes_of (suc (suc (suc (suc (suc b)))) ∷ xs) (suc n) = none

pub bytes_none : (xs : List ℕ) → bytes_of xs 0 ≡ some 0
unfolding bytes_of
bytes_none [] = refl
bytes_none (x ∷ xs) = refl

----------------------------------------------------------------
-- Reading

-- what was read, and `n` values behind it
unfoldable pub behind : Read → ℕ → Option ℕ
behind (got v xs) n = more (size v) (bytes_of xs n)
behind malformed n = none

-- a value under a constructor that adds `a` bytes
behind-under : (c : Val → Val) (a : ℕ) → ((v : Val) → size (c v) ≡ a + size v) → (r : Read) (n : ℕ)
    → more a (behind r n) ≡ behind (then r λ v xs. got (c v) xs) n
unfolding behind then more
behind-under c a s (got v xs) n = more-more a (size v) (size (c v)) (bytes_of xs n) (sym (s v))
behind-under c a s malformed n = refl

pub read_shorter : (k : ℕ) (xs : List ℕ) {v : Val} {ys : List ℕ} → read k xs ≡ got v ys → length xs ≡ size v + length ys
read_shorter k xs {v} {ys} e = ap length (read-sound k xs e) ∙ length-encode-append v ys

-- the two values of a pair; `rest` is the law for the second
behind-pair : (k : ℕ) (xs : List ℕ) (n : ℕ) → length xs ≤ k → ((ys : List ℕ) → length ys ≤ k → bytes_of ys (suc n) ≡ behind (read k ys) n)
    → (r : Read) → read k xs ≡ r → more 1 (behind r (suc n)) ≡ behind (then r λ v xs. then (read k xs) λ w xs. got (pair v w) xs) n
unfolding behind then more size
behind-pair k xs n h rest (got v ys) e =
    more-more 1 (size v) (suc (size v)) (bytes_of ys (suc n)) (omega arith)
    ∙ ap (more (suc (size v))) (rest ys (omega (arith, read_shorter k xs e)))
    ∙ behind-under (pair v) (suc (size v)) (λ w. omega arith) (read k ys) n
behind-pair k xs n h rest malformed e = refl

pub bytes_read : (k : ℕ) (xs : List ℕ) (n : ℕ) → length xs ≤ k → bytes_of xs (suc n) ≡ behind (read k xs) n
unfolding read bytes_of behind size
bytes_read zero [] n h = refl
bytes_read zero (x ∷ xs) n h = absurd (omega arith)
bytes_read (suc k) [] n h = refl
bytes_read (suc k) (zero ∷ xs) n h = refl
bytes_read (suc k) (suc zero ∷ xs) n h = ap (more 1) (bytes_read k xs n (omega arith)) ∙ behind-under inl 1 (λ v. omega arith) (read k xs) n
bytes_read (suc k) (suc (suc zero) ∷ xs) n h = ap (more 1) (bytes_read k xs n (omega arith)) ∙ behind-under inr 1 (λ v. omega arith) (read k xs) n
bytes_read (suc k) (suc (suc (suc zero)) ∷ xs) n h =
    ap (more 1) (bytes_read k xs (suc n) (omega arith)) ∙ behind-pair k xs n (omega arith) (λ ys l. bytes_read k ys n l) (read k xs) refl
bytes_read (suc k) (suc (suc (suc (suc zero))) ∷ xs) n h = ap (more 1) (bytes_read k xs n (omega arith)) ∙ behind-under roll 1 (λ v. omega arith) (read k xs) n
bytes_read (suc k) (suc (suc (suc (suc (suc b)))) ∷ xs) n h = refl

-- the size of what was read
unfoldable pub size_of : Read → Option ℕ
size_of (got v xs) = some (size v)
size_of malformed = none

behind_none : (r : Read) → behind r 0 ≡ size_of r
unfolding behind size_of more
behind_none (got v xs) = rw (bytes_none xs) (ap some (let z : size v + 0 ≡ size v = omega arith in z))
behind_none malformed = refl

pub bytes-first : (xs : List ℕ) → bytes_of xs 1 ≡ size_of (first_of xs)
bytes-first xs = bytes_read (length xs) xs 0 (le_refl _) ∙ behind_none (first_of xs)

----------------------------------------------------------------
-- One byte more

pub bytes-turn : (k : ℕ) (xs : List ℕ) (n : ℕ) → k ≤ 4 → bytes_of (k ∷ xs) (suc n) ≡ more 1 (bytes_of xs (pending k n))
unfolding bytes_of pending
bytes-turn zero xs n h = refl
bytes-turn (suc zero) xs n h = refl
bytes-turn (suc (suc zero)) xs n h = refl
bytes-turn (suc (suc (suc zero))) xs n h = refl
bytes-turn (suc (suc (suc (suc zero)))) xs n h = refl
bytes-turn (suc (suc (suc (suc (suc k))))) xs n h = absurd (omega arith)

pub bytes-over : (k : ℕ) (xs : List ℕ) (n : ℕ) → 4 < k → bytes_of (k ∷ xs) (suc n) ≡ none
unfolding bytes_of
bytes-over zero xs n h = absurd (omega arith)
bytes-over (suc zero) xs n h = absurd (omega arith)
bytes-over (suc (suc zero)) xs n h = absurd (omega arith)
bytes-over (suc (suc (suc zero))) xs n h = absurd (omega arith)
bytes-over (suc (suc (suc (suc zero)))) xs n h = absurd (omega arith)
bytes-over (suc (suc (suc (suc (suc k))))) xs n h = refl

pub more_some : (a : ℕ) (x : Option ℕ) {m : ℕ} → more a x ≡ some m → a ≤ m
unfolding more
more_some a none e = absurd (none≢some e)
more_some a (some n) {m} e = let z : a + n ≡ m = some_inj e in omega arith

-- values have bytes
pub bytes_some : (xs : List ℕ) (n : ℕ) {m : ℕ} → bytes_of xs (suc n) ≡ some m → 0 < m
unfolding bytes_of
bytes_some [] n e = absurd (none≢some e)
bytes_some (zero ∷ xs) n e = more_some 1 (bytes_of xs n) e
bytes_some (suc zero ∷ xs) n e = more_some 1 (bytes_of xs (suc n)) e
bytes_some (suc (suc zero) ∷ xs) n e = more_some 1 (bytes_of xs (suc n)) e
bytes_some (suc (suc (suc zero)) ∷ xs) n e = more_some 1 (bytes_of xs (suc (suc n))) e
bytes_some (suc (suc (suc (suc zero))) ∷ xs) n e = more_some 1 (bytes_of xs (suc n)) e
bytes_some (suc (suc (suc (suc (suc b)))) ∷ xs) n e = absurd (none≢some e)
