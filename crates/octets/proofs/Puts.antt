-- Laws of numbers put into bytes: what was put is got, nothing below moves, lengths stay.
use Prim.Native.Nat.{ℕ, ◌+◌, ◌*◌, ◌/◌, ◌%◌, ◌<◌, ◌≤◌}
use native.Mathlib.Omega.{arith}
use mathlib.Core.Path.{◌≡◌, ◌∙◌}
use mathlib.Core.List.{List}
use lib.ListN.{length, get_or, set, length-set}
use lib.Seq.{get_or-set_same, get_or-set_other}
use package.Rattle.octets.specs.Numbers.{get16, get32, put16, put32}

----------------------------------------------------------------
-- Lengths

pub length-put16 : (xs : List ℕ) (i n : ℕ) → length (put16 xs i n) ≡ length xs
unfolding put16
length-put16 xs i n = simp length-set

pub length-put32 : (xs : List ℕ) (i n : ℕ) → length (put32 xs i n) ≡ length xs
unfolding put32
length-put32 xs i n = simp length-put16

----------------------------------------------------------------
-- What is below stays

-- a byte below a store
pub set-low : (xs : List ℕ) (i j n : ℕ) → j < i → get_or (set xs i n) j 0 ≡ get_or xs j 0
set-low xs i j n h = get_or-set_other xs i j n 0 (λ e. omega arith)

pub put16-low : (xs : List ℕ) (i n j : ℕ) → j < i → get_or (put16 xs i n) j 0 ≡ get_or xs j 0
unfolding put16
put16-low xs i n j h = set-low (set xs i (n / 256 % 256)) (i + 1) j (n % 256) (omega arith) ∙ set-low xs i j (n / 256 % 256) h

-- nor does anything else but the two bytes
pub put16-other : (xs : List ℕ) (i n j : ℕ) → ¬ (j ≡ i) → ¬ (j ≡ i + 1) → get_or (put16 xs i n) j 0 ≡ get_or xs j 0
unfolding put16
put16-other xs i n j a b = get_or-set_other (set xs i (n / 256 % 256)) (i + 1) j (n % 256) 0 b ∙ get_or-set_other xs i j (n / 256 % 256) 0 a

pub put32-low : (xs : List ℕ) (i n j : ℕ) → j < i → get_or (put32 xs i n) j 0 ≡ get_or xs j 0
unfolding put32
put32-low xs i n j h = put16-low (put16 xs i (n / 65536)) (i + 2) (n % 65536) j (omega arith) ∙ put16-low xs i (n / 65536) j h

----------------------------------------------------------------
-- Numbers from bytes that agree

pub get16-same : (xs ys : List ℕ) (i : ℕ) → ((j : ℕ) → j < i + 2 → get_or xs j 0 ≡ get_or ys j 0) → get16 xs i ≡ get16 ys i
unfolding get16
get16-same xs ys i h = cc (h i (omega arith), h (i + 1) (omega arith))

pub get32-same : (xs ys : List ℕ) (i : ℕ) → ((j : ℕ) → j < i + 4 → get_or xs j 0 ≡ get_or ys j 0) → get32 xs i ≡ get32 ys i
unfolding get32
get32-same xs ys i h = cc (get16-same xs ys i (λ j l. h j (omega arith)), get16-same xs ys (i + 2) (λ j l. h j (omega arith)))

----------------------------------------------------------------
-- What was put is got

pub get16-put16 : (xs : List ℕ) (i n : ℕ) → i + 2 ≤ length xs → n < 65536 → get16 (put16 xs i n) i ≡ n
unfolding get16 put16
get16-put16 xs i n h hn =
    let ys = set xs i (n / 256 % 256) in
    let a : get_or (set ys (i + 1) (n % 256)) i 0 ≡ n / 256 % 256 = set-low ys (i + 1) i (n % 256) (omega arith) ∙ get_or-set_same xs i (n / 256 % 256) 0 (omega arith) in
    let b : get_or (set ys (i + 1) (n % 256)) (i + 1) 0 ≡ n % 256 = get_or-set_same ys (i + 1) (n % 256) 0 (simp length-set (omega arith)) in
    omega (arith, a, b)

pub get32-put32 : (xs : List ℕ) (i n : ℕ) → i + 4 ≤ length xs → n < 65536 * 65536 → get32 (put32 xs i n) i ≡ n
unfolding get32 put32
get32-put32 xs i n h hn =
    let ys = put16 xs i (n / 65536) in
    let a : get16 (put16 ys (i + 2) (n % 65536)) i ≡ n / 65536 =
    get16-same _ ys i (λ j l. put16-low ys (i + 2) _ j l) ∙ get16-put16 xs i (n / 65536) (omega arith) (omega arith) in
    let b : get16 (put16 ys (i + 2) (n % 65536)) (i + 2) ≡ n % 65536 = get16-put16 ys (i + 2) (n % 65536) (simp length-put16 (omega arith)) (omega arith) in
    omega (arith, a, b)
