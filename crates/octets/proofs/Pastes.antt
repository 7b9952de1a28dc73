-- Laws of runs put into bytes: lengths, what stands before and behind, one run behind another, and numbers as runs.
use Prim.Native.Nat.{ℕ, suc, ◌+◌, ◌/◌, ◌%◌, ◌<◌, ◌≤◌}
use native.Mathlib.Omega.{arith}
use mathlib.Core.Path.{◌≡◌, refl, sym, ap, ap₂, ◌∙◌}
use mathlib.Core.List.{List, [], ◌∷◌, ◌++◌, append_assoc}
use lib.ListN.{length, get_or, set, take, drop, length-append, length-drop, get_or-append}
use lib.Seq.{length-take-le, set_split, take_at, drop_at, take-append-le, take-take, get_or-take, drop-drop}
use borrow.Rule.Slice.PartMut.{put_mid}
use Rattle.std.specs.Int.{w16, w32, to_be_bytes}
use package.Rattle.octets.specs.Numbers.{bytes16, bytes32, put16, put32}
use package.Rattle.octets.specs.Runs.{pasted}
use package.Rattle.octets.proofs.Numbers.{length-bytes16, length-bytes32}

----------------------------------------------------------------
-- A part that is overwritten

pub part_pasted : (xs : List ℕ) (at k : ℕ) {ys zs : List ℕ} → k ≡ length zs → ys ≡ zs → put_mid at k xs ys ≡ pasted xs at zs
unfolding pasted
part_pasted xs at k {ys} {zs} e s =
    ap₂ (λ n l. take at xs ++ (l ++ drop n (drop at xs))) e s ∙ sym (append_assoc (take at xs) zs _)
    ∙ ap (λ r. take at xs ++ zs ++ r) (drop-drop (length zs) at xs)

-- the library's bytes of a number, the high one first
be_bytes16 : (n : ℕ) → to_be_bytes w16 n ≡ bytes16 n
unfolding bytes16
be_bytes16 n = refl

be_bytes32 : (n : ℕ) → to_be_bytes w32 n ≡ bytes32 n
unfolding bytes32 bytes16
be_bytes32 n =
    ap₂ (λ x y. x ∷ y)
    (let e : n / 16777216 % 256 ≡ n / 65536 / 256 % 256 = omega arith in e)
    (ap₂ (λ x y. n / 65536 % 256 ∷ x ∷ y ∷ [])
    (let e : n / 256 % 256 ≡ n % 65536 / 256 % 256 = omega arith in e)
    (let e : n % 256 ≡ n % 65536 % 256 = omega arith in e))

----------------------------------------------------------------
-- A run in its place

module _ (xs : List ℕ) (at : ℕ) (ys : List ℕ) (h : at + length ys ≤ length xs) where
  length_front : length (take at xs ++ ys) ≡ at + length ys
  length_front = length-append (take at xs) ys ∙ omega (arith, length-take-le at xs (omega arith))

  pub length-pasted : length (pasted xs at ys) ≡ length xs
  unfolding pasted
  length-pasted = length-append (take at xs ++ ys) (drop (at + length ys) xs) ∙ omega (arith, length_front, length-drop (at + length ys) xs)

  -- the run, and what stands before it
  pub take-pasted : take (at + length ys) (pasted xs at ys) ≡ take at xs ++ ys
  unfolding pasted
  take-pasted = take_at (take at xs ++ ys) (drop (at + length ys) xs) (at + length ys) length_front

  pub drop-pasted : drop (at + length ys) (pasted xs at ys) ≡ drop (at + length ys) xs
  unfolding pasted
  drop-pasted = drop_at (take at xs ++ ys) (drop (at + length ys) xs) (at + length ys) length_front

  -- a byte before the run
  pub get_d_pasted_low : (i : ℕ) → i < at → get_or (pasted xs at ys) i 0 ≡ get_or xs i 0
  unfolding pasted
  get_d_pasted_low i l =
      get_or-append (take at xs ++ ys) (drop (at + length ys) xs) 0 i (omega (arith, length_front))
      ∙ get_or-append (take at xs) ys 0 i (omega (arith, length-take-le at xs (omega arith)))
      ∙ get_or-take at xs i 0 l

  -- one run behind another
  pub pasted-behind : (zs : List ℕ) → pasted (pasted xs at ys) (at + length ys) zs ≡ pasted xs at (ys ++ zs)
  unfolding pasted
  pasted-behind zs =
      ap₂ (λ f r. f ++ zs ++ r) take-pasted rest ∙ ap (λ f. f ++ drop (at + length (ys ++ zs)) xs) (append_assoc (take at xs) ys zs)
    where
      long : at + length ys + length zs ≡ at + length (ys ++ zs)
      long = omega (arith, length-append ys zs)

      rest : drop (at + length ys + length zs) (pasted xs at ys) ≡ drop (at + length (ys ++ zs)) xs
      rest =
          sym (drop-drop (length zs) (at + length ys) (pasted xs at ys)) ∙ ap (drop (length zs)) drop-pasted
          ∙ drop-drop (length zs) (at + length ys) xs ∙ ap (λ n. drop n xs) long

-- one run before another
pub pasted-before : (xs : List ℕ) (at : ℕ) (ys zs : List ℕ) → at + length ys + length zs ≤ length xs
    → pasted (pasted xs (at + length ys) zs) at ys ≡ pasted xs at (ys ++ zs)
unfolding pasted
pasted-before xs at ys zs h =
    ap₂ (λ f r. f ++ ys ++ r) front back ∙ sym (append_assoc (take at xs ++ ys) zs rest) ∙ ap (λ f. f ++ rest) (append_assoc (take at xs) ys zs)
    ∙ ap (λ n. take at xs ++ (ys ++ zs) ++ drop n xs) (let z : at + length ys + length zs ≡ at + length (ys ++ zs) = omega (arith, length-append ys zs) in z)
  where
    rest : List ℕ
    rest = drop (at + length ys + length zs) xs

    within : length (take (at + length ys) xs) ≡ at + length ys
    within = length-take-le (at + length ys) xs (omega arith)

    front : take at (pasted xs (at + length ys) zs) ≡ take at xs
    front =
        ap (take at) (append_assoc (take (at + length ys) xs) zs rest) ∙ take-append-le at (take (at + length ys) xs) (zs ++ rest) (omega (arith, within))
        ∙ take-take at (at + length ys) xs (omega arith)

    back : drop (at + length ys) (pasted xs (at + length ys) zs) ≡ zs ++ rest
    back = ap (drop (at + length ys)) (append_assoc (take (at + length ys) xs) zs rest) ∙ drop_at (take (at + length ys) xs) (zs ++ rest) (at + length ys) within

----------------------------------------------------------------
-- Numbers as runs

-- one byte
pub set-pasted : (xs : List ℕ) (i a : ℕ) → i < length xs → set xs i a ≡ pasted xs i (a ∷ [])
unfolding pasted
set-pasted xs i a h =
    set_split xs i a h ∙ sym (append_assoc (take i xs) (a ∷ []) (drop (suc i) xs)) ∙ ap (λ n. take i xs ++ (a ∷ []) ++ drop n xs) (let z : suc i ≡ i + 1 = omega arith in z)

pub put16-pasted : (xs : List ℕ) (i n : ℕ) → i + 2 ≤ length xs → put16 xs i n ≡ pasted xs i (bytes16 n)
unfolding put16 bytes16
put16-pasted xs i n h =
    let a = n / 256 % 256 in
    let b = n % 256 in
    set-pasted (set xs i a) (i + 1) b (omega (arith, ap length (set-pasted xs i a (omega arith)), length-pasted xs i (a ∷ []) (omega arith)))
    ∙ ap (λ s. pasted s (i + 1) (b ∷ [])) (set-pasted xs i a (omega arith))
    ∙ pasted-behind xs i (a ∷ []) (omega arith) (b ∷ [])

pub put32-pasted : (xs : List ℕ) (i n : ℕ) → i + 4 ≤ length xs → put32 xs i n ≡ pasted xs i (bytes32 n)
unfolding put32 bytes32 bytes16
put32-pasted xs i n h =
    let a = bytes16 (n / 65536) in
    put16-pasted (put16 xs i (n / 65536)) (i + 2) (n % 65536)
    (omega (arith, ap length (put16-pasted xs i (n / 65536) (omega arith)), length-pasted xs i a (omega arith)))
    ∙ ap (λ s. pasted s (i + 2) (bytes16 (n % 65536))) (put16-pasted xs i (n / 65536) (omega arith))
    ∙ pasted-behind xs i a (omega arith) (bytes16 (n % 65536))

-- the library's bytes of a number in place of a part
pub part-put16 : (xs : List ℕ) (i k : ℕ) {ys : List ℕ} (n : ℕ) → i + 2 ≤ length xs → k ≡ 2 → ys ≡ to_be_bytes w16 n → put_mid i k xs ys ≡ put16 xs i n
part-put16 xs i k n h e s = part_pasted xs i k (e ∙ sym (length-bytes16 n)) (s ∙ be_bytes16 n) ∙ sym (put16-pasted xs i n h)

pub part-put32 : (xs : List ℕ) (i k : ℕ) {ys : List ℕ} (n : ℕ) → i + 4 ≤ length xs → k ≡ 4 → ys ≡ to_be_bytes w32 n → put_mid i k xs ys ≡ put32 xs i n
part-put32 xs i k n h e s = part_pasted xs i k (e ∙ sym (length-bytes32 n)) (s ∙ be_bytes32 n) ∙ sym (put32-pasted xs i n h)
