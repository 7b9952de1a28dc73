-- Laws of runs of bytes: one more zero, a whole copy.
use Prim.Native.Nat.{ℕ, suc, ◌+◌, ◌<◌, ◌≤◌}
use native.Mathlib.Omega.{arith}
use mathlib.Core.Path.{◌≡◌, sym, ap, ◌∙◌}
use mathlib.Core.List.{List, ◌++◌, append-nil}
use lib.ListN.{length, get_or, set, take, drop, replicate, drop_of_length-le}
use lib.Seq.{paste, paste-suc, take-length}
use package.Rattle.octets.specs.Runs.{pasted}

-- `n` zeros in front of what is left of `xs`
abbrev pub zeroed : List ℕ → ℕ → List ℕ
zeroed xs n = replicate n 0 ++ drop n xs

-- all zeros
pub zeroed-all : (xs : List ℕ) (n : ℕ) → length xs ≡ n → zeroed xs n ≡ replicate (length xs) 0
zeroed-all xs n e =
    ap (λ r. replicate n 0 ++ r) (drop_of_length-le xs (let z : length xs ≤ n = omega arith in z)) ∙ append-nil (replicate n 0) ∙ ap (λ k. replicate k 0) (sym e)

-- one more byte of a copy
pub pasted-suc : (xs : List ℕ) (at : ℕ) (ys : List ℕ) (n : ℕ) (zs : List ℕ) → zs ≡ paste xs at ys n → at + n < length xs → n < length ys
    → set zs (at + n) (get_or ys n 0) ≡ paste xs at ys (n + 1)
pasted-suc xs at ys n zs e h h' =
    ap (λ zs. set zs (at + n) (get_or ys n 0)) e ∙ paste-suc xs at ys n 0 h h' ∙ ap (paste xs at ys) (let z : suc n ≡ n + 1 = omega arith in z)

-- a copy of all of `ys`
pub pasted-all : (xs : List ℕ) (at : ℕ) (ys : List ℕ) (n : ℕ) → length ys ≡ n → paste xs at ys n ≡ pasted xs at ys
unfolding pasted
pasted-all xs at ys n e = ap (λ k. paste xs at ys k) (sym e) ∙ ap (λ r. take at xs ++ r ++ drop (at + length ys) xs) (take-length ys)
