-- A run that is moved within its own bytes.
use Prim.Native.Nat.{ℕ, ◌+◌, ◌≤◌}
use native.Mathlib.Omega.{arith}
use mathlib.Core.Path.{◌≡◌, sym, ap}
use mathlib.Core.List.{List, ◌++◌}
use lib.ListN.{length, take, drop, length-drop}
use lib.Seq.{length-take-le, paste}
use package.Rattle.octets.specs.Runs.{pasted}

-- the run of `n` bytes from index `from` on
abbrev pub run : List ℕ → ℕ → ℕ → List ℕ
run xs from n = take n (drop from xs)

pub length_run : (xs : List ℕ) (from n : ℕ) → from + n ≤ length xs → length (run xs from n) ≡ n
length_run xs from n h = length-take-le n (drop from xs) (omega (arith, length-drop from xs))

-- a run that was moved
pub moved : (xs : List ℕ) (from to n : ℕ) → from + n ≤ length xs → paste xs to (drop from xs) n ≡ pasted xs to (run xs from n)
unfolding pasted
moved xs from to n h =
    ap (λ k. take to xs ++ run xs from n ++ drop (to + k) xs) (sym (length_run xs from n h))
