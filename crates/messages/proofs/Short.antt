-- Every meaning is short.
use Prim.Native.Nat.{ℕ, ◌≤◌}
use native.Mathlib.Omega.{arith}
use mathlib.Core.Bool.{Bool, true, false, cond}
use mathlib.Core.List.{List}
use lib.ListN.{length}
use lib.Dec.{eqb, ltb}
use package.Rattle.messages.specs.Meanings.{reading_meaning, typing_meaning, call_meaning, run_meaning, keeping_meaning, meaning_of}

record Short (xs : List ℕ) : Type 0 where
  short : length xs ≤ 80

either : (b : Bool) {x y : List ℕ} → Short x → Short y → Short (cond b x y)
either true h k = h
either false h k = k

pub meaning-short : (n : ℕ) → length (meaning_of n) ≤ 80
unfolding meaning_of reading_meaning typing_meaning call_meaning run_meaning keeping_meaning
meaning-short n = all.short
  where
    s : {xs : List ℕ} → length xs ≤ 80 → Short xs
    s h = record { short = h }

    all : Short (meaning_of n)
    all =
        either (ltb n 6) (either (eqb n 1) (s (omega arith)) (either (eqb n 2) (s (omega arith)) (either (eqb n 3) (s (omega arith)) (either (eqb n 4) (s (omega arith)) (s (omega arith))))))
        (either (ltb n 9) (either (eqb n 6) (s (omega arith)) (either (eqb n 7) (s (omega arith)) (s (omega arith))))
        (either (ltb n 12) (either (eqb n 9) (s (omega arith)) (either (eqb n 10) (s (omega arith)) (s (omega arith))))
        (either (ltb n 17) (either (eqb n 12) (s (omega arith)) (either (eqb n 13) (s (omega arith)) (either (eqb n 14) (s (omega arith)) (either (eqb n 15) (s (omega arith)) (s (omega arith))))))
        (either (eqb n 17) (s (omega arith)) (either (eqb n 18) (s (omega arith)) (either (eqb n 19) (s (omega arith)) (s (omega arith))))))))
