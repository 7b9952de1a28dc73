-- Zeros to the end.
use Prim.Native.Nat.{ℕ}
use mathlib.Core.Path.{◌≡◌, refl, ap}
use mathlib.Core.Bool.{◌&&◌}
use mathlib.Core.List.{List, [], ◌∷◌}
use lib.Dec.{eqb}
use Rattle.std.specs.List.{list_all}
use package.Rattle.calls.specs.Journal.{all_zero}

pub zeros_all : (xs : List ℕ) → list_all (λ x. eqb x 0) xs ≡ all_zero xs
unfolding all_zero
zeros_all [] = refl
zeros_all (x ∷ xs) = ap (λ b. eqb x 0 && b) (zeros_all xs)
