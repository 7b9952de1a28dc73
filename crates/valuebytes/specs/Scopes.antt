-- A type entry under the recursive entries that enclose it (section 1: a bound variable's number is how many of them are skipped).
-- They stand in cells: `binders` has the recursive entry of each cell, `outer` the cell of what encloses it in turn. Cell 0 is none.
-- So the two parts of a product see the same cells, and nothing is copied. Laws: proofs/Scopes.
use Rattle.std.specs.Prelude.{ℕ, zero, suc, ◌-◌, cond, List, [], ◌∷◌, get_or, ltb}
use package.Rattle.rules.specs.Ty.{Ty, one, prod, sum, mu, tyvar}
use package.Rattle.calls.specs.Entries.{TypeEntry, type_of}

----------------------------------------------------------------
-- Closed types put for variables

-- the types `σ` put for the variables from `n` on, in order; they are closed, so nothing in them is shifted
unfoldable pub plugs : ℕ → List Ty → Ty → Ty
plugs n σ one = one
plugs n σ (prod a b) = prod (plugs n σ a) (plugs n σ b)
plugs n σ (sum a b) = sum (plugs n σ a) (plugs n σ b)
plugs n σ (mu a) = mu (plugs (suc n) σ a)
plugs n σ (tyvar k) = cond (ltb k n) (tyvar k) (get_or σ (k - n) one)

----------------------------------------------------------------
-- Scopes

-- the cell that `k` cells are skipped to, outward from cell `e`
unfoldable pub outward : ℕ → List ℕ → ℕ → ℕ
outward zero outer e = e
outward (suc k) outer e = get_or outer (outward k outer e) 0

-- the types that the cells from cell `e` outward stand for, the nearest first; a cell's outer cell is lower
unfoldable pub scope_below : ℕ → List TypeEntry → List ℕ → List ℕ → ℕ → List Ty
unfolding plugs
scope_below zero ys binders outer e = []
scope_below (suc n) ys binders outer zero = []
scope_below (suc n) ys binders outer (suc e) =
    plugs 0 (scope_below n ys binders outer (get_or outer (suc e) 0)) (type_of ys (get_or binders (suc e) 0))
    ∷ scope_below n ys binders outer (get_or outer (suc e) 0)

unfoldable pub scope_of : List TypeEntry → List ℕ → List ℕ → ℕ → List Ty
scope_of ys binders outer e = scope_below e ys binders outer e

-- the type that entry `i` is under cell `e`
unfoldable pub type_under : List TypeEntry → List ℕ → List ℕ → ℕ → ℕ → Ty
type_under ys binders outer e i = plugs 0 (scope_of ys binders outer e) (type_of ys i)
