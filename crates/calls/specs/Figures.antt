-- Nodes and free variables of type entries, counted bottom up, as the crates above do it. No claim of the calls speaks of it, since `plain`
-- (Named) is of trees; the promise of the tally does (02, F-4).
-- That the figures are those of the trees: proofs/Entries.
use Rattle.std.specs.Prelude.{ℕ, suc, ◌+◌, pred, min, max, List, [], ◌∷◌, ◌++◌, get_or}
use package.Rattle.rules.specs.Limits.{max_nodes}
use package.Rattle.rules.specs.Ty.{Ty, one, prod, sum, mu, tyvar}
use package.Rattle.calls.specs.Entries.{TypeEntry, y_unit, y_prod, y_sum, y_mu, y_var}

-- Counting stops one above the limit: an entry that nothing names may be exponentially large as a tree.
unfoldable pub ceiling : ℕ
ceiling = suc max_nodes

-- how many recursive types must still enclose a type so that it is closed
unfoldable pub free : Ty → ℕ
free one = 0
free (prod a b) = max (free a) (free b)
free (sum a b) = max (free a) (free b)
free (mu a) = pred (free a)
free (tyvar k) = suc k

-- nodes of an entry, given those of the lower ones
unfoldable pub nodes_of : List ℕ → TypeEntry → ℕ
unfolding ceiling
nodes_of ns y_unit = 1
nodes_of ns (y_prod a b) = min ceiling (suc (get_or ns a 0 + get_or ns b 0))
nodes_of ns (y_sum a b) = min ceiling (suc (get_or ns a 0 + get_or ns b 0))
nodes_of ns (y_mu a) = min ceiling (suc (get_or ns a 0))
nodes_of ns (y_var k) = 1

-- how many recursive entries must still enclose an entry so that it is closed, given the same of the lower ones
unfoldable pub free_of : List ℕ → TypeEntry → ℕ
free_of fs y_unit = 0
free_of fs (y_prod a b) = max (get_or fs a 0) (get_or fs b 0)
free_of fs (y_sum a b) = max (get_or fs a 0) (get_or fs b 0)
free_of fs (y_mu a) = pred (get_or fs a 0)
free_of fs (y_var k) = suc k

-- a figure of every entry, in order, after those of the lower ones
unfoldable pub figures : (List ℕ → TypeEntry → ℕ) → List ℕ → List TypeEntry → List ℕ
figures of ns [] = ns
figures of ns (y ∷ ys) = figures of (ns ++ (of ns y ∷ [])) ys
