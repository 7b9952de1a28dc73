-- The bytes that typing is lent: product nodes, then what is kept of each type entry, then hints at products.
use Rattle.std.specs.Prelude.{ℕ, ◌+◌, ◌*◌}
use package.Rattle.rules.specs.Limits.{max_types, max_terms}

-- a product node: two codes of six bytes and the nodes of its tree
abbrev pub node_bytes : ℕ
node_bytes = 14

-- the figures of an entry: its number, its free variables, how often the outermost of these stands in it; then what an alias is kept for, and the
-- alias: two bytes each
abbrev pub figure_bytes : ℕ
figure_bytes = 10

-- as many products as there can be terms
abbrev pub figures_from : ℕ
figures_from = node_bytes * max_terms

abbrev pub hints_from : ℕ
hints_from = figures_from + figure_bytes * max_types

-- a hint: a code, six bytes
abbrev pub hint_bytes : ℕ
hint_bytes = 6

-- a prime, about as many as there can be products
abbrev pub hint_slots : ℕ
hint_slots = 1021

abbrev pub typing_bytes : ℕ
typing_bytes = hints_from + hint_bytes * hint_slots
