-- Closed types within the limit on nodes, and entries that name lower ones alone (section 1).
use Rattle.std.specs.Prelude.{ℕ, ◌≤◌, ◌≡◌, true, List, get_or}
use package.Rattle.rules.specs.Limits.{max_nodes}
use package.Rattle.rules.specs.Ty.{Ty, nodes}
use package.Rattle.calls.specs.Entries.{TypeEntry, y_unit, TermEntry, n_unit}
use package.Rattle.calls.specs.Named.{types_of_type, terms_of_term, below}
unfoldable pub use package.Rattle.calls.specs.Named.{closed}

-- a closed type within the limit on nodes (section 1)
abbrev pub Plain : Ty → Type 0
Plain c = (closed 0 c ≡ true) × (nodes c ≤ max_nodes)

-- every entry names lower ones alone
abbrev pub Lower : List TypeEntry → Type 0
Lower ys = (i : ℕ) → below i (types_of_type (get_or ys i y_unit)) ≡ true

-- every term entry names lower ones alone
abbrev pub LowerTerms : List TermEntry → Type 0
LowerTerms ts = (k : ℕ) → below k (terms_of_term (get_or ts k n_unit)) ≡ true
