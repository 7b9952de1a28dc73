-- The references of one entry as runs of two-byte numbers in its field: how many name types, functions and terms, by kind, and from
-- where on. That the runs are what the entry names: proofs/Lists.
use Rattle.std.specs.Prelude.{ℕ, ◌+◌, ◌*◌, cond, List, [], ◌∷◌, get_or, eqb}
use package.Rattle.calls.specs.Fields.{call_kind, kind_at, length_at}
use package.Rattle.calls.specs.Entries.{call_ancillae}

-- of each kind of type: unit, product, sum, recursive, bound variable
unfoldable pub type_types : List ℕ
type_types = 0 ∷ 2 ∷ 2 ∷ 1 ∷ 0 ∷ []

-- of each kind of term: variable, unit, inl, inr, pair, let, let pair, case, call, roll, unroll
unfoldable pub term_types : List ℕ
term_types = 0 ∷ 0 ∷ 1 ∷ 1 ∷ 0 ∷ 0 ∷ 0 ∷ 0 ∷ 0 ∷ 1 ∷ 1 ∷ []

unfoldable pub term_functions : List ℕ
term_functions = 0 ∷ 0 ∷ 0 ∷ 0 ∷ 0 ∷ 0 ∷ 0 ∷ 0 ∷ 1 ∷ 0 ∷ 0 ∷ []

-- a call has its ancilla terms besides
unfoldable pub term_terms : List ℕ
term_terms = 0 ∷ 0 ∷ 1 ∷ 1 ∷ 2 ∷ 2 ∷ 2 ∷ 3 ∷ 1 ∷ 1 ∷ 1 ∷ []

-- A type's references to types, and a term's to a type or a function, stand from place 4 of the field on.
abbrev pub types_in_type : List ℕ → ℕ → ℕ
types_in_type xs at = get_or type_types (kind_at xs at) 0

abbrev pub types_in_term : List ℕ → ℕ → ℕ
types_in_term xs at = get_or term_types (kind_at xs at) 0

abbrev pub functions_in_term : List ℕ → ℕ → ℕ
functions_in_term xs at = get_or term_functions (kind_at xs at) 0

-- The terms come after a type or a function.
unfoldable pub terms_from : List ℕ → ℕ → ℕ
terms_from xs at = at + 4 + 2 * (types_in_term xs at + functions_in_term xs at)

unfoldable pub terms_in_term : List ℕ → ℕ → ℕ
terms_in_term xs at = cond (eqb (kind_at xs at) call_kind) (call_ancillae (length_at xs at)) 0 + get_or term_terms (kind_at xs at) 0
