-- The kinds of type and term entries by name, as src/kinds.rt has them for code (document 01, section 1). A call's: calls/specs/Fields.
use Rattle.std.specs.Prelude.{ℕ}
pub use package.Rattle.calls.specs.Fields.{call_kind}

----------------------------------------------------------------
-- Types

abbrev pub unit_type_kind : ℕ
unit_type_kind = 0

abbrev pub product_kind : ℕ
product_kind = 1

abbrev pub sum_kind : ℕ
sum_kind = 2

abbrev pub recursive_kind : ℕ
recursive_kind = 3

abbrev pub type_variable_kind : ℕ
type_variable_kind = 4

-- how many there are
abbrev pub type_kinds : ℕ
type_kinds = 5

----------------------------------------------------------------
-- Terms

abbrev pub variable_kind : ℕ
variable_kind = 0

abbrev pub unit_kind : ℕ
unit_kind = 1

abbrev pub inl_kind : ℕ
inl_kind = 2

abbrev pub inr_kind : ℕ
inr_kind = 3

abbrev pub pair_kind : ℕ
pair_kind = 4

abbrev pub let_kind : ℕ
let_kind = 5

abbrev pub let_pair_kind : ℕ
let_pair_kind = 6

abbrev pub case_kind : ℕ
case_kind = 7

abbrev pub roll_kind : ℕ
roll_kind = 9

abbrev pub unroll_kind : ℕ
unroll_kind = 10

-- how many there are
abbrev pub term_kinds : ℕ
term_kinds = 11
