-- The numbers of the kinds that src/kinds.rt has as enums, and which number is no kind's.
use Rattle.std.specs.Prelude.{ℕ, ◌≡◌, ◌≤◌, Result, MatchResult}
use package.Rattle.program.specs.declared.kinds.TypeKind.{TypeKind}
use package.Rattle.program.specs.declared.kinds.TypeKind.TheVariants as T
use package.Rattle.program.specs.declared.kinds.TermKind.{TermKind}
use package.Rattle.program.specs.declared.kinds.TermKind.TheVariants as N
use package.Rattle.program.specs.declared.kinds.UnknownKind.{UnknownKind}
use package.Rattle.program.specs.Kinds.{unit_type_kind, product_kind, sum_kind, recursive_kind, type_variable_kind, type_kinds, variable_kind, unit_kind, inl_kind, inr_kind, pair_kind, let_kind, let_pair_kind, case_kind, call_kind, roll_kind, unroll_kind, term_kinds}

abbrev pub type_kind_number : TypeKind → ℕ
type_kind_number T.Unit = unit_type_kind
type_kind_number T.Product = product_kind
type_kind_number T.Sum = sum_kind
type_kind_number T.Recursive = recursive_kind
type_kind_number T.Variable = type_variable_kind

abbrev pub term_kind_number : TermKind → ℕ
term_kind_number N.Variable = variable_kind
term_kind_number N.Unit = unit_kind
term_kind_number N.Inl = inl_kind
term_kind_number N.Inr = inr_kind
term_kind_number N.Pair = pair_kind
term_kind_number N.Let = let_kind
term_kind_number N.LetPair = let_pair_kind
term_kind_number N.Case = case_kind
term_kind_number N.Call = call_kind
term_kind_number N.Roll = roll_kind
term_kind_number N.Unroll = unroll_kind

-- the kind that has this number, or the number back, which no kind has
abbrev pub IsTypeKind : ℕ → Result TypeKind UnknownKind → Type 0
IsTypeKind number r = MatchResult r (λ kind. type_kind_number kind ≡ number) (λ e. (e.0 ≡ number) × (type_kinds ≤ number))

abbrev pub IsTermKind : ℕ → Result TermKind UnknownKind → Type 0
IsTermKind number r = MatchResult r (λ kind. term_kind_number kind ≡ number) (λ e. (e.0 ≡ number) × (term_kinds ≤ number))
