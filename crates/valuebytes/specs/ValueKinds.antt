-- The kinds of values by their first bytes (section 1: 00 unit, 01 inl, 02 inr, 03 pair, 04 roll), and which byte begins no value.
use Rattle.std.specs.Prelude.{ℕ, ◌≡◌, ◌≤◌, Result, MatchResult}
use package.Rattle.program.specs.declared.kinds.UnknownKind.{UnknownKind}
use package.Rattle.valuebytes.specs.declared.kinds.ValueKind.{ValueKind}
use package.Rattle.valuebytes.specs.declared.kinds.ValueKind.TheVariants as V

abbrev pub value_kind_number : ValueKind → ℕ
value_kind_number V.Unit = 0
value_kind_number V.Inl = 1
value_kind_number V.Inr = 2
value_kind_number V.Pair = 3
value_kind_number V.Roll = 4

-- the kind that begins with this byte, or the byte back, with which no value begins
abbrev pub IsValueKind : ℕ → Result ValueKind UnknownKind → Type 0
IsValueKind byte r = MatchResult r (λ kind. value_kind_number kind ≡ byte) (λ e. (e.0 ≡ byte) × (5 ≤ byte))
