-- What the test whether a value is of a type is given, and what it answers (section 4, row Call: refusal 11).
use Rattle.std.specs.Prelude.{ℕ, ◌+◌, ◌≤◌, ◌<◌, ◌≡◌, Bool, true, false, ◌&&◌, List, map, length, get_or, Option as Found, Some, None}
use Rattle.std.proofs.Math.Option.{Option, none, some}
use package.Rattle.rules.specs.Limits.{max_value_bytes, fits}
use package.Rattle.rules.specs.Val.{Val, size}
use package.Rattle.rules.specs.Ty.{Ty}
use package.Rattle.calls.specs.Fields.{kind_at}
use package.Rattle.calls.specs.Entries.{TypeEntry, y_unit, type_at, type_of}
use package.Rattle.calls.specs.Named.{types_of_type, below, plain}
use package.Rattle.calls.specs.Values.{Read, got, malformed, has_ty}
use package.Rattle.calls.specs.Tested.{closed}
use package.Rattle.program.specs.Parts.{TypeField}
use package.Rattle.program.specs.Kinds.{type_variable_kind, recursive_kind}
use package.Rattle.valuebytes.specs.declared.walk.Scoped.{Scoped}
use package.Rattle.valuebytes.specs.Scopes.{scope_of, type_under}

----------------------------------------------------------------
-- The program's types

-- the entries whose fields are at the offsets `os` of the program `xs`
abbrev pub entries_of : List ℕ → List ℕ → List TypeEntry
entries_of xs os = map (type_at xs) os

-- type entries that were read, and name lower ones
pub record TypesRead (xs os : List ℕ) : Type 0 where
  pub field : (i : ℕ) → i < length os → TypeField xs (get_or os i 0)
  pub lower : (i : ℕ) → below i (types_of_type (get_or (entries_of xs os) i y_unit)) ≡ true

-- entry `i` is there, and its type is closed and within the limit on nodes
abbrev pub Asked : List ℕ → List ℕ → ℕ → Type 0
Asked xs os i = (i < length os) × (plain (entries_of xs os) i ≡ true)

----------------------------------------------------------------
-- Cells

-- room for cells, and for pending types: one at the start, and one more for each byte of a value
abbrev pub room : ℕ
room = max_value_bytes + 1

-- cell `e` has a recursive entry that is closed under lower cells
pub record Cell (xs os binders outer : List ℕ) (e : ℕ) : Type 0 where
  pub lower : get_or outer e 0 < e
  pub known : get_or binders e 0 < length os
  pub recursive : kind_at xs (get_or os (get_or binders e 0) 0) ≡ recursive_kind
  pub closes : closed (length (scope_of (entries_of xs os) binders outer (get_or outer e 0))) (type_of (entries_of xs os) (get_or binders e 0)) ≡ true

-- cells 1 to `top`
pub record Cells (xs os binders outer : List ℕ) (top : ℕ) : Type 0 where
  pub cell : (e : ℕ) → 0 < e → e ≤ top → Cell xs os binders outer e

-- entry `i` is closed under cell `e`
pub record Bound (xs os binders outer : List ℕ) (top e i : ℕ) : Type 0 where
  pub known : i < length os
  pub within : e ≤ top
  pub closes : closed (length (scope_of (entries_of xs os) binders outer e)) (type_of (entries_of xs os) i) ≡ true

-- the same type, by an entry that is no variable
pub record Resolved (xs os binders outer : List ℕ) (t r : Scoped) : Type 0 where
  pub bound : Bound xs os binders outer t.cell r.cell r.entry
  pub shown : kind_at xs (get_or os r.entry 0) < type_variable_kind
  pub same : type_under (entries_of xs os) binders outer r.cell r.entry ≡ type_under (entries_of xs os) binders outer t.cell t.entry

----------------------------------------------------------------
-- The test

-- Is it a value, and of the type?
unfoldable pub value_has : Option Val → Ty → Bool
value_has none c = false
value_has (some v) c = has_ty v c

abbrev pub next_if : Bool → ℕ → Found ℕ
next_if true n = Some n
next_if false n = None

-- where the next value starts, if what was read from place `at` is within the limit and of the type
unfoldable pub next_of : ℕ → Read → Ty → Found ℕ
next_of at (got v xs) c = next_if (fits v && has_ty v c) (at + size v)
next_of at malformed c = None
