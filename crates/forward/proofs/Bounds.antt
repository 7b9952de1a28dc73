-- What evaluation reads is there: rows of terms and functions, and slots.
use Prim.Native.Nat.{ℕ, ◌+◌, ◌≤◌, ◌<◌}
use native.Mathlib.Omega.{arith}
use mathlib.Core.Path.{◌≡◌}
use mathlib.Core.List.{List}
use package.Rattle.rules.specs.Limits.{max_terms, max_functions}
use package.Rattle.program.specs.Kinds.{call_kind}
use package.Rattle.scopes.specs.Slots.{slot_count, Machine, Scope}
use package.Rattle.forward.specs.Ready.{Ready, Calls, ReadyIn, FindReady}
use package.Rattle.decoded.proofs.Trees.{called-function}
use package.Rattle.decoded.specs.Rows.{room_for, first_in, kind_in}

module _ {k v : ℕ} {code heap slots : List ℕ} {st : Machine} {sc : Scope} {t room : ℕ} (rd : Ready k v code heap slots st sc t room) where
  -- a row is one of the table's
  pub row_read : t < max_terms
  row_read = omega (arith, rd.term, rd.rows.few_terms)

  pub scope-there : sc.base + sc.n ≤ slot_count
  scope-there = omega (arith, rd.variables, rd.full)

  pub argument-read : {n count : ℕ} → Calls code t n count → (t < max_terms) × (n ≤ room_for)
  argument-read C = (row_read, omega (arith, C.next, C.ancillae, rd.rows.few t rd.term C.kind))

  pub body-read : (g : ℕ) → kind_in code t ≡ call_kind → g ≡ first_in code t → g < max_functions
  body-read g e q = omega (arith, called-function rd.rows t rd.term e, rd.rows.few_functions)

-- a variable of the scope can be looked up
pub find_ready : {k v : ℕ} {code heap st : List ℕ} {scope t room : ℕ} → ReadyIn k v code heap st scope t room → FindReady heap st scope
find_ready rd = record {
  there = scope-there rd.ready;
  graph = rd.ready.graph;
  held = rd.ready.held;
  small = omega (arith, rd.ready.small);
}

----------------------------------------------------------------
-- Small steps between bounds

pub lt_le : {n m o : ℕ} → n < m → m ≤ o → n < o
lt_le h l = omega arith

-- a part of a node that is there
pub lower-part : {part of node top : ℕ} → part ≡ of → of < node → node < top → part < top
lower-part e h l = omega arith
