-- A value's bytes read by types: what a first byte says of a value's parts, and the types that are pending. Laws: proofs/Turns (types),
-- proofs/Stack (entries).
use Rattle.std.specs.Prelude.{ℕ, zero, suc, ◌-◌, ◌≤◌, ◌<◌, ◌≡◌, cond, List, [], ◌∷◌, ◌++◌, map, length, get_or, eqb, Option as Found, Some, None}
use Rattle.std.proofs.Math.Option.{Option, none, some}
use package.Rattle.rules.specs.Ty.{Ty, one, prod, sum, mu, tyvar, unfold_ty}
use package.Rattle.calls.specs.Entries.{TypeEntry, y_unit, y_prod, y_sum, y_mu, y_var}
use package.Rattle.valuebytes.specs.declared.table.Parts.{Parts}
use package.Rattle.valuebytes.specs.declared.table.Parts.TheVariants as parts
use package.Rattle.valuebytes.specs.declared.walk.Scoped.{Scoped}
use package.Rattle.valuebytes.specs.declared.walk.Walk.{Walk}
use package.Rattle.valuebytes.specs.Scopes.{type_under}
use package.Rattle.valuebytes.specs.Typing.{entries_of, TypesRead, room, Cells, Bound}

----------------------------------------------------------------
-- The parts of a value, by its first byte and its type (section 1: 00 unit, 01 inl, 02 inr, 03 pair, 04 roll)

-- the types of the parts, in order; none: no value of the type begins with the byte
unfoldable pub part_types : ℕ → Ty → Option (List Ty)
part_types b one = cond (eqb b 0) (some []) none
part_types b (prod c d) = cond (eqb b 3) (some (c ∷ d ∷ [])) none
part_types b (sum c d) = cond (eqb b 1) (some (c ∷ [])) (cond (eqb b 2) (some (d ∷ [])) none)
part_types b (mu c) = cond (eqb b 4) (some (unfold_ty c ∷ [])) none
part_types b (tyvar k) = none

-- the same by entries
unfoldable pub parts_of : ℕ → TypeEntry → Found Parts
parts_of b y_unit = cond (eqb b 0) (Some parts.Nothing) None
parts_of b (y_prod i j) = cond (eqb b 3) (Some (parts.Two i j)) None
parts_of b (y_sum i j) = cond (eqb b 1) (Some (parts.One i)) (cond (eqb b 2) (Some (parts.One j)) None)
parts_of b (y_mu i) = cond (eqb b 4) (Some (parts.Body i)) None
parts_of b (y_var k) = None

----------------------------------------------------------------
-- Pending types: values of them are still to come, in order

abbrev pub before : Option (List Ty) → List Ty → Option (List Ty)
before none cs = none
before (some ds) cs = some (ds ++ cs)

-- what is pending behind a byte that begins the next value: its parts, then the rest
unfoldable pub behind : ℕ → List Ty → Option (List Ty)
behind b [] = none
behind b (c ∷ cs) = before (part_types b c) cs

-- `n` entries under cells, the last one first
unfoldable pub pending_types : List TypeEntry → List ℕ → List ℕ → List ℕ → List ℕ → ℕ → List Ty
pending_types ys binders outer entries cells zero = []
pending_types ys binders outer entries cells (suc n) =
    type_under ys binders outer (get_or cells n 0) (get_or entries n 0) ∷ pending_types ys binders outer entries cells n

-- cells 1 to `top`, and `n` pending entries that are closed under them
pub record Stack (xs os binders outer entries cells : List ℕ) (top n : ℕ) : Type 0 where
  pub table : TypesRead xs os
  pub cells_to : Cells xs os binders outer top
  pub bound : (k : ℕ) → k < n → Bound xs os binders outer top (get_or cells k 0) (get_or entries k 0)
  pub long_binders : length binders ≡ room
  pub long_outer : length outer ≡ room
  pub long_entries : length entries ≡ room
  pub long_cells : length cells ≡ room

-- entries under cells, and each of both alone
abbrev pub scoped : ℕ → ℕ → Scoped
scoped i e = record { entry = i; cell = e }

abbrev pub entries_in : List Scoped → List ℕ
entries_in ts = map (λ (t : Scoped). t.entry) ts

abbrev pub cells_in : List Scoped → List ℕ
cells_in ts = map (λ (t : Scoped). t.cell) ts

-- the same of a walk, with `n` entries pending
abbrev pub Stacked : (xs os : List ℕ) → Walk → ℕ → Type 0
Stacked xs os w n = Stack xs os (entries_in w.cells) (cells_in w.cells) (entries_in w.pending) (cells_in w.pending) w.top n

abbrev pub pending_in : List TypeEntry → Walk → ℕ → List Ty
pending_in ys w n = pending_types ys (entries_in w.cells) (cells_in w.cells) (entries_in w.pending) (cells_in w.pending) n

----------------------------------------------------------------
-- One byte

-- behind byte `b` the stack has what is pending then; it grew by one cell and one type at most
pub record Advanced (xs os binders outer entries cells binders' outer' entries' cells' : List ℕ) (top n b top' n' : ℕ) : Type 0 where
  pub stack : Stack xs os binders' outer' entries' cells' top' n'
  pub says : behind b (pending_types (entries_of xs os) binders outer entries cells (suc n)) ≡ some (pending_types (entries_of xs os) binders' outer' entries' cells' n')
  pub few_cells : top' ≤ suc top
  pub few_pending : n' ≤ suc (suc n)

-- what is pending last is the last of `suc (count - 1)`
pub data TurnLeaves (xs os : List ℕ) (w w' : Walk) (b : ℕ) : Found (Unit {0}) → Type 0 where
  on : Advanced xs os (entries_in w.cells) (cells_in w.cells) (entries_in w.pending) (cells_in w.pending) (entries_in w'.cells) (cells_in w'.cells)
      (entries_in w'.pending) (cells_in w'.pending) w.top (w.count - 1) b w'.top w'.count → TurnLeaves xs os w w' b (Some tt)
  off : behind b (pending_in (entries_of xs os) w (suc (w.count - 1))) ≡ none → TurnLeaves xs os w w' b None
