-- Cells: a binding state (section 2, backward) is the number of its newest cell, 0 for the empty state. A cell is a unit of the value graph
-- (valuegraph/specs/Nodes, `Celled`): its left part is the node that a variable is bound to, or the mark, which says that all variables from that
-- one on are not known; its right part is the variable and the cell before. Cells are appended and never changed, so an older state stays what
-- it was. What a state says of a variable is a function of its number and of the cells below it alone. Laws: proofs/Cells.
use Rattle.std.specs.Prelude.{ℕ, zero, suc, ◌+◌, ◌*◌, ◌/◌, ◌%◌, cond, List, [], ◌∷◌, get_or, eqb, ltb}
use package.Rattle.rules.specs.Machine.{State}
use package.Rattle.valuegraph.specs.Nodes.{left_at, right_at, Celled}
use package.Rattle.scopes.specs.Slots.{unknown, found, meaning, Scope}

-- cells and nodes have numbers below this one
abbrev pub cell_count : ℕ
cell_count = 262144

-- the right part of a cell
abbrev pub link_of : ℕ → ℕ → ℕ
link_of i before = cell_count * i + before

-- A cell is made at `top`: of variable `i`, with the left part `x`, after the cell `before`.
pub record Linked (heap heap' : List ℕ) (top x i before : ℕ) : Type 0 where
  pub made : Celled heap heap' top x (link_of i before)

unfoldable pub variable_at : List ℕ → ℕ → ℕ
variable_at heap c = right_at heap c / cell_count

-- The cell before is a lower one; a number that is not lower names none.
unfoldable pub before_at : List ℕ → ℕ → ℕ
before_at heap c = cond (ltb (right_at heap c % cell_count) c) (right_at heap c % cell_count) 0

-- what cell `c` says of variable `i`: its own number, none (0), or what the cells before say
unfoldable pub cell_step : List ℕ → ℕ → ℕ → ℕ → ℕ
cell_step heap c i older =
    cond (eqb (left_at heap c) unknown) (cond (ltb i (variable_at heap c)) older 0) (cond (eqb i (variable_at heap c)) c older)

-- `depth` bounds how many cells are followed
unfoldable pub cell_within : ℕ → List ℕ → ℕ → ℕ → ℕ
cell_within zero heap c i = 0
cell_within (suc depth) heap zero i = 0
cell_within (suc depth) heap (suc c) i = cell_step heap (suc c) i (cell_within depth heap (before_at heap (suc c)) i)

-- The cell that binds variable `i` in the state `head`, or 0: cells fall along the chain, so the newest cell's number bounds the depth.
unfoldable pub cell_at : List ℕ → ℕ → ℕ → ℕ
cell_at heap head i = cell_within head heap head i

----------------------------------------------------------------
-- The rules' state that a binding state is

-- A slot's number for variable `i`: of an ancilla parameter its node; of the others what the state says.
abbrev pub number_in : (heap slots : List ℕ) → ℕ → Scope → ℕ → ℕ
number_in heap slots head sc i = cond (ltb i sc.q) (get_or slots (sc.base + i) 0) (unknown + cell_at heap head i)

-- the first `n` variables of a scope, the newest first
unfoldable pub state_with : (heap slots : List ℕ) → ℕ → Scope → ℕ → State
state_with heap slots head sc zero = []
state_with heap slots head sc (suc n) = meaning heap (found heap (number_in heap slots head sc n)) ∷ state_with heap slots head sc n
