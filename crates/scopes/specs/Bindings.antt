-- The binding state by value (section 2, backward) is the number of its newest cell (specs/Cells). A view is what the slots of a scope say: as
-- many numbers as there may be variables, of which the first `len` are of variables in scope. Slots are an index, by which the code finds a
-- variable's cell; the state decides whether the cell counts. Laws: proofs/Bound over views, proofs/Views from the code to views.
use Rattle.std.specs.Prelude.{ℕ, zero, suc, ◌+◌, ◌-◌, ◌≤◌, ◌<◌, ◌≡◌, Bool, true, false, List, [], ◌∷◌, length, get_or, set, ltb, Option, Some, None, Result, Ok, Err}
use package.Rattle.rules.specs.Limits.{max_variables}
use package.Rattle.rules.specs.Val.{same}
use package.Rattle.rules.specs.Machine.{State}
use package.Rattle.valuegraph.specs.Nodes.{value_at, Room, Heap}
use package.Rattle.scopes.specs.Slots.{unknown, slot_count, state_count, Scope, machine_of, slots_of, Moved, found, node_or, state_at, Slot, Slots}
use package.Rattle.scopes.specs.Cells.{cell_count, Linked, cell_at, number_in, state_with}
use Rattle.scopes.specs.declared.bindings.Bindings.{Bindings}

----------------------------------------------------------------
-- Views

pub record View : Type 0 where
  pub slots : List ℕ
  pub len : ℕ

-- `n` slots from `base` on
unfoldable pub slots_from : List ℕ → ℕ → ℕ → List ℕ
slots_from slots base zero = []
slots_from slots base (suc n) = get_or slots base 0 ∷ slots_from slots (base + 1) n

-- the scope of `n` variables from slot `base` on
abbrev pub view_of : List ℕ → ℕ → ℕ → View
view_of slots base n = record { slots = slots_from slots base max_variables; len = n }

-- the state, the newest variable first
unfoldable pub state_of : List ℕ → View → State
state_of heap b = state_at heap b.slots 0 b.len

-- the view holds nodes and cells below `top`
pub record Bound (heap : List ℕ) (b : View) (top : ℕ) : Type 0 where
  pub full : length b.slots ≡ max_variables
  pub few : b.len ≤ max_variables
  pub held : Slots heap b.slots b.len top

-- a variable comes into scope
pub record Opens (b : View) (x : ℕ) (r : View) : Type 0 where
  pub slots : r.slots ≡ set b.slots b.len x
  pub len : r.len ≡ b.len + 1

-- A variable is met with a node: bound where it was not known, by the number `x`; compared where it was, and the view as it was.
pub record Meets (heap : List ℕ) (b : View) (i node x : ℕ) (agrees : Bool) (r : View) : Type 0 where
  pub binds : get_or b.slots i 0 ≡ unknown → (agrees ≡ true) × (r.slots ≡ set b.slots i x) × (r.len ≡ b.len)
  pub compares : (get_or b.slots i 0 ≡ unknown → ⊥)
      → (agrees ≡ same (value_at heap (node_or (found heap (get_or b.slots i 0)))) (value_at heap node)) × (r ≡ b)

-- the newest variable has left: its slot's number, and the view of the others
pub record AfterLeaving : Type 0 where
  pub newest : ℕ
  pub state : View

pub record LeavesScope (b : View) (r : AfterLeaving) : Type 0 where
  pub newest : r.newest ≡ get_or b.slots (b.len - 1) 0
  pub slots : r.state.slots ≡ b.slots
  pub len : r.state.len ≡ b.len - 1

----------------------------------------------------------------
-- The state in code

-- The rules' state that a state by value is, in a scope.
abbrev pub state_in : (heap slots : List ℕ) → Bindings → Scope → State
state_in heap slots b sc = state_with heap slots b.head sc sc.n

-- The slots of the variables from `q` to `n` name the cells that bind them in the state, which binds none from `n` on.
pub record Tells (heap slots : List ℕ) (b : Bindings) (base q n top : ℕ) : Type 0 where
  pub within : b.head < top
  pub index : (i : ℕ) → q ≤ i → i < n → get_or slots (base + i) 0 ≡ unknown + cell_at heap b.head i
  pub outside : (i : ℕ) → n ≤ i → cell_at heap b.head i ≡ 0

-- what a state binds variable `i` to
abbrev pub bound : List ℕ → Bindings → ℕ → Option ℕ
bound heap b i = found heap (unknown + cell_at heap b.head i)

-- What a state says of variable `i` of a scope: a function of the state and the cells that it names. (Of an ancilla parameter it is its node.)
abbrev pub said : (heap slots : List ℕ) → Bindings → Scope → ℕ → Option ℕ
said heap slots b sc i = found heap (number_in heap slots b.head sc i)

-- What a slot's number says in a state: a cell that is newer than the state does not count.
unfoldable pub seen : List ℕ → Bindings → ℕ → Option ℕ
seen heap b s = elim (ltb (unknown + b.head) s) [ true ↦ None | false ↦ found heap s ]

-- a slot's number can be looked up in a state
pub record Looks (heap : List ℕ) (b : Bindings) (number top : ℕ) : Type 0 where
  pub graph : Heap heap top
  pub slot : Slot heap number top
  pub small : top ≤ unknown
  pub within : b.head < top

-- a cell can be made for variable `i`
pub record CellReady (heap st : List ℕ) (b : Bindings) (i : ℕ) : Type 0 where
  pub full : length st ≡ state_count
  pub graph : Heap heap (machine_of st).top
  pub room : Room heap ((machine_of st).top + 1)
  pub small : (machine_of st).top < cell_count
  pub within : b.head < (machine_of st).top
  pub few : i ≤ max_variables

-- A cell is made, with the left part `x`: the state that it is the newest cell of.
pub record Adds (heap heap' st st' : List ℕ) (b : Bindings) (x i : ℕ) (r : Bindings) : Type 0 where
  pub linked : Linked heap heap' (machine_of st).top x i b.head
  pub moved : Moved st st' (record { top = (machine_of st).top + 1; fuel = (machine_of st).fuel })
  pub head : r.head ≡ (machine_of st).top

-- The variable behind a scope came into it, bound to a node by a new cell, which its slot names.
pub record EntersBound (heap heap' st st' : List ℕ) (b : Bindings) (sc : Scope) (node : ℕ) (r : Bindings) : Type 0 where
  pub linked : Linked heap heap' (machine_of st).top node sc.n b.head
  pub lengths : length st' ≡ length st
  pub slots : slots_of st' ≡ set (slots_of st) (sc.base + sc.n) (unknown + (machine_of st).top)
  pub machine : machine_of st' ≡ record { top = (machine_of st).top + 1; fuel = (machine_of st).fuel }
  pub head : r.head ≡ (machine_of st).top

-- Variable `i` can be met: it has a slot, which names a node or a cell that are there, and in which the state sees what it says. (The slot may
-- name a newer cell; then the state does not bind the variable.)
pub record Meetable (heap st : List ℕ) (b : Bindings) (sc : Scope) (i : ℕ) : Type 0 where
  pub cell : CellReady heap st b i
  pub there : sc.base + i < slot_count
  pub slot : Slot heap (get_or (slots_of st) (sc.base + i) 0) (machine_of st).top
  pub reads : seen heap b (get_or (slots_of st) (sc.base + i) 0) ≡ said heap (slots_of st) b sc i

-- The state that was asked of, handed back: Ok where the values agree, Err where they differ.
abbrev pub handed : Bool → Bindings → Result Bindings Bindings
handed true b = Ok b
handed false b = Err b

-- it is compared with what it is bound to, and all is as it was, the state too
pub record Compared (heap heap' st st' : List ℕ) (b : Bindings) (old node : ℕ) (r : Result Bindings Bindings) : Type 0 where
  pub agrees : r ≡ handed (same (value_at heap old) (value_at heap node)) b
  pub heap_same : heap' ≡ heap
  pub numbers_same : st' ≡ st

-- it is bound, by a new cell, which its slot names
pub record Assigns (heap heap' st st' : List ℕ) (b : Bindings) (base i node : ℕ) (r : Result Bindings Bindings) : Type 0 where
  pub agrees : r ≡ Ok (record { head = (machine_of st).top })
  pub linked : Linked heap heap' (machine_of st).top node i b.head
  pub lengths : length st' ≡ length st
  pub slots : slots_of st' ≡ set (slots_of st) (base + i) (unknown + (machine_of st).top)
  pub machine : machine_of st' ≡ record { top = (machine_of st).top + 1; fuel = (machine_of st).fuel }

-- by what the state says of the variable
abbrev pub MeetsBy : (heap heap' st st' : List ℕ) → Bindings → ℕ → ℕ → ℕ → Result Bindings Bindings → Option ℕ → Type 0
MeetsBy heap heap' st st' b base i node r (Some old) = Compared heap heap' st st' b old node r
MeetsBy heap heap' st st' b base i node r None = Assigns heap heap' st st' b base i node r

pub record MeetsAt (heap heap' st st' : List ℕ) (b : Bindings) (sc : Scope) (i node : ℕ) (r : Result Bindings Bindings) : Type 0 where
  pub met : MeetsBy heap heap' st st' b sc.base i node r (said heap (slots_of st) b sc i)
