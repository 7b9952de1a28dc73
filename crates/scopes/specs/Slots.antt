-- Scopes in slots: slot base + i holds variable i's node; backward, the cell that says what the variable is bound to (specs/Cells); or a
-- mark if the variable is not known. A scope is the state that the rules' runs have (rules/specs/Machine). Laws: proofs/Scopes.
use Rattle.std.specs.Prelude.{ℕ, zero, suc, ◌+◌, ◌*◌, ◌-◌, ◌<◌, ◌/◌, ◌%◌, ◌≡◌, true, false, List, [], ◌∷◌, ◌⊎◌, length, get_or, set, drop, eqb, ltb, Option, Some, None}
use Rattle.std.specs.Option.{unwrap_or}
use Rattle.std.proofs.Math.Option as maybe
use package.Rattle.rules.specs.Limits.{max_height, max_parameters, max_variables}
use package.Rattle.rules.specs.Val.{Val}
use package.Rattle.rules.specs.Machine.{State}
use package.Rattle.valuegraph.specs.Nodes.{left_at, value_at}

-- the mark; a number above it names a cell
unfoldable pub unknown : ℕ
unknown = 2147483648

-- how many variables a height may add: a function's parameters are more than any term binds
abbrev pub slots_per_height : ℕ
slots_per_height = max_parameters

-- how many slots there are: room for the variables of a run of the greatest height (section 2), and those of one scope more
abbrev pub slot_count : ℕ
slot_count = max_variables + slots_per_height * (max_height + 1)

-- all numbers that a run is lent: the machine, then the slots
abbrev pub state_count : ℕ
state_count = slot_count + 2

-- a part of a number that holds several is below this one
abbrev pub part : ℕ
part = 65536

----------------------------------------------------------------
-- The machine, and scopes as numbers

-- the nodes below `top`, and fuel
pub record Machine : Type 0 where
  pub top : ℕ
  pub fuel : ℕ

-- the scope of the function at hand: variable i is slot base + i, `n` of them, the ancilla parameters the first `q`
pub record Scope : Type 0 where
  pub base : ℕ
  pub q : ℕ
  pub n : ℕ

abbrev pub machine_of : List ℕ → Machine
machine_of st = record { top = get_or st 0 0; fuel = get_or st 1 0 }

abbrev pub slots_of : List ℕ → List ℕ
slots_of st = drop 2 st

-- a scope in one number
abbrev pub scope_in : ℕ → Scope
scope_in x = record { base = x / part / part; q = x / part % part; n = x % part }

-- the machine is another one, and the slots are as they were
pub record Moved (st st' : List ℕ) (m : Machine) : Type 0 where
  pub lengths : length st' ≡ length st
  pub slots : slots_of st' ≡ slots_of st
  pub machine : machine_of st' ≡ m

-- a slot is written, and the machine is as it was
pub record Written (st st' : List ℕ) (at node : ℕ) : Type 0 where
  pub lengths : length st' ≡ length st
  pub slots : slots_of st' ≡ set (slots_of st) at node
  pub machine : machine_of st' ≡ machine_of st

----------------------------------------------------------------
-- Slots

-- What a slot's number says: a node below the mark, nothing at it, and above it what the cell is bound to.
unfoldable pub found : List ℕ → ℕ → Option ℕ
found heap s = elim (ltb s unknown) [
  | true ↦ Some s
  | false ↦ elim (eqb s unknown) [ true ↦ None | false ↦ Some (left_at heap (s - unknown)) ]
]

-- what is known of a variable, on the heap that its node is in
abbrev pub meaning : List ℕ → Option ℕ → maybe.Option Val
meaning heap (Some node) = maybe.some (value_at heap node)
meaning heap None = maybe.none

-- its node: node 0 is the unit, which a variable that is never met is
unfoldable pub node_or : Option ℕ → ℕ
node_or f = unwrap_or f 0

-- What a term that runs forward reads of variable `i` of `n`: nothing, if it is not in scope; else its node, which is node 0, the unit, if
-- it was not met so far (02, F-2).
unfoldable pub slot_at : List ℕ → List ℕ → ℕ → ℕ → ℕ → Option ℕ
slot_at heap slots base n i = elim (ltb i n) [ true ↦ Some (node_or (found heap (get_or slots (base + i) 0))) | false ↦ None ]

-- the scope of `n` variables, the newest first
unfoldable pub state_at : List ℕ → List ℕ → ℕ → ℕ → State
state_at heap slots base zero = []
state_at heap slots base (suc n) = meaning heap (found heap (get_or slots (base + n) 0)) ∷ state_at heap slots base n

-- The number of a cell below `top`, which is bound to a node below `top`.
pub record Cell (heap : List ℕ) (s top : ℕ) : Type 0 where
  pub above : unknown < s
  pub there : s - unknown < top
  pub node : left_at heap (s - unknown) < top

-- a slot is marked, or holds a node below `top`, or such a cell
abbrev pub Slot : List ℕ → ℕ → ℕ → Type 0
Slot heap s top = (s ≡ unknown) ⊎ ((s < top) ⊎ Cell heap s top)

-- every slot below `m`
pub record Slots (heap slots : List ℕ) (m top : ℕ) : Type 0 where
  pub held : (j : ℕ) → j < m → Slot heap (get_or slots j 0) top
