-- Where a run begins: its values in nodes. Node 0 is the unit; the ancillae's nodes stand in the first slots, the value's behind them.
use Rattle.std.specs.Prelude.{ℕ, ◌+◌, ◌*◌, ◌≤◌, ◌<◌, ◌≡◌, List, length, get_or}
use Rattle.std.proofs.Math.Option.{some}
use package.Rattle.rules.specs.Limits.{max_parameters, max_ancilla_bytes, max_value_bytes}
use package.Rattle.rules.specs.Val.{unit}
use package.Rattle.calls.specs.Values.{value, ancillae}
use package.Rattle.valuegraph.specs.Nodes.{node_bytes, value_at}
use package.Rattle.scopes.specs.Slots.{slots_of, machine_of}
use package.Rattle.forward.specs.Ready.{Graph, values_at}
use package.Rattle.runs.specs.declared.begin.Start.{Start}
use package.Rattle.valuebytes.specs.Ends.{value_in, values_in}

-- the most nodes that the values of a run have: a unit, and one for each byte of the ancillae and of the value
unfoldable pub start_nodes : ℕ
start_nodes = 1 + max_ancilla_bytes + max_value_bytes

-- room for the ancillae that bytes are: fewer than a function may have parameters, a slot for each and one more
pub record Enough (heap slots anc : List ℕ) : Type 0 where
  pub read : ancillae anc ≡ some (values_in anc)
  pub few : length (values_in anc) < max_parameters
  pub slots_there : max_parameters ≤ length slots
  pub nodes_there : node_bytes * start_nodes ≤ length heap

-- and for the value
pub record Beginning (heap slots anc bytes : List ℕ) : Type 0 where
  pub for_ancillae : Enough heap slots anc
  pub read : value bytes ≡ some (value_in bytes)

-- the ancillae are loaded: so many nodes as they have bytes, after the unit
pub record AncillaeLoaded (heap heap' slots slots' anc : List ℕ) (r : Start) : Type 0 where
  pub graph : Graph heap' r.top
  pub nodes : r.top ≡ 1 + length anc
  pub count : r.count ≡ length (values_in anc)
  pub held : (i : ℕ) → i < r.count → get_or slots' i 0 < r.top
  pub values : (i : ℕ) → i < r.count → value_at heap' (get_or slots' i 0) ≡ get_or (values_in anc) i unit
  pub heap_length : length heap ≡ length heap'
  pub slots_length : length slots ≡ length slots'

-- ancillae and value are loaded
pub record Begun (heap heap' slots slots' anc bytes : List ℕ) (r : Start) : Type 0 where
  pub graph : Graph heap' r.top
  pub few : r.top ≤ start_nodes
  pub count : r.count ≡ length (values_in anc)
  pub held : (i : ℕ) → i ≤ r.count → get_or slots' i 0 < r.top
  pub values : values_at heap' slots' 0 r.count ≡ values_in anc
  pub last : value_at heap' (get_or slots' r.count 0) ≡ value_in bytes
  pub heap_length : length heap ≡ length heap'
  pub slots_length : length slots ≡ length slots'

----------------------------------------------------------------
-- In code: the slots of the numbers that a run is lent

pub record AncillaeIn (heap heap' st st' anc : List ℕ) (r : Start) : Type 0 where
  pub lengths : length st' ≡ length st
  pub loaded : AncillaeLoaded heap heap' (slots_of st) (slots_of st') anc r

pub record BegunIn (heap heap' st st' anc bytes : List ℕ) (r : Start) : Type 0 where
  pub lengths : length st' ≡ length st
  pub begun : Begun heap heap' (slots_of st) (slots_of st') anc bytes r

-- the same with the fuel `fuel` in the machine, and `count` ancillae
pub record BegunWith (heap heap' st st' anc bytes : List ℕ) (fuel count : ℕ) : Type 0 where
  pub begun : BegunIn heap heap' st st' anc bytes (record { count = count; top = (machine_of st').top })
  pub left : (machine_of st').fuel ≡ fuel
