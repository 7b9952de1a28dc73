-- What evaluation asks for, and what it ensures. A run has the value graph up to `top` and fuel; a scope is `n` variables in the slots from
-- `base` on, of which the first `q` are the ancilla parameters. The last section says the same of the numbers that the code is lent. Laws:
-- proofs/Runs, Steps; proofs/Lending of the last section.
use Rattle.std.specs.Prelude.{ℕ, zero, suc, ◌+◌, ◌*◌, ◌-◌, ◌≤◌, ◌<◌, ◌≡◌, Bool, true, List, [], ◌∷◌, length, get_or, Result, Ok, Err}
use Rattle.std.proofs.Math.Option.{some}
use package.Rattle.program.specs.Kinds.{case_kind, call_kind}
use package.Rattle.rules.specs.Limits.{fits}
use package.Rattle.rules.specs.Val.{Val, unit}
use package.Rattle.rules.specs.Run.{Res, Run, after, give, test}
use package.Rattle.rules.specs.Yield.{first_match}
use package.Rattle.rules.specs.Machine.{State, on_roll, filled, each, forward_step, forward}
use package.Rattle.calls.specs.Entries.{TypeEntry, term_trees}
use package.Rattle.decoded.specs.Rows.{kind_in, first_in, second_in, third_in, argument_in, arguments_in, term_count, tree_in, program_in, Rows}
use package.Rattle.valuegraph.specs.Nodes.{node_bytes, Room, value_at, Agree, Heap}
use package.Rattle.scopes.specs.Slots.{unknown, slot_count, state_count, Machine, Scope, machine_of, slots_of, scope_in, state_at, Slots, slots_per_height}
use package.Rattle.yields.specs.Yields.{ancillae_at, AncillaeIn}
use package.Rattle.forward.specs.Outcomes.{Out, stopped, status_of, out_of, refusal_of, meaning, finished}
use Rattle.forward.specs.declared.outcomes.Refusal.{Refusal}

----------------------------------------------------------------
-- The value graph in a run

-- Every node is right, and has a value within the limit (section 1); node 0 is the unit, for variables that were not met.
pub record Graph (heap : List ℕ) (top : ℕ) : Type 0 where
  pub right : Heap heap top
  pub short : (n : ℕ) → n < top → fits (value_at heap n) ≡ true
  pub some : 0 < top
  pub unit_there : value_at heap 0 ≡ unit

----------------------------------------------------------------
-- Before

-- Term `t` can be evaluated in a scope, with height `room` left: there is room for a node for each unit of fuel and `k` nodes more, and
-- for `v` variables more than the height says. Every node is an answer, so none has the number that marks a variable as not known.
pub record Ready (k v : ℕ) (code heap slots : List ℕ) (st : Machine) (sc : Scope) (t room : ℕ) : Type 0 where
  pub rows : Rows code
  pub term : t < term_count code
  pub graph : Graph heap st.top
  pub held : Slots heap slots (sc.base + sc.n) st.top
  pub ancillae : (i : ℕ) → i < sc.q → get_or slots (sc.base + i) 0 < st.top
  pub within : sc.q ≤ sc.n
  pub nodes : node_bytes * (st.top + st.fuel + k) ≤ length heap
  pub small : st.top + st.fuel + k ≤ stopped
  pub variables : sc.base + sc.n + v + slots_per_height * room ≤ length slots
  pub full : length slots ≡ slot_count
  pub tall : k ≤ room

----------------------------------------------------------------
-- After

-- A run that may have made `k` nodes more than it took fuel: older nodes and the slots below `m` are as they were, and its meaning is
-- `res`, whatever the type entries are.
pub record RanForward (k : ℕ) (heap heap' : List ℕ) (m : ℕ) (slots slots' : List ℕ) (st : Machine) (out : Out) (res : List TypeEntry → Res Val) : Type 0 where
  pub agree : Agree st.top heap heap'
  pub graph : Graph heap' out.state.top
  pub below : (j : ℕ) → j < m → get_or slots j 0 ≡ get_or slots' j 0
  pub lengths : length slots ≡ length slots'
  pub grows : st.top ≤ out.state.top
  pub spends : out.state.fuel ≤ st.fuel
  pub owes : out.state.top + out.state.fuel ≤ st.top + st.fuel + k
  pub node : (n : ℕ) → out.status ≡ Ok n → n < out.state.top
  pub answer : (ys : List TypeEntry) → meaning heap' out ≡ res ys

-- The value `v` is made, or refused as too long at term `t` (14).
pub record Makes (heap heap' : List ℕ) (st : Machine) (out : Out) (t : ℕ) (v : Val) : Type 0 where
  pub agree : Agree st.top heap heap'
  pub graph : Graph heap' out.state.top
  pub grows : st.top ≤ out.state.top
  pub spends : out.state.fuel ≡ st.fuel
  pub one : out.state.top ≤ st.top + 1
  pub node : (n : ℕ) → out.status ≡ Ok n → n < out.state.top
  pub answer : meaning heap' out ≡ test (fits v) 14 t (give v) st.fuel

----------------------------------------------------------------
-- What is run

-- the values of the ancilla parameters, and what is read of each variable: one that was not met so far, backward, is unit (02, F-2)
abbrev pub ancillae_of : List ℕ → List ℕ → Scope → List Val
ancillae_of heap slots sc = ancillae_at heap slots sc.base sc.q

abbrev pub state_of : List ℕ → List ℕ → Scope → State
state_of heap slots sc = filled (state_at heap slots sc.base sc.n)

-- term `t`, from its entering on, with height `room`
abbrev pub run_of : (code heap slots : List ℕ) → Machine → Scope → ℕ → ℕ → List TypeEntry → Res Val
run_of code heap slots st sc t room ys =
    forward fits (program_in code ys) room (ancillae_of heap slots sc) (state_of heap slots sc) (tree_in code ys t) st.fuel

-- the same, once it is entered
abbrev pub step_of : (code heap slots : List ℕ) → Machine → Scope → ℕ → ℕ → List TypeEntry → Res Val
step_of code heap slots st sc t room ys =
    forward_step fits (program_in code ys) (forward fits (program_in code ys) (room - 1)) (ancillae_of heap slots sc)
    (state_of heap slots sc) (tree_in code ys t) st.fuel

-- the same in a scope with one variable more, known by its node
abbrev pub under_of : (code heap slots : List ℕ) → Machine → Scope → ℕ → ℕ → ℕ → List TypeEntry → Res Val
under_of code heap slots st sc node t room ys =
    forward fits (program_in code ys) room (ancillae_of heap slots sc) (some (value_at heap node) ∷ state_of heap slots sc) (tree_in code ys t) st.fuel

----------------------------------------------------------------
-- Calls

-- the values in `n` slots, in order
unfoldable pub values_at : List ℕ → List ℕ → ℕ → ℕ → List Val
values_at heap slots from zero = []
values_at heap slots from (suc n) = value_at heap (get_or slots from 0) ∷ values_at heap slots (from + 1) n

-- The arguments of call `t` from ancilla term `k` of `count` on, the dynamic term last; then `next` with their values.
abbrev pub arguments_of : (code heap slots : List ℕ) → Machine → Scope → ℕ → ℕ → ℕ → ℕ → List TypeEntry → (List Val → Val → Run Val) → Res Val
arguments_of code heap slots st sc t room k count ys next =
    after
    (each (forward fits (program_in code ys) (room - 1) (ancillae_of heap slots sc) (state_of heap slots sc))
    (term_trees (tree_in code ys) (arguments_in code t k (count - k))) st.fuel)
    (λ vs fuel. after
    (forward fits (program_in code ys) (room - 1) (ancillae_of heap slots sc) (state_of heap slots sc) (tree_in code ys (argument_in code t count)) fuel)
    (next vs))

-- `next` with the values in the slots from ancilla argument `k` on, where `m` is the slot of the first argument; or the refusal
unfoldable pub placed_of : List ℕ → List ℕ → ℕ → ℕ → ℕ → ℕ → Result ℕ Refusal → (List Val → Val → Run Val) → Res Val
placed_of heap slots m k count fuel (Ok node) next = next (values_at heap slots (m + k) (count - k)) (value_at heap (get_or slots (m + count) 0)) fuel
placed_of heap slots m k count fuel (Err why) next = refusal_of why

-- The arguments stand in the slots behind the caller's scope, which is as it was.
pub record Places (code heap heap' slots slots' : List ℕ) (st : Machine) (sc : Scope) (t room k count : ℕ) (out : Out) : Type 0 where
  pub ran : RanForward 0 heap heap' (sc.base + sc.n) slots slots' st out (λ ys. meaning heap' out)
  pub held : (n : ℕ) → out.status ≡ Ok n → (j : ℕ) → k ≤ j → j ≤ count → get_or slots' (sc.base + sc.n + j) 0 < out.state.top
  pub answer : (ys : List TypeEntry) (next : List Val → Val → Run Val)
      → arguments_of code heap slots st sc t room k count ys next ≡ placed_of heap' slots' (sc.base + sc.n) k count out.state.fuel out.status next

-- a call of `count` ancilla terms, of which argument `k` is next
pub record Calls (code : List ℕ) (t k count : ℕ) : Type 0 where
  pub kind : kind_in code t ≡ call_kind
  pub ancillae : count ≡ third_in code t
  pub next : k ≤ count

----------------------------------------------------------------
-- Unrolls and cases

-- What a roll holds is the answer (rules/specs/Machine, `on_roll`); it was within the limit before.
pub record Unrolls (heap : List ℕ) (st : Machine) (node : ℕ) (r : Out) : Type 0 where
  pub state : r.state ≡ st
  pub below : (n : ℕ) → r.status ≡ Ok n → n < st.top
  pub answer : (t : ℕ) → meaning heap r ≡ on_roll (value_at heap node) (λ v. test (fits v) 14 t (give v)) st.fuel

-- The same of the answer `r`, whatever the machine is that the node is of.
pub record Unrolled (heap : List ℕ) (node r : ℕ) : Type 0 where
  pub is : (st : Machine) → Graph heap st.top → node < st.top → st.top ≤ stopped → Unrolls heap st node (record { status = status_of r; state = st })

-- The right branch of case `t` gave the answer `out`, and the left branch's form can be asked about it.
pub record CheckReady (code heap st : List ℕ) (scope t out : ℕ) : Type 0 where
  pub rows : Rows code
  pub term : t < term_count code
  pub kind : kind_in code t ≡ case_kind
  pub graph : Heap heap (machine_of st).top
  pub small : (machine_of st).top ≤ unknown
  pub ancillae : AncillaeIn st scope
  pub node : (n : ℕ) → status_of out ≡ Ok n → n < (machine_of st).top

-- The right branch of case `t` gave `out`, with `n` variables in scope around the case; `r` is the answer, with first match tested (15).
pub record Checks (code heap slots : List ℕ) (base q n t : ℕ) (out r : Out) : Type 0 where
  pub state : r.state ≡ out.state
  pub node : (at : ℕ) → r.status ≡ Ok at → out.status ≡ Ok at
  pub answer : (ys : List TypeEntry) → meaning heap r
      ≡ after (meaning heap out) (λ w. test (first_match (ancillae_at heap slots base q) n (tree_in code ys (first_in code t))
      (tree_in code ys (second_in code t)) w) 15 t (give w))

----------------------------------------------------------------
-- In code: the numbers that a run is lent, and a scope in one number

pub record ReadyIn (k v : ℕ) (code heap st : List ℕ) (scope t room : ℕ) : Type 0 where
  pub full : length st ≡ state_count
  pub ready : Ready k v code heap (slots_of st) (machine_of st) (scope_in scope) t room

-- the slot behind a scope
abbrev pub end_of : ℕ → ℕ
end_of scope = (scope_in scope).base + (scope_in scope).n

-- a variable of a scope can be looked up
pub record FindReady (heap st : List ℕ) (scope : ℕ) : Type 0 where
  pub there : end_of scope ≤ slot_count
  pub graph : Graph heap (machine_of st).top
  pub held : Slots heap (slots_of st) (end_of scope) (machine_of st).top
  pub small : (machine_of st).top ≤ stopped

-- the answer `r` of a run, which leaves the numbers `st'`
abbrev pub RanIn : ℕ → (heap heap' st st' : List ℕ) → ℕ → ℕ → (List TypeEntry → Res Val) → Type 0
RanIn k heap heap' st st' scope r res = RanForward k heap heap' (end_of scope) (slots_of st) (slots_of st') (machine_of st) (out_of r st') res

-- Term `t` was evaluated; in the scope with one variable more; from its entering on.
pub record Evaluates (code heap heap' st st' : List ℕ) (scope t room r : ℕ) : Type 0 where
  pub lengths : length st' ≡ length st
  pub ran : RanIn 0 heap heap' st st' scope r (run_of code heap (slots_of st) (machine_of st) (scope_in scope) t room)

pub record EvaluatesUnder (code heap heap' st st' : List ℕ) (scope node t room r : ℕ) : Type 0 where
  pub lengths : length st' ≡ length st
  pub ran : RanIn 0 heap heap' st st' scope r (under_of code heap (slots_of st) (machine_of st) (scope_in scope) node t room)

pub record Steps (code heap heap' st st' : List ℕ) (scope t room r : ℕ) : Type 0 where
  pub lengths : length st' ≡ length st
  pub ran : RanIn 1 heap heap' st st' scope r (step_of code heap (slots_of st) (machine_of st) (scope_in scope) t room)

-- the arguments of call `t` were placed, from number `k` on
pub record PlacesIn (code heap heap' st st' : List ℕ) (scope t room k count r : ℕ) : Type 0 where
  pub lengths : length st' ≡ length st
  pub places : Places code heap heap' (slots_of st) (slots_of st') (machine_of st) (scope_in scope) t room k count (out_of r st')

-- the right branch of case `t` gave `out`, and `r` is the answer
abbrev pub ChecksIn : (code heap st : List ℕ) → ℕ → ℕ → ℕ → ℕ → Type 0
ChecksIn code heap st scope t out r =
    Checks code heap (slots_of st) (scope_in scope).base (scope_in scope).q (scope_in scope).n t (out_of out st) (out_of r st)

-- a node can be made
pub record MakeReady (heap st : List ℕ) : Type 0 where
  pub full : length st ≡ state_count
  pub graph : Graph heap (machine_of st).top
  pub room : Room heap ((machine_of st).top + 1)
  pub small : (machine_of st).top < stopped

-- the node at `top` is the answer, if it was made
pub record Finishes (made : Bool) (st st' : List ℕ) (t r : ℕ) : Type 0 where
  pub lengths : length st' ≡ length st
  pub slots : slots_of st' ≡ slots_of st
  pub out : out_of r st' ≡ finished made (machine_of st) t

-- a value was made, or is too long
pub record MakesIn (heap heap' st st' : List ℕ) (r t : ℕ) (v : Val) : Type 0 where
  pub lengths : length st' ≡ length st
  pub slots : slots_of st' ≡ slots_of st
  pub makes : Makes heap heap' (machine_of st) (out_of r st') t v
