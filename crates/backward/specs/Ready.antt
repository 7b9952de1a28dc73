-- What backward evaluation asks for, and what it ensures. A run has the value graph up to `top` and fuel; what is bound is a view of the
-- scope's slots, which are an index of the binding state and of which the first `q` variables are the ancilla parameters. The last two sections tie views to the
-- slots and the state that the code has, and both to the numbers that it is lent. Laws: proofs/Runs; proofs/Frames of the last sections.
use Rattle.std.specs.Prelude.{ℕ, ◌+◌, ◌*◌, ◌-◌, ◌≤◌, ◌<◌, ◌≡◌, Bool, true, false, List, ◌∷◌, length, get_or, set, Result, Ok, Err}
use Rattle.std.proofs.Math.Option.{none}
use package.Rattle.rules.specs.Limits.{fits, max_variables}
use package.Rattle.rules.specs.Val.{Val, pair}
use package.Rattle.rules.specs.Term.{by_ancilla}
use package.Rattle.rules.specs.Run.{Res, Run, after}
use package.Rattle.rules.specs.Machine.{State, leave, forward, branch_back, backward_step, backward}
use package.Rattle.calls.specs.Entries.{TypeEntry}
use package.Rattle.program.specs.Kinds.{case_kind}
use package.Rattle.decoded.specs.Rows.{kind_in, first_in, term_count, tree_in, program_in, Rows}
use package.Rattle.valuegraph.specs.Nodes.{node_bytes, of_kind, value_at, Agree, kind_at as nodeKind}
use package.Rattle.scopes.specs.Slots.{unknown, slot_count, state_count, Machine, Scope, machine_of, slots_of, scope_in, found, node_or, Slot, Slots, slots_per_height}
use package.Rattle.scopes.specs.Cells.{cell_count}
use package.Rattle.scopes.specs.Bindings.{View, state_of, state_in, Bound, AfterLeaving, Tells, bound, seen, Looks, MeetsAt}
use package.Rattle.scopes.specs.declared.bindings.Bindings.{Bindings}
use package.Rattle.yields.specs.Yields.{ancillae_at, ancillae_in}
use package.Rattle.forward.specs.Ready.{Graph}
use package.Rattle.backward.specs.Scoped.{ScopedAt, Bodies}
use package.Rattle.backward.specs.Outcomes.{Out, Done, too_long, Outcome, Inner, status_of, ended_in, scope_view, outcome_of, inner_of, meaning, told_of, left_with}
use Rattle.backward.specs.declared.outcomes.Refusal.TheVariants.{NoInput, Stuck}
use Rattle.backward.specs.declared.outcomes.Next.{Next}
use Rattle.backward.specs.declared.outcomes.Next.TheVariants.{On}
use Rattle.backward.specs.declared.outcomes.Refusal.{Refusal}

----------------------------------------------------------------
-- Before

-- The program, the value graph and the lent slots: there is room for two nodes, of which one may be a cell, for each unit of fuel, and `k` more;
-- and in the slots for the variables of heights up to `room`.
pub record Held (k : ℕ) (code heap slots : List ℕ) (st : Machine) (room : ℕ) : Type 0 where
  pub rows : Rows code
  pub bodies : Bodies code
  pub graph : Graph heap st.top
  pub nodes : node_bytes * (st.top + 2 * st.fuel + k) ≤ length heap
  pub small : st.top + 2 * st.fuel + k ≤ cell_count
  pub variables : slots_per_height * room ≤ length slots
  pub all : length slots ≡ slot_count

-- the view of a scope holds nodes and cells of the graph, and of the ancilla parameters nodes
pub record Binds (heap : List ℕ) (b : View) (q top : ℕ) : Type 0 where
  pub bound : Bound heap b top
  pub within : q ≤ b.len
  pub ancillae : (i : ℕ) → i < q → get_or b.slots i 0 < top

-- Term `t` can be run with these bindings and `n` variables in scope, with height `room` left, at least `h`.
pub record Ready (k h : ℕ) (code heap slots : List ℕ) (st : Machine) (b : View) (q n t room : ℕ) : Type 0 where
  pub machine : Held k code heap slots st room
  pub binds : Binds heap b q st.top
  pub term : t < term_count code
  pub scoped : ScopedAt code n t
  pub tall : h ≤ room

----------------------------------------------------------------
-- After

-- The bindings `b'` came from `b`: as many variables, and what was known stays.
pub record Follows (heap : List ℕ) (b b' : View) (top : ℕ) : Type 0 where
  pub bound : Bound heap b' top
  pub len : b'.len ≡ b.len
  pub kept : (i : ℕ) → i < b.len → (get_or b.slots i 0 ≡ unknown → ⊥) → get_or b'.slots i 0 ≡ get_or b.slots i 0

-- Older nodes are as they were, and at most `k` more were made than two for each unit of fuel that was taken.
pub record Moves (k : ℕ) (heap heap' slots slots' : List ℕ) (st st' : Machine) : Type 0 where
  pub agree : Agree st.top heap heap'
  pub graph : Graph heap' st'.top
  pub lengths : length slots ≡ length slots'
  pub grows : st.top ≤ st'.top
  pub spends : st'.fuel ≤ st.fuel
  pub owes : st'.top + 2 * st'.fuel ≤ st.top + 2 * st.fuel + k

-- A run whose meaning is `res`, whatever the type entries are.
pub record RanBackward (k : ℕ) (heap heap' slots slots' : List ℕ) (st : Machine) (b : View) (out : Outcome) (res : List TypeEntry → Res State) : Type 0 where
  pub moves : Moves k heap heap' slots slots' st out.state
  pub follows : out.status ≡ Done → Follows heap' b out.bindings out.state.top
  pub answer : (ys : List TypeEntry) → meaning heap' out ≡ res ys

-- A step that makes no node and runs no part.
pub record Stays (heap : List ℕ) (st : Machine) (b : View) (out : Outcome) (res : Res State) : Type 0 where
  pub state : out.state ≡ st
  pub follows : out.status ≡ Done → Follows heap b out.bindings st.top
  pub answer : meaning heap out ≡ res

-- The newest variable leaves the scope, with a node in any case.
pub record Goes (heap : List ℕ) (b : View) (r : AfterLeaving) : Type 0 where
  pub newest : r.newest ≡ node_or (found heap (get_or b.slots (b.len - 1) 0))
  pub slots : r.state.slots ≡ b.slots
  pub len : r.state.len ≡ b.len - 1

-- The run `res` of a term in the scope with one variable more, and the variable left it with the node `newest`: goes on with both.
pub record RanUnder (k : ℕ) (heap heap' slots slots' : List ℕ) (st : Machine) (b : View) (r : Inner) (res : List TypeEntry → Res State) : Type 0 where
  pub moves : Moves k heap heap' slots slots' st r.out.state
  pub follows : r.out.status ≡ Done → Follows heap' b r.out.bindings r.out.state.top
  pub there : r.out.status ≡ Done → r.newest < r.out.state.top
  pub answer : (ys : List TypeEntry) (next : Val → State → Run State) → after (res ys) (λ σ. leave σ next)
      ≡ left_with heap' r.out.bindings r.newest r.out.state.fuel r.out.status next

----------------------------------------------------------------
-- What is run

-- the values of the ancilla parameters
abbrev pub ancillae_of : List ℕ → View → ℕ → List Val
ancillae_of heap b q = ancillae_at heap b.slots 0 q

-- term `t` with value `v`, from its entering on, with height `room`
abbrev pub run_of : (code heap : List ℕ) → Machine → View → ℕ → ℕ → Val → ℕ → List TypeEntry → Res State
run_of code heap st b q t v room ys =
    backward fits (program_in code ys) room (ancillae_of heap b q) (state_of heap b) (tree_in code ys t) v st.fuel

-- the same, once the term is entered
abbrev pub step_of : (code heap : List ℕ) → Machine → View → ℕ → ℕ → Val → ℕ → List TypeEntry → Res State
step_of code heap st b q t v room ys =
    backward_step fits (program_in code ys) (forward fits (program_in code ys) (room - 1))
    (backward fits (program_in code ys) (room - 1)) (ancillae_of heap b q) (state_of heap b) (tree_in code ys t) v st.fuel

-- the same from its entering on, in a scope with one variable more, of which nothing is known
abbrev pub under_of : (code heap : List ℕ) → Machine → View → ℕ → ℕ → Val → ℕ → List TypeEntry → Res State
under_of code heap st b q t v room ys =
    backward fits (program_in code ys) room (ancillae_of heap b q) (none ∷ state_of heap b) (tree_in code ys t) v st.fuel

-- the same with the variable bound, which leaves when the term is run (02, F-3)
abbrev pub bound_of : (code heap : List ℕ) → Machine → View → ℕ → ℕ → (v w : Val) → ℕ → List TypeEntry → Res State
bound_of code heap st b q t v w room ys =
    branch_back (backward fits (program_in code ys) room) (ancillae_of heap b q) (state_of heap b) (tree_in code ys t) v w st.fuel

----------------------------------------------------------------
-- Slots and state

-- The state `b` and the slots of a scope agree, with the callers' scopes below and room for what is above; term `t` can be run in the scope of
-- `s` variables from there on.
pub record Prepared (k h : ℕ) (code heap slots : List ℕ) (m : Machine) (b : Bindings) (sc : Scope) (s t room : ℕ) : Type 0 where
  pub ready : Ready k h code heap slots m (scope_view slots sc) sc.q s t room
  pub tells : Tells heap slots b sc.base sc.q sc.n m.top
  pub older : Slots heap slots sc.base m.top
  pub space : sc.base + s + slots_per_height * room ≤ slot_count

-- A run in a scope, which leaves the slots below as they were.
pub record Gone (k : ℕ) (heap heap' slots slots' : List ℕ) (m m' : Machine) (sc : Scope) (r : Out) (res : List TypeEntry → Res State) : Type 0 where
  pub ran : RanBackward k heap heap' slots slots' m (scope_view slots sc) (outcome_of r slots' m' sc) res
  pub below : (j : ℕ) → j < sc.base → get_or slots j 0 ≡ get_or slots' j 0
  pub tells : (b : Bindings) → r ≡ Ok b → Tells heap' slots' b sc.base sc.q sc.n m'.top

-- The same in the scope with one variable more, which is there to leave it.
pub record GoneUnder (heap heap' slots slots' : List ℕ) (m m' : Machine) (sc : Scope) (r : Out) (res : List TypeEntry → Res State) : Type 0 where
  pub ran : RanUnder 0 heap heap' slots slots' m (scope_view slots sc) (inner_of heap' r slots' m' sc) res
  pub slot : status_of r ≡ Done → Slot heap' (get_or slots' (sc.base + sc.n) 0) m'.top
  pub below : (j : ℕ) → j < sc.base → get_or slots j 0 ≡ get_or slots' j 0
  pub tells : (b : Bindings) → r ≡ Ok b → Tells heap' slots' b sc.base sc.q (sc.n + 1) m'.top

-- The newest variable, the one above scope `sc`, can be looked up: in its slot the state sees what it binds it to.
pub record Leavable (heap slots : List ℕ) (b : Bindings) (sc : Scope) (top : ℕ) : Type 0 where
  pub there : sc.base + sc.n < slot_count
  pub looks : Looks heap b (get_or slots (sc.base + sc.n) 0) top
  pub told : seen heap b (get_or slots (sc.base + sc.n) 0) ≡ bound heap b sc.n

-- what is run, by the slots of a scope
abbrev pub run_at : (code heap slots : List ℕ) → Machine → Scope → ℕ → Val → ℕ → List TypeEntry → Res State
run_at code heap slots m sc t v room = run_of code heap m (scope_view slots sc) sc.q t v room

abbrev pub under_at : (code heap slots : List ℕ) → Machine → Scope → ℕ → Val → ℕ → List TypeEntry → Res State
under_at code heap slots m sc t v room = under_of code heap m (scope_view slots sc) sc.q t v room

abbrev pub bound_at : (code heap slots : List ℕ) → Machine → Scope → ℕ → (v w : Val) → ℕ → List TypeEntry → Res State
bound_at code heap slots m sc t v w room = bound_of code heap m (scope_view slots sc) sc.q t v w room

abbrev pub step_at : (code heap slots : List ℕ) → Machine → Scope → ℕ → Val → ℕ → List TypeEntry → Res State
step_at code heap slots m sc t v room = step_of code heap m (scope_view slots sc) sc.q t v room

----------------------------------------------------------------
-- In code: the numbers that a run is lent, and a scope in one number

-- Term `t` can be run in the scope; in the scope with one variable more.
pub record PreparedIn (k h : ℕ) (code heap st : List ℕ) (b : Bindings) (scope t room : ℕ) : Type 0 where
  pub full : length st ≡ state_count
  pub prepared : Prepared k h code heap (slots_of st) (machine_of st) b (scope_in scope) (scope_in scope).n t room

pub record PreparedUnder (code heap st : List ℕ) (b : Bindings) (scope t room : ℕ) : Type 0 where
  pub full : length st ≡ state_count
  pub prepared : Prepared 0 0 code heap (slots_of st) (machine_of st) b (scope_in scope) ((scope_in scope).n + 1) t room

-- Term `t` can be run in the scope with one variable more, for which there is a slot and a cell, and a cell more when it leaves.
pub record PreparedBound (code heap st : List ℕ) (b : Bindings) (scope t room : ℕ) : Type 0 where
  pub full : length st ≡ state_count
  pub few : (scope_in scope).n < max_variables
  pub prepared : Prepared 2 0 code heap (slots_of st) (machine_of st) b (scope_in scope) ((scope_in scope).n + 1) t room

-- Case `t` chooses by an ancilla (02, F-3), or does not: whatever the type entries are.
pub record CaseThat (c : Bool) (code : List ℕ) (scope t : ℕ) : Type 0 where
  pub kind : kind_in code t ≡ case_kind
  pub chooses : (ys : List TypeEntry) → by_ancilla (scope_in scope).q (scope_in scope).n (tree_in code ys (first_in code t)) ≡ c

-- one variable more can come into scope
pub record WidenReady (st : List ℕ) (scope : ℕ) : Type 0 where
  pub full : length st ≡ state_count
  pub there : (scope_in scope).base + (scope_in scope).n < slot_count
  pub few : (scope_in scope).n < max_variables

-- it came into scope, not known
pub record Widened (st st' : List ℕ) (scope wide : ℕ) : Type 0 where
  pub lengths : length st' ≡ length st
  pub slots : slots_of st' ≡ set (slots_of st) ((scope_in scope).base + (scope_in scope).n) unknown
  pub machine : machine_of st' ≡ machine_of st
  pub scope_is : scope_in wide ≡ record { base = (scope_in scope).base; q = (scope_in scope).q; n = (scope_in scope).n + 1 }

-- a run from the numbers `st` on; and to the numbers `st'`
abbrev pub GoneFrom : ℕ → (heap heap' st slots' : List ℕ) → Machine → ℕ → Out → (List TypeEntry → Res State) → Type 0
GoneFrom k heap heap' st slots' m' scope r res = Gone k heap heap' (slots_of st) slots' (machine_of st) m' (scope_in scope) r res

abbrev pub GoneIn : ℕ → (heap heap' st st' : List ℕ) → ℕ → Out → (List TypeEntry → Res State) → Type 0
GoneIn k heap heap' st st' scope r res = GoneFrom k heap heap' st (slots_of st') (machine_of st') scope r res

-- Term `t` was run with the value at `node`, from the state by value `b`: whatever the type entries are, the rules' `backward` carries the state
-- that `b` is to the state that is handed back, or to the refusal.
pub record RunsBack (code heap heap' st st' : List ℕ) (b : Bindings) (scope t node room : ℕ) (r : Out) : Type 0 where
  pub lengths : length st' ≡ length st
  pub gone : GoneIn 0 heap heap' st st' scope r (run_at code heap (slots_of st) (machine_of st) (scope_in scope) t (value_at heap node) room)
  pub answer : (ys : List TypeEntry)
      → told_of heap' (slots_of st') (scope_in scope) (machine_of st').fuel r
      ≡ backward fits (program_in code ys) room (ancillae_in heap st scope) (state_in heap (slots_of st) b (scope_in scope)) (tree_in code ys t)
      (value_at heap node) (machine_of st).fuel

-- The same by the slots, from the term's entering on; and in the scope with one variable more.

pub record StepsBack (code heap heap' st st' : List ℕ) (scope t node room : ℕ) (r : Out) : Type 0 where
  pub lengths : length st' ≡ length st
  pub gone : GoneIn 2 heap heap' st st' scope r (step_at code heap (slots_of st) (machine_of st) (scope_in scope) t (value_at heap node) room)

pub record RunsUnder (code heap heap' st st' : List ℕ) (scope t node room : ℕ) (r : Out) : Type 0 where
  pub lengths : length st' ≡ length st
  pub gone : GoneUnder heap heap' (slots_of st) (slots_of st') (machine_of st) (machine_of st') (scope_in scope) r
      (under_at code heap (slots_of st) (machine_of st) (scope_in scope) t (value_at heap node) room)

-- ... and in the scope with one variable more, bound to the value of `part`, which leaves at the end
pub record RunsBound (code heap heap' st st' : List ℕ) (scope t part node room : ℕ) (r : Out) : Type 0 where
  pub lengths : length st' ≡ length st
  pub gone : GoneIn 2 heap heap' st st' scope r
      (bound_at code heap (slots_of st) (machine_of st) (scope_in scope) t (value_at heap node) (value_at heap part) room)

----------------------------------------------------------------
-- The last part of a term

-- A run whose meaning is `res` goes on with another term, at height `room`: whatever becomes of that one becomes of the run.
pub record GoesOn (k : ℕ) (code heap heap' st st' : List ℕ) (scope room : ℕ) (res : List TypeEntry → Res State) (b : Bindings) (t node : ℕ) : Type 0 where
  pub prepared : PreparedIn 0 0 code heap' st' b scope t room
  pub there : node < (machine_of st').top
  pub spends : (machine_of st').fuel ≤ (machine_of st).fuel
  pub becomes : {heap'' slots'' : List ℕ} {m'' : Machine} {r : Out}
      → GoneFrom 0 heap' heap'' st' slots'' m'' scope r (run_at code heap' (slots_of st') (machine_of st') (scope_in scope) t (value_at heap' node) room)
      → GoneFrom k heap heap'' st slots'' m'' scope r res

-- what a step comes to: the run is over, or goes on
pub record LeadsTo (k : ℕ) (code heap heap' st st' : List ℕ) (scope room : ℕ) (res : List TypeEntry → Res State) (n : Result Next Refusal) : Type 0 where
  pub lengths : length st' ≡ length st
  pub over : (out : Out) → n ≡ ended_in out → GoneIn k heap heap' st st' scope out res
  pub on : (t node : ℕ) (b : Bindings) → n ≡ Ok (On t node b) → GoesOn k code heap heap' st st' scope room res b t node

-- of term `t`, entered with the value at `node`
abbrev pub StepsTo : (code heap heap' st st' : List ℕ) → ℕ → ℕ → ℕ → ℕ → Result Next Refusal → Type 0
StepsTo code heap heap' st st' scope t node room n = LeadsTo 2 code heap heap' st st' scope (room - 1)
    (step_at code heap (slots_of st) (machine_of st) (scope_in scope) t (value_at heap node) room) n

-- of term `t`, to be entered with a value that is made for it
abbrev pub Enters : (code heap heap' st st' : List ℕ) → ℕ → ℕ → Val → ℕ → Result Next Refusal → Type 0
Enters code heap heap' st st' scope t v room n = LeadsTo 1 code heap heap' st st' scope room
    (run_at code heap (slots_of st) (machine_of st) (scope_in scope) t v room) n

-- a node was made at the first free place for term `t`, or its value is too long
pub record EntersNew (made : Bool) (st st' : List ℕ) (b : Bindings) (t room : ℕ) (n : Result Next Refusal) : Type 0 where
  pub lengths : length st' ≡ length st
  pub slots : slots_of st' ≡ slots_of st
  pub new : made ≡ true → (machine_of st' ≡ record { top = (machine_of st).top + 1; fuel = (machine_of st).fuel }) × (n ≡ Ok (On t (machine_of st).top b))
  pub long : made ≡ false → (machine_of st' ≡ machine_of st) × (n ≡ Err (too_long (machine_of st).fuel room t))

abbrev pub EntersSingle : (code heap heap' st st' : List ℕ) → ℕ → ℕ → ℕ → ℕ → ℕ → Result Next Refusal → Type 0
EntersSingle code heap heap' st st' scope t kind part room n = Enters code heap heap' st st' scope t
    (of_kind kind (value_at heap part) (value_at heap part)) room n

abbrev pub EntersPair : (code heap heap' st st' : List ℕ) → ℕ → ℕ → ℕ → ℕ → ℕ → Result Next Refusal → Type 0
EntersPair code heap heap' st st' scope t left right room n = Enters code heap heap' st st' scope t (pair (value_at heap left) (value_at heap right)) room n

----------------------------------------------------------------
-- Terms without parts

-- What meeting a variable handed back, by what became of the run: where it is stopped, the state that was asked of.
abbrev pub handed_back : Bindings → Out → Result Bindings Bindings
handed_back b (Ok bs) = Ok bs
handed_back b (Err why) = Err b

-- Variable `i` was met at term `t`: 16 where the values differ.
pub record Variable (heap heap' st st' : List ℕ) (b : Bindings) (sc : Scope) (i node t : ℕ) (r : Out) : Type 0 where
  pub met : MeetsAt heap heap' st st' b sc i node (handed_back b r)
  pub differs : (why : Refusal) → r ≡ Err why → why ≡ NoInput t

-- The unit was met with a value.
pub record UnitMet (heap : List ℕ) (b : Bindings) (node : ℕ) (r : Out) : Type 0 where
  pub met : nodeKind heap node ≡ 0 → r ≡ Ok b
  pub differs : (nodeKind heap node ≡ 0 → ⊥) → r ≡ Err Stuck
