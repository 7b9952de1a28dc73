-- The ancilla arguments of a call, which are run forward, and the run of a function.
use Rattle.std.specs.Prelude.{ℕ, ◌+◌, ◌*◌, ◌-◌, ◌≤◌, ◌<◌, ◌≡◌, List, [], length, get_or, Result, Ok, Err}
use package.Rattle.rules.specs.Limits.{fits}
use package.Rattle.rules.specs.Val.{Val}
use package.Rattle.rules.specs.Term.{scope}
use package.Rattle.rules.specs.Run.{Res, ok, Run, after}
use package.Rattle.rules.specs.Machine.{State, filled, each, forward, run_backward}
use package.Rattle.calls.specs.Entries.{TypeEntry, term_trees, function_of}
use package.Rattle.decoded.specs.Rows.{parameters_in, arguments_in, function_count, function_in, terms_in, tree_in, program_in}
use package.Rattle.valuegraph.specs.Nodes.{value_at}
use package.Rattle.scopes.specs.Slots.{slot_count, state_count, Machine, Scope, machine_of, slots_of, scope_in, slots_per_height}
use package.Rattle.scopes.specs.Bindings.{View, state_of}
use package.Rattle.yields.specs.Yields.{ancillae_at}
use package.Rattle.forward.specs.Ready.{values_at, ancillae_of as forwardAncillae, state_of as forwardState}
use package.Rattle.backward.specs.Outcomes.{Status, Done, Refused, Outcome, Inner, status_of, scope_view, outcome_of, refusal_of}
use package.Rattle.backward.specs.Ready.{Held, Binds, Moves, ancillae_of}
use Rattle.backward.specs.declared.outcomes.Refusal.{Refusal}

----------------------------------------------------------------
-- Arguments

-- `k` arguments, all known
pub record Collected (heap : List ℕ) (args : View) (k top : ℕ) : Type 0 where
  pub binds : Binds heap args k top
  pub all : args.len ≡ k

-- `next` with the values of the arguments, the newest first; or the refusal
unfoldable pub gathered_of : List ℕ → View → ℕ → ℕ → Status → (List Val → Run State) → Res State
gathered_of heap args count fuel Done next = next (ancillae_at heap args.slots 0 count) fuel
gathered_of heap args count fuel (Refused why) next = refusal_of why

-- `next` with the values in `n` slots; or the refusal
unfoldable pub listed_of : List ℕ → List ℕ → ℕ → ℕ → ℕ → Status → (List Val → Run State) → Res State
listed_of heap slots from n fuel Done next = next (values_at heap slots from n) fuel
listed_of heap slots from n fuel (Refused why) next = refusal_of why

-- The ancilla terms of call `t` from number `k` of `count` on, in a scope of the lent slots, and `next` with their values.
abbrev pub gather_of : (code heap slots : List ℕ) → Machine → Scope → ℕ → ℕ → ℕ → ℕ → List TypeEntry → (List Val → Run State) → Res State
gather_of code heap slots st sc t room k count ys next =
    after
    (each (forward fits (program_in code ys) (room - 1) (forwardAncillae heap slots sc) (forwardState heap slots sc))
    (term_trees (tree_in code ys) (arguments_in code t k (count - k))) st.fuel)
    next

-- Their nodes stand in the slots behind the scope, which is as it was.
pub record Gathers (code heap heap' slots slots' : List ℕ) (st : Machine) (sc : Scope) (t room k count : ℕ) (stop : Result (Unit {0}) Refusal) (st' : Machine) : Type 0 where
  pub moves : Moves 0 heap heap' slots slots' st st'
  pub below : (j : ℕ) → j < sc.base + sc.n → get_or slots j 0 ≡ get_or slots' j 0
  pub held : status_of stop ≡ Done → (j : ℕ) → k ≤ j → j < count → get_or slots' (sc.base + sc.n + j) 0 < st'.top
  pub answer : (ys : List TypeEntry) (next : List Val → Run State)
      → gather_of code heap slots st sc t room k count ys next ≡ listed_of heap' slots' (sc.base + sc.n + k) (count - k) st'.fuel (status_of stop) next

-- All ancilla terms of call `t`, in the state at hand: they read a variable that was not met so far as unit (02, F-2).
abbrev pub arguments_of : (code heap : List ℕ) → Machine → View → ℕ → ℕ → ℕ → ℕ → List TypeEntry → (List Val → Run State) → Res State
arguments_of code heap st b q t room count ys next =
    after
    (each (forward fits (program_in code ys) (room - 1) (ancillae_of heap b q) (filled (state_of heap b)))
    (term_trees (tree_in code ys) (arguments_in code t 0 count)) st.fuel)
    (λ vs. next (scope vs []))

pub record Arguments (code heap heap' slots slots' : List ℕ) (st : Machine) (b : View) (q t room count : ℕ) (out : Outcome) : Type 0 where
  pub moves : Moves 0 heap heap' slots slots' st out.state
  pub collected : out.status ≡ Done → Collected heap' out.bindings count out.state.top
  pub answer : (ys : List TypeEntry) (next : List Val → Run State)
      → arguments_of code heap st b q t room count ys next ≡ gathered_of heap' out.bindings count out.state.fuel out.status next

----------------------------------------------------------------
-- The run of a function

-- Function `g` can be run backward with the ancilla values `args`, and the node of its value.
pub record Starts (code heap slots : List ℕ) (st : Machine) (args : View) (q g node room : ℕ) : Type 0 where
  pub machine : Held 0 code heap slots st room
  pub function : g < function_count code
  pub arguments : Collected heap args q st.top
  pub parameters : q + 1 ≡ parameters_in code g
  pub value : node < st.top

-- the answer: the node's value, or a refusal
unfoldable pub returned : List ℕ → ℕ → ℕ → Status → Res Val
returned heap newest fuel Done = ok (value_at heap newest) fuel
returned heap newest fuel (Refused why) = refusal_of why

-- the node of the input, if the run gave one
abbrev pub input_in : Result ℕ Refusal → ℕ
input_in (Ok node) = node
input_in (Err why) = 0

-- The run of function `g` is the rules', whatever the type entries are.
pub record Returns (code heap heap' slots slots' : List ℕ) (st : Machine) (args : View) (q g node room : ℕ) (r : Inner) : Type 0 where
  pub moves : Moves 0 heap heap' slots slots' st r.out.state
  pub there : r.out.status ≡ Done → r.newest < r.out.state.top
  pub answer : (ys : List TypeEntry) → returned heap' r.newest r.out.state.fuel r.out.status
      ≡ run_backward fits (program_in code ys) room (function_of ys (terms_in code) (function_in code g))
      (values_at heap args.slots 0 q) (value_at heap node) st.fuel

----------------------------------------------------------------
-- In code

-- the ancilla terms of call `t` were run, from number `k` on
pub record GathersIn (code heap heap' st st' : List ℕ) (scope t room k count : ℕ) (stop : Result (Unit {0}) Refusal) : Type 0 where
  pub lengths : length st' ≡ length st
  pub gathers : Gathers code heap heap' (slots_of st) (slots_of st') (machine_of st) (scope_in scope) t room k count stop (machine_of st')

-- the scope of a function's ancilla values, which stand in the first slots
abbrev pub values_scope : ℕ → Scope
values_scope q = record { base = 0; q = q; n = q }

pub record StartsIn (code heap st : List ℕ) (q g node room : ℕ) : Type 0 where
  pub full : length st ≡ state_count
  pub starts : Starts code heap (slots_of st) (machine_of st) (scope_view (slots_of st) (values_scope q)) q g node room
  pub space : q + 1 + slots_per_height * room ≤ slot_count

pub record ReturnsIn (code heap heap' st st' : List ℕ) (q g node room : ℕ) (r : Result ℕ Refusal) : Type 0 where
  pub lengths : length st' ≡ length st
  pub returns : Returns code heap heap' (slots_of st) (slots_of st') (machine_of st) (scope_view (slots_of st) (values_scope q)) q g node room
      (record { out = outcome_of r (slots_of st') (machine_of st') (values_scope q); newest = input_in r })
