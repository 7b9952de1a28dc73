-- What the outcome of a backward run in code means: an answer of rules/specs/Run, with document 01's numbers of refusals (section 4). The
-- outcome of a run is one number. Laws: proofs/Stops, Runs.
use Rattle.std.specs.Prelude.{ℕ, zero, suc, ◌+◌, ◌-◌, ◌/◌, ◌%◌, ◌<◌, ◌≡◌, true, false, List, get_or, eqb, ltb, Result, Ok, Err}
use package.Rattle.rules.specs.Val.{Val}
use package.Rattle.rules.specs.Run.{Res, ok, stop, stuck, Run}
use package.Rattle.rules.specs.Machine.{State}
use package.Rattle.valuegraph.specs.Nodes.{value_at}
use package.Rattle.scopes.specs.Slots.{part, Machine, Scope, found, node_or}
use package.Rattle.scopes.specs.Bindings.{View, view_of, state_of, state_in}
use package.Rattle.forward.specs.Outcomes.{stopped, refusal_in}
use package.Rattle.forward.specs.declared.outcomes.Refusal.{Refusal as Carried}
use package.Rattle.forward.specs.declared.outcomes.Refusal.TheVariants.{Fuel as cFuel, Height as cHeight, Long as cLong, FirstMatch as cFirstMatch, Stuck as cStuck}
use Rattle.backward.specs.declared.outcomes.Refusal.{Refusal}
use Rattle.backward.specs.declared.outcomes.Next.{Next}
use Rattle.backward.specs.declared.outcomes.Next.TheVariants.{Over}
use package.Rattle.scopes.specs.declared.bindings.Bindings.{Bindings}
use Rattle.backward.specs.declared.outcomes.Refusal.TheVariants.{Fuel, Height, Long, FirstMatch, NoInput, Stuck}

----------------------------------------------------------------
-- Outcomes

pub data Status : Type 0 where
  Done : Status
  Refused : Refusal → Status

-- a status, with the machine that is left and the view of the bindings
pub record Outcome : Type 0 where
  pub status : Status
  pub state : Machine
  pub bindings : View

-- an outcome, with the node of a variable that has left the scope
pub record Inner : Type 0 where
  pub out : Outcome
  pub newest : ℕ

-- a refusal of what a backward run runs forward: an ancilla term, or the scrutinee of a case that chooses by an ancilla
unfoldable pub carried : Carried → Refusal
carried (cFuel t) = Fuel t
carried (cHeight t) = Height t
carried (cLong t) = Long t
carried (cFirstMatch t) = FirstMatch t
carried cStuck = Stuck

-- A number that stops a run: from `stopped` on a refusal as forward has it, below it the term, and one more, that has no input (16).
unfoldable pub why_of : ℕ → Refusal
why_of s = elim (ltb s stopped) [ true ↦ NoInput ((s - 1) % part) | false ↦ carried (refusal_in ((s - stopped) / part) ((s - stopped) % part)) ]

-- the number of this refusal
pub record Numbers (s : ℕ) (why : Refusal) : Type 0 where
  pub some : 0 < s
  pub says : why_of s ≡ why

-- the state that a run hands back, or the refusal
abbrev pub Out : Type 0
Out = Result Bindings Refusal

-- a number of 64 bits holds two below this one
abbrev pub half : ℕ
half = 4294967296

-- the outcome that one number is: what stopped the run, 0 if nothing did, and the newest cell of the state
unfoldable pub out_in : ℕ → Out
out_in r = elim (eqb (r / half) 0) [ true ↦ Ok (record { head = r % half }) | false ↦ Err (why_of (r / half)) ]

-- what a step comes to whose run is over
abbrev pub ended_in : Out → Result Next Refusal
ended_in (Ok b) = Ok (Over b)
ended_in (Err why) = Err why

abbrev pub status_of : {A : Type 0} → Result A Refusal → Status
status_of (Ok a) = Done
status_of (Err why) = Refused why

-- what the slots of a scope hold
abbrev pub scope_view : List ℕ → Scope → View
scope_view slots sc = view_of slots sc.base sc.n

-- an outcome, with the machine that is left and the slots of a scope
abbrev pub outcome_of : {A : Type 0} → Result A Refusal → List ℕ → Machine → Scope → Outcome
outcome_of s slots m sc = record { status = status_of s; state = m; bindings = scope_view slots sc }

----------------------------------------------------------------
-- What an outcome means

-- the number of a refusal, and its place
unfoldable pub refusal_of : {A : Type 0} → Refusal → Res A
refusal_of (Fuel t) = stop 12 t
refusal_of (Height t) = stop 13 t
refusal_of (Long t) = stop 14 t
refusal_of (FirstMatch t) = stop 15 t
refusal_of (NoInput t) = stop 16 t
refusal_of Stuck = stuck

-- a status, with the bindings and the fuel that is left, on the heap that their nodes are in
unfoldable pub answer_of : List ℕ → View → ℕ → Status → Res State
answer_of heap b fuel Done = ok (state_of heap b) fuel
answer_of heap b fuel (Refused why) = refusal_of why

-- an outcome with the rules' state itself, which the binding state says
unfoldable pub told_of : (heap slots : List ℕ) → Scope → ℕ → Out → Res State
told_of heap slots sc fuel (Ok b) = ok (state_in heap slots b sc) fuel
told_of heap slots sc fuel (Err why) = refusal_of why

abbrev pub meaning : List ℕ → Outcome → Res State
meaning heap out = answer_of heap out.bindings out.state.fuel out.status

-- how a run goes on with the node of a variable that has left the scope, and the other bindings
unfoldable pub left_with : List ℕ → View → ℕ → ℕ → Status → (Val → State → Run State) → Res State
left_with heap b newest fuel Done next = next (value_at heap newest) (state_of heap b) fuel
left_with heap b newest fuel (Refused why) next = refusal_of why

-- Term `t` is entered with a value that is too long: 14 is met after 12 and 13.
unfoldable pub too_long : ℕ → ℕ → ℕ → Refusal
too_long zero room t = Fuel t
too_long (suc fuel) zero t = Height t
too_long (suc fuel) (suc room) t = Long t

-- Term `t` makes values of one kind, and its value is of the kind `found`: inl against inr has no input (16), other kinds are of no typed value.
unfoldable pub against : ℕ → ℕ → ℕ → Refusal
against other found t = elim (eqb found other) [ true ↦ NoInput t | false ↦ Stuck ]

unfoldable pub mismatch : ℕ → ℕ → ℕ → Refusal
mismatch kind found t = elim (eqb kind 1) [
  | true ↦ against 2 found t
  | false ↦ elim (eqb kind 2) [ true ↦ against 1 found t | false ↦ Stuck ]
]

-- the outcome of a run in the scope with one variable more, which then leaves it
abbrev pub inner_of : {A : Type 0} → List ℕ → Result A Refusal → List ℕ → Machine → Scope → Inner
inner_of heap s slots m sc = record { out = outcome_of s slots m sc; newest = node_or (found heap (get_or slots (sc.base + sc.n) 0)) }
