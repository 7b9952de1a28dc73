-- What a run in code has and answers, by the numbers that the code holds, and what an answer means: an answer of rules/specs/Run, with
-- document 01's numbers of refusals (section 4). Laws: proofs/Answers, Runs.
use Rattle.std.specs.Prelude.{ℕ, ◌+◌, ◌-◌, ◌*◌, ◌/◌, ◌%◌, ◌≡◌, Bool, true, false, List, eqb, ltb, Option, Some, None, Result, Ok, Err}
use package.Rattle.rules.specs.Val.{Val}
use package.Rattle.rules.specs.Run.{Res, ok, stop, stuck}
use package.Rattle.valuegraph.specs.Nodes.{value_at}
use package.Rattle.scopes.specs.Slots.{part, Machine, machine_of}
use Rattle.forward.specs.declared.outcomes.Refusal.{Refusal}
use Rattle.forward.specs.declared.outcomes.Refusal.TheVariants.{Fuel, Height, Long, FirstMatch, Stuck}

----------------------------------------------------------------
-- Answers

-- An answer below this number is a node. From here on it is a refusal: its number, of which the place is `part`, and its term.
abbrev pub stopped : ℕ
stopped = 2147483648

-- a refusal by its number; no number of section 4 is a value of wrong shape
unfoldable pub refusal_in : ℕ → ℕ → Refusal
refusal_in number t = elim (eqb number 12) [
  | true ↦ Fuel t
  | false ↦ elim (eqb number 13) [
    | true ↦ Height t
    | false ↦ elim (eqb number 14) [
      | true ↦ Long t
      | false ↦ elim (eqb number 15) [ true ↦ FirstMatch t | false ↦ Stuck ]
    ]
  ]
]

unfoldable pub status_of : ℕ → Result ℕ Refusal
status_of r = elim (ltb r stopped) [ true ↦ Ok r | false ↦ Err (refusal_in ((r - stopped) / part) ((r - stopped) % part)) ]

-- the number of a refusal in an answer, and its term; a value of wrong shape has neither
abbrev pub number_in : Refusal → ℕ
number_in (Fuel t) = 12
number_in (Height t) = 13
number_in (Long t) = 14
number_in (FirstMatch t) = 15
number_in Stuck = 0

abbrev pub place_in : Refusal → ℕ
place_in (Fuel t) = t
place_in (Height t) = t
place_in (Long t) = t
place_in (FirstMatch t) = t
place_in Stuck = 0

-- the answer that is this refusal
pub record Stops (r : ℕ) (why : Refusal) : Type 0 where
  pub is : r ≡ stopped + part * number_in why + place_in why
  pub status : status_of r ≡ Err why

-- an answer, with the machine that is left
pub record Out : Type 0 where
  pub status : Result ℕ Refusal
  pub state : Machine

-- the same of the numbers that a run leaves
abbrev pub out_of : ℕ → List ℕ → Out
out_of r st = record { status = status_of r; state = machine_of st }

----------------------------------------------------------------
-- What an answer means

-- the number of a refusal, and its place
unfoldable pub refusal_of : {A : Type 0} → Refusal → Res A
refusal_of (Fuel t) = stop 12 t
refusal_of (Height t) = stop 13 t
refusal_of (Long t) = stop 14 t
refusal_of (FirstMatch t) = stop 15 t
refusal_of Stuck = stuck

-- a status, with the fuel that is left, on the heap that its node is in
unfoldable pub answer_of : List ℕ → ℕ → Result ℕ Refusal → Res Val
answer_of heap fuel (Ok node) = ok (value_at heap node) fuel
answer_of heap fuel (Err why) = refusal_of why

abbrev pub meaning : List ℕ → Out → Res Val
meaning heap out = answer_of heap out.state.fuel out.status

-- The node at `top` is the answer, if it was made; else its value is too long (14), at term `t`.
unfoldable pub finished : Bool → Machine → ℕ → Out
finished made st t = elim made [
  | true ↦ record { status = Ok st.top; state = record { top = st.top + 1; fuel = st.fuel } }
  | false ↦ record { status = Err (Long t); state = st }
]

-- A variable is its node, if it is in scope.
unfoldable pub found_out : Option ℕ → Machine → Out
found_out (Some node) st = record { status = Ok node; state = st }
found_out None st = record { status = Err Stuck; state = st }

-- The answer `r` is what was found, whatever the machine is.
pub record Finds (r : ℕ) (f : Option ℕ) : Type 0 where
  pub is : (st : Machine) → record { status = status_of r; state = st } ≡ found_out f st
