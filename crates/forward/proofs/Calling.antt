-- A call: its arguments are placed, and the body is evaluated in the scope that they are.
use Prim.Native.Nat.{ℕ, ◌+◌, ◌-◌, ◌≤◌, ◌<◌}
use native.Mathlib.Omega.{arith}
use native.Mathlib.Decide.{dec_lt}
use mathlib.Core.Path.{◌≡◌, sym, ap, ap₂, subst, ◌∙◌}
use mathlib.Core.Logic.{inl as left, inr as right}
use mathlib.Core.Option.{some}
use mathlib.Core.List.{List, [], ◌∷◌, map}
use lib.ListN.{get_or}
use package.Rattle.rules.specs.Limits.{fits, max_parameters}
use package.Rattle.rules.specs.Val.{Val}
use package.Rattle.rules.specs.Term.{Term, Fun, nth, scope}
use package.Rattle.rules.specs.Run.{Res, Run}
use package.Rattle.rules.specs.Machine.{run_forward, on_some, forward_step, forward}
use package.Rattle.calls.specs.Entries.{TypeEntry}
use package.Rattle.valuegraph.specs.Nodes.{value_at}
use package.Rattle.scopes.specs.Slots.{unknown, Machine, Scope, Slot}
use package.Rattle.yields.specs.Yields.{Ancillae}
use package.Rattle.forward.specs.Outcomes.{Out}
use package.Rattle.forward.specs.Ready.{Ready, RanForward, ancillae_of, state_of, run_of, step_of, values_at, arguments_of, Places, Calls}
use package.Rattle.forward.proofs.Answers.{below-mark}
use package.Rattle.forward.proofs.Runs.{meaning-refused, says, slack, then, held_later}
use package.Rattle.forward.proofs.Steps.{stepped}
use package.Rattle.forward.proofs.Starting.{argument_scope, run-of-function}
use package.Rattle.forward.proofs.Placing.{arguments, placed-value, placed-refused, few-count, place-room}
use Rattle.forward.specs.declared.outcomes.Refusal.{Refusal}
use package.Rattle.decoded.specs.Rows.{argument_in, body_in, first_in, function_count, program_in, third_in, tree_in}
use package.Rattle.decoded.proofs.Trees.{called-function, called-there, called-tree, tree-call}
use Rattle.std.specs.Prelude.{Ok, Err}

-- the scope of the function that is called: its arguments
abbrev pub inner : Scope → ℕ → Scope
inner sc count = argument_scope (sc.base + sc.n) count

module _ {code heap slots : List ℕ} {st : Machine} {sc : Scope} {t room : ℕ} (rd : Ready 1 0 code heap slots st sc t room)
    {count : ℕ} (C : Calls code t 0 count) {heap₁ slots₁ : List ℕ} {r₁ : Out} (D : Places code heap heap₁ slots slots₁ st sc t room 0 count r₁) where
  abbrev m : ℕ
  m = sc.base + sc.n

  abbrev step : List TypeEntry → Res Val
  step = step_of code heap slots st sc t room

  abbrev callee : Fun → List TypeEntry → List Val → Val → Run Val
  callee h ys vs v = forward fits (program_in code ys) (room - 1) (scope vs []) (some v ∷ map some (scope vs [])) h.body

  step_call : (ys : List TypeEntry) (h : Fun) → nth (program_in code ys) (first_in code t) ≡ some h
      → step ys ≡ arguments_of code heap slots st sc t room 0 count ys (callee h ys)
  unfolding forward_step on_some
  step_call ys h e =
      stepped rd ys (tree-call rd.rows t rd.term ys C.kind)
      ∙ ap (λ o. on_some o (λ h. λ fuel. arguments go (tree_in code ys) code t (tree_in code ys (argument_in code t (third_in code t))) 0 (third_in code t) fuel
      (callee h ys)) st.fuel) e
      ∙ ap (λ n. arguments go (tree_in code ys) code t (tree_in code ys (argument_in code t n)) 0 n st.fuel (callee h ys)) (sym C.ancillae)
      ∙ ap (λ n. arguments go (tree_in code ys) code t (tree_in code ys (argument_in code t count)) 0 n st.fuel (callee h ys))
      (let z : count ≡ count - 0 = omega arith in z)
    where
      go : Term → Run Val
      go = forward fits (program_in code ys) (room - 1) (ancillae_of heap slots sc) (state_of heap slots sc)

  abbrev function : List TypeEntry → Fun
  function ys = called-tree code ys (first_in code t)

  -- the call, from its arguments on
  from_arguments : (ys : List TypeEntry) → step ys ≡ arguments_of code heap slots st sc t room 0 count ys (callee (function ys) ys)
  from_arguments ys = step_call ys (function ys) (called-there code ys (first_in code t) (called-function rd.rows t rd.term C.kind))

  pub call-refused : {why : Refusal} → r₁.status ≡ Err why → RanForward 1 heap heap₁ m slots slots₁ st r₁ step
  call-refused {why} s =
      slack (says D.ran (λ ys. meaning-refused heap₁ r₁ s ∙ sym (placed-refused heap₁ slots₁ m 0 count r₁.state.fuel (callee (function ys) ys) s)
      ∙ sym (D.answer ys (callee (function ys) ys)) ∙ sym (from_arguments ys))) 1 (omega arith)

  module _ {n : ℕ} (s : r₁.status ≡ Ok n) (g b : ℕ) (qg : g ≡ first_in code t) (qb : b ≡ body_in code g) where
    all-arguments : Calls code t count count
    all-arguments = record { kind = C.kind; ancillae = C.ancillae; next = omega arith }

    small-nodes : r₁.state.top ≤ unknown
    small-nodes = omega (arith, rd.small, D.ran.owes, below-mark)

    arguments-held : Ancillae slots₁ m count r₁.state.top
    arguments-held = record {
      there = omega (arith, place-room rd all-arguments);
      known = λ i h. D.held n s i (omega arith) (omega arith);
    }

    called : g < function_count code
    called = rw qg (called-function rd.rows t rd.term C.kind)

    held_all : (j : ℕ) → Dec (j < m) → j < m + (count + 1) → Slot heap₁ (get_or slots₁ j 0) r₁.state.top
    held_all j (yes l) h = (held_later rd D.ran).held j l
    held_all j (no l) h = right (left (subst (λ j. get_or slots₁ j 0 < r₁.state.top) (let z : m + (j - m) ≡ j = omega arith in z)
        (D.held n s (j - m) (omega arith) (omega arith))))

    pub call-ready : Ready 0 0 code heap₁ slots₁ r₁.state (inner sc count) b (room - 1)
    unfolding max_parameters
    call-ready = record {
      rows = rd.rows;
      term = rw qb (rd.rows.bodies g called);
      graph = D.ran.graph;
      held = record { held = λ j h. held_all j (dec_lt j m) h };
      ancillae = arguments-held.known;
      within = omega arith;
      nodes = omega (arith, rd.nodes, D.ran.owes, D.ran.agree.lengths);
      small = omega (arith, rd.small, D.ran.owes);
      variables = omega (arith, rd.variables, rd.tall, few-count rd C, D.ran.lengths);
      full = sym D.ran.lengths ∙ rd.full;
      tall = omega arith;
    }

    called-run : (ys : List TypeEntry) → callee (function ys) ys (values_at heap₁ slots₁ (m + 0) (count - 0)) (value_at heap₁ (get_or slots₁ (m + count) 0))
        r₁.state.fuel
        ≡ run_of code heap₁ slots₁ r₁.state (inner sc count) b (room - 1) ys
    unfolding run_forward
    called-run ys =
        ap₂ (λ i n. callee (function ys) ys (values_at heap₁ slots₁ i n) (value_at heap₁ (get_or slots₁ (m + count) 0)) r₁.state.fuel)
        (let z : m + 0 ≡ m = omega arith in z) (let z : count - 0 ≡ count = omega arith in z)
        ∙ run-of-function code heap₁ slots₁ r₁.state m count arguments-held (D.held n s count (omega arith) (omega arith)) small-nodes (first_in code t) b
        (rw qg at qb) (room - 1) ys

    pub call_done : {heap₂ slots₂ : List ℕ} {r₂ : Out} → RanForward 0 heap₁ heap₂ (m + (count + 1)) slots₁ slots₂ r₁.state r₂
        (run_of code heap₁ slots₁ r₁.state (inner sc count) b (room - 1))
        → RanForward 1 heap heap₂ m slots slots₂ st r₂ step
    call_done d =
        slack (then D.ran (says d (λ ys. sym (called-run ys) ∙ sym (placed-value heap₁ slots₁ m 0 count r₁.state.fuel (callee (function ys) ys) s)
        ∙ sym (D.answer ys (callee (function ys) ys)) ∙ sym (from_arguments ys))) (omega arith)) 1 (omega arith)
