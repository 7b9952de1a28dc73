-- A call: its ancilla terms forward; the body of the function with the arguments known and the dynamic parameter not; then the dynamic term,
-- with the bindings as they were before the call.
use Prim.Native.Nat.{ℕ, ◌+◌, ◌-◌, ◌≤◌, ◌<◌}
use native.Mathlib.Omega.{arith}
use mathlib.Core.Path.{◌≡◌, sym, ap, ap₂, subst, ◌∙◌}
use mathlib.Core.Option.{none, some}
use mathlib.Core.List.{List, [], ◌∷◌, map}
use package.Rattle.rules.specs.Limits.{fits, max_variables}
use package.Rattle.rules.specs.Val.{Val}
use package.Rattle.rules.specs.Term.{Term, Fun, nth, scope}
use package.Rattle.rules.specs.Run.{Res, Run, after}
use package.Rattle.rules.specs.Machine.{State, on_some, leave, filled, each, forward, backward_step, backward}
use package.Rattle.calls.specs.Entries.{TypeEntry, term_trees}
use package.Rattle.decoded.specs.Rows.{argument_in, arguments_in, body_in, first_in, function_count, parameters_in, program_in, third_in, tree_in}
use package.Rattle.decoded.proofs.Trees.{called-body, called-function, called-there, called-tree, part-argument, tree-call}
use package.Rattle.valuegraph.specs.Nodes.{value_at}
use package.Rattle.valuegraph.proofs.Heaps.{value-kept}
use package.Rattle.scopes.specs.Slots.{unknown, state_at, Machine}
use package.Rattle.scopes.specs.Bindings.{View, state_of}
use package.Rattle.yields.specs.Yields.{ancillae_at}
use package.Rattle.yields.proofs.Ancillae.{state-ancillae}
use package.Rattle.forward.specs.Ready.{Calls}
use package.Rattle.backward.specs.Scoped.{ScopedAt}
use package.Rattle.backward.specs.Outcomes.{Done, Refused, Outcome, Inner}
use package.Rattle.backward.specs.Ready.{Ready, Held, Follows, Moves, RanBackward, RanUnder, ancillae_of, run_of, under_of, step_of}
use package.Rattle.backward.specs.Calls.{Collected, arguments_of, Arguments}
use package.Rattle.backward.proofs.Runs.{meaning-refused, not_done, ancillae-held, state_later, moves-then, held_later, held-less, small_top, says, slack, under-refused, under_done}
use package.Rattle.backward.proofs.Parts.{later, ancillae-after, owing_none, part, scoped-call}
use package.Rattle.backward.proofs.Steps.{go, stepped}
use package.Rattle.backward.proofs.Gathering.{gathered_done, gathered-refused}
use Rattle.backward.specs.declared.outcomes.Refusal.{Refusal}

-- what went before a run
before-run : {k : ℕ} {heap heap₁ heap₂ slots slots₁ slots₂ : List ℕ} {st st₁ : Machine} {b : View} {out : Outcome} {res : List TypeEntry → Res State}
    → Moves 0 heap heap₁ slots slots₁ st st₁ → RanBackward k heap₁ heap₂ slots₁ slots₂ st₁ b out res → RanBackward k heap heap₂ slots slots₂ st b out res
before-run M d = record { moves = moves-then _ (omega arith) M d.moves; follows = d.follows; answer = d.answer }

-- all ancilla terms were run, and the dynamic one is next
pub all-arguments : {code : List ℕ} {t count : ℕ} → Calls code t 0 count → Calls code t count count
all-arguments C = record { kind = C.kind; ancillae = C.ancillae; next = omega arith }

----------------------------------------------------------------
-- The arguments as a scope

module _ {heap : List ℕ} {args : View} {count top : ℕ} (K : Collected heap args count top) (small : top ≤ unknown) where
  -- all is known
  pub arguments-state : map some (ancillae_at heap args.slots 0 count) ≡ state_of heap args
  unfolding state_of
  arguments-state =
      sym (state-ancillae heap args.slots 0 count top (ancillae-held K.binds) small)
      ∙ ap (state_at heap args.slots 0) (sym K.all)

-- The body of function `g` can be run with the arguments known.
pub body-ready : {code heap slots : List ℕ} {st : Machine} {args : View} {count g u room : ℕ} → Held 0 code heap slots st room
    → Collected heap args count st.top → g < function_count code → count + 1 ≡ parameters_in code g → u ≡ body_in code g
    → Ready 0 0 code heap slots st args count (args.len + 1) u room
body-ready {code} {args = args} {g = g} {u = u} H K l e q = record {
  machine = H;
  binds = K.binds;
  term = rw q (H.rows.bodies g l);
  scoped = rw q (subst (λ n. ScopedAt code n (body_in code g)) (let z : parameters_in code g ≡ args.len + 1 = omega (arith, K.all) in z)
      (H.bodies.scoped g l));
  tall = omega arith;
}

----------------------------------------------------------------
-- The call

module _ {code heap slots : List ℕ} {st : Machine} {b : View} {q t room : ℕ} (rd : Ready 2 1 code heap slots st b q b.len t room)
    {node : ℕ} (low : node < st.top) {count : ℕ} (C : Calls code t 0 count)
    {heap₁ slots₁ : List ℕ} {made : Outcome} (D : Arguments code heap heap₁ slots slots₁ st b q t room count made) where
  abbrev step : List TypeEntry → Res State
  step = step_of code heap st b q t (value_at heap node) room

  -- the dynamic term, in the state at hand
  abbrev call_next : List TypeEntry → Val → State → Run State
  call_next ys w σ = go rd low ys (state_of heap b) (argument_in code t count) w

  abbrev callee : Fun → List TypeEntry → List Val → Run State
  callee h ys ρ fuel =
      after (backward fits (program_in code ys) (room - 1) ρ (none ∷ map some ρ) h.body (value_at heap node) fuel) (λ σ. leave σ (call_next ys))

  abbrev ancillae : ℕ
  ancillae = third_in code t

  step_call : (ys : List TypeEntry) (h : Fun) → nth (program_in code ys) (first_in code t) ≡ some h
      → step ys ≡ arguments_of code heap st b q t room count ys (callee h ys)
  unfolding backward_step on_some
  step_call ys h e =
      stepped rd low ys (tree-call rd.machine.rows t rd.term ys C.kind)
      ∙ ap (λ o. on_some o (λ h fuel. from ancillae h fuel) st.fuel) e
      ∙ ap (λ n. from n h st.fuel) (sym C.ancillae)
    where
      from : ℕ → Fun → ℕ → Res State
      from n h fuel =
          after (each (forward fits (program_in code ys) (room - 1) (ancillae_of heap b q) (filled (state_of heap b)))
          (term_trees (tree_in code ys) (arguments_in code t 0 n)) fuel)
          (λ vs fuel. after (backward fits (program_in code ys) (room - 1) (scope vs []) (none ∷ map some (scope vs [])) h.body (value_at heap node) fuel)
          (λ σ. leave σ (λ w σ. go rd low ys (state_of heap b) (argument_in code t n) w)))

  abbrev function : List TypeEntry → Fun
  function ys = called-tree code ys (first_in code t)

  called : first_in code t < function_count code
  called = called-function rd.machine.rows t rd.term C.kind

  -- the call, from its arguments on
  from_arguments : (ys : List TypeEntry) → step ys ≡ arguments_of code heap st b q t room count ys (callee (function ys) ys)
  from_arguments ys = step_call ys (function ys) (called-there code ys (first_in code t) called)

  pub call-refused : {why : Refusal} → made.status ≡ Refused why → RanBackward 2 heap heap₁ slots slots₁ st b made step
  call-refused s = slack (record {
    moves = D.moves;
    follows = λ n. absurd (not_done s n);
    answer = λ ys. meaning-refused heap₁ made s ∙ sym (gathered-refused heap₁ made.bindings count made.state.fuel (callee (function ys) ys) s)
        ∙ sym (D.answer ys (callee (function ys) ys)) ∙ sym (from_arguments ys);
  }) 2 (omega arith)

  module _ (s : made.status ≡ Done) {g u : ℕ} (qg : g ≡ first_in code t) (qu : u ≡ body_in code g) where
    abbrev args : View
    args = made.bindings

    known : Collected heap₁ args count made.state.top
    known = D.collected s

    parameters : count + 1 ≡ parameters_in code g
    parameters = rw qg (ap (λ n. n + 1) C.ancillae ∙ (scoped-call rd C.kind).0)

    -- the body
    pub call-body : Ready 0 0 code heap₁ slots₁ made.state args count (args.len + 1) u (room - 1)
    call-body = body-ready (held-less (held_later rd.machine 2 (omega arith) D.moves) 0 (room - 1) (omega arith) (omega arith)) known (rw qg called) parameters qu

    pub call-space : args.len < max_variables
    call-space = omega (arith, known.all, C.ancillae, rd.machine.rows.few t rd.term C.kind)

    pub call-node : node < made.state.top
    call-node = omega (arith, low, D.moves.grows)

    -- the call, from the body on
    from_body : (ys : List TypeEntry) → step ys
        ≡ after (under_of code heap₁ made.state args count u (value_at heap₁ node) (room - 1) ys) (λ σ. leave σ (call_next ys))
    from_body ys =
        from_arguments ys ∙ D.answer ys (callee (function ys) ys) ∙ gathered_done heap₁ args count made.state.fuel (callee (function ys) ys) s
        ∙ ap₂ (λ σ (T : Term). after (backward fits (program_in code ys) (room - 1) (ancillae_of heap₁ args count) (none ∷ σ) T (value_at heap node)
        made.state.fuel) (λ σ. leave σ (call_next ys)))
        (arguments-state known (small_top (held_later rd.machine 2 (omega arith) D.moves))) (called-body code ys (first_in code t)
        ∙ ap (tree_in code ys) (sym (rw qg at qu)))
        ∙ ap (λ v. after (under_of code heap₁ made.state args count u v (room - 1) ys) (λ σ. leave σ (call_next ys)))
        (value-kept heap heap₁ st.top rd.machine.graph.right D.moves.agree node low)

    module _ {heap₂ slots₂ : List ℕ} {r : Inner}
        (d : RanUnder 0 heap₁ heap₂ slots₁ slots₂ made.state args r (under_of code heap₁ made.state args count u (value_at heap₁ node) (room - 1))) where
      pub call-refused_2 : {why : Refusal} → r.out.status ≡ Refused why → RanBackward 2 heap heap₂ slots slots₂ st b r.out step
      call-refused_2 s₂ = slack (before-run D.moves (under-refused d call_next s₂ from_body)) 2 (omega arith)

      pub all-moves : Moves 0 heap heap₂ slots slots₂ st r.out.state
      all-moves = moves-then 0 (omega arith) D.moves d.moves

      -- the bindings as they were, in slots of which those of the scope are the same
      module _ {b' : View} (F : Follows heap₂ b b' r.out.state.top) (same : state_of heap₂ b ≡ state_of heap₂ b') {w : ℕ} (qw : w ≡ argument_in code t count) where
        -- the dynamic term
        pub call-dynamic : Ready 0 0 code heap₂ slots₂ r.out.state b' q b.len w (room - 1)
        call-dynamic = rw (qw, C.ancillae)
            (owing_none (later (part rd (argument_in code t ancillae) b.len
            (part-argument rd.machine.rows t rd.term C.kind ancillae (omega arith)) (scoped-call rd C.kind).1) all-moves F 2 (omega arith)))

        pub call_done : r.out.status ≡ Done → {heap₃ slots₃ : List ℕ} {r₂ : Outcome}
            → RanBackward 0 heap₂ heap₃ slots₂ slots₃ r.out.state b' r₂ (run_of code heap₂ r.out.state b' q w (value_at heap₂ r.newest) (room - 1))
            → RanBackward 2 heap heap₃ slots slots₃ st b r₂ step
        call_done s₂ d₂ =
            slack (before-run D.moves (under_done d call_next s₂ from_body 0 (omega arith) (says d₂ (λ ys.
            ap₂ (λ a σ. backward fits (program_in code ys) (room - 1) a σ (tree_in code ys w) (value_at heap₂ r.newest) r.out.state.fuel)
            (sym (ancillae-after rd all-moves F)) (sym (state_later rd.machine.graph all-moves.agree b rd.binds.bound (small_top rd.machine) ∙ same))
            ∙ ap (λ w. go rd low ys (state_of heap b) w (value_at heap₂ r.newest) r.out.state.fuel) qw)) F)) 2 (omega arith)
