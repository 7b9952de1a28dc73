-- A case that chooses by an ancilla (02, F-3), in code: its scrutinee is run forward, in the state at hand, and says which branch is run.
use Prim.Native.Nat.{ℕ, ◌+◌, ◌-◌, ◌<◌}
use native.Mathlib.Omega.{arith}
use mathlib.Core.Path.{◌≡◌, refl, sym, ap, ap₂, ◌∙◌}
use mathlib.Core.Bool.{true}
use mathlib.Core.List.{List}
use lib.ListN.{length, get_or}
use package.Rattle.program.specs.Kinds.{case_kind}
use package.Rattle.rules.specs.Limits.{fits, max_variables, max_parameters}
use package.Rattle.rules.specs.Val.{Val, inl, inr}
use package.Rattle.rules.specs.Term.{Term, by_ancilla}
use package.Rattle.rules.specs.Run.{Res, Run, after}
use package.Rattle.rules.specs.Yield.{may_yield}
use package.Rattle.rules.specs.Machine.{State, on_sum, filled, forward, branch_back, case_back, backward_step, backward}
use package.Rattle.rules.proofs.Run.{via}
use package.Rattle.calls.specs.Entries.{TypeEntry}
use package.Rattle.decoded.specs.Rows.{kind_in, first_in, second_in, third_in, program_in, tree_in}
use package.Rattle.decoded.proofs.Trees.{parts_case, tree_case}
use package.Rattle.valuegraph.specs.Nodes.{Room, left_at, value_at, kind_at as nodeKind}
use package.Rattle.valuegraph.proofs.Heaps.{value-kept, value_inl, value_inr}
use package.Rattle.scopes.specs.Slots.{Machine, Scope, machine_of, scope_in, slots_of}
use package.Rattle.scopes.specs.Bindings.{state_of, Tells}
use package.Rattle.scopes.specs.declared.bindings.Bindings.{Bindings}
use package.Rattle.scopes.proofs.Scopes.{length-state}
use package.Rattle.scopes.proofs.Views.{view_state}
use package.Rattle.yields.proofs.Ancillae.{length-ancillae}
use package.Rattle.forward.specs.Outcomes.{Out as ForwardOut}
use package.Rattle.forward.specs.Ready.{Ready as ForwardReady, RanForward as ForwardRan, run_of as forwardRun}
use Rattle.std.specs.Prelude.{Ok, Err}
use package.Rattle.forward.specs.declared.outcomes.Refusal.{Refusal as Carried}
use package.Rattle.forward.proofs.Runs.{answered, refused}
use package.Rattle.forward.proofs.Binds.{case_first, node-no-sum}
use package.Rattle.backward.specs.Scoped.{ScopedAt}
use package.Rattle.backward.specs.Outcomes.{Refused, refusal_of, carried, status_of, outcome_of, scope_view}
use package.Rattle.backward.specs.Ready.{Follows, Moves, Prepared, PreparedIn, CaseThat, Gone, ancillae_of, step_at, bound_at}
use package.Rattle.backward.proofs.Runs.{meaning-refused, refusal-after, carried-means, not_done, follows_then, state_later, moves-slack}
use package.Rattle.backward.proofs.Runs.{moves-then, small_top}
use package.Rattle.backward.proofs.Parts.{later, ancillae-after, part, scoped_case}
use package.Rattle.backward.proofs.Frames.{view_ancillae, few-ancillae, tells_stay, follows_stay, state-stays, onward, gone-then}
use package.Rattle.backward.proofs.Gathering.{moves-forward, scope-ready}
use package.Rattle.backward.proofs.Stops.{is_done}
use package.Rattle.backward.proofs.Steps.{stepped}
use Rattle.backward.specs.declared.outcomes.Refusal.{Refusal}
use Rattle.backward.specs.declared.outcomes.Refusal.TheVariants.{Stuck}
use Rattle.std.specs.Prelude.{Ok, Err}
use package.Rattle.backward.specs.Outcomes.{Out}

module _ {code heap st : List ℕ} {b : Bindings} {scope t room node : ℕ}
    (pre : PreparedIn 2 1 code heap st b scope t room × ((node < (machine_of st).top) × CaseThat true code scope t)) where
  abbrev slots : List ℕ
  slots = slots_of st

  abbrev m : Machine
  m = machine_of st

  abbrev sc : Scope
  sc = scope_in scope

  abbrev P : Prepared 2 1 code heap slots m b sc sc.n t room
  P = pre.0.prepared

  abbrev low : node < m.top
  low = pre.1.0

  abbrev kind : kind_in code t ≡ case_kind
  kind = pre.1.1.kind

  abbrev step : List TypeEntry → Res State
  step = step_at code heap slots m sc t (value_at heap node) room

  abbrev Stepped : List ℕ → List ℕ → Machine → Out → Type 0
  Stepped heap' slots' m' r = Gone 2 heap heap' slots slots' m m' sc r step

  abbrev ancillae : List Val
  ancillae = ancillae_of heap (scope_view slots sc) sc.q

  abbrev state : State
  state = state_of heap (scope_view slots sc)

  abbrev fw : List TypeEntry → List Val → State → Term → Run Val
  fw ys = forward fits (program_in code ys) (room - 1)

  abbrev go : List TypeEntry → List Val → State → Term → Val → Run State
  go ys = backward fits (program_in code ys) (room - 1)

  -- the branch `u`, its variable bound
  abbrev branch : List TypeEntry → ℕ → Val → Run State
  branch ys u = branch_back (go ys) ancillae state (tree_in code ys u) (value_at heap node)

  abbrev next : List TypeEntry → Val → Run State
  next ys s = on_sum s (branch ys (second_in code t)) (branch ys (third_in code t))

  -- the case chooses by an ancilla in the rules' state, too
  chooses-here : (ys : List TypeEntry) → by_ancilla (length ancillae) (length state) (tree_in code ys (first_in code t)) ≡ true
  unfolding state_of
  chooses-here ys = ap₂ (λ q n. by_ancilla q n (tree_in code ys (first_in code t))) (length-ancillae heap (scope_view slots sc).slots 0 sc.q)
      (length-state heap (scope_view slots sc).slots 0 sc.n) ∙ pre.1.1.chooses ys

  step-chosen : (ys : List TypeEntry) → step ys ≡ after (forwardRun code heap slots m sc (first_in code t) (room - 1) ys) (next ys)
  unfolding backward_step case_back
  step-chosen ys =
      stepped P.ready low ys (tree_case P.ready.machine.rows t P.ready.term ys kind)
      ∙ ap (λ c. case_back (fw ys) (go ys) ancillae state (tree_in code ys (first_in code t)) (tree_in code ys (second_in code t))
      (tree_in code ys (third_in code t)) (value_at heap node) c (may_yield ancillae (tree_in code ys (second_in code t)) (value_at heap node)) m.fuel)
      (chooses-here ys)
      ∙ ap₂ (λ a σ. after (fw ys a σ (tree_in code ys (first_in code t)) m.fuel) (next ys))
      (view_ancillae heap slots sc.base sc.q (few-ancillae P)) (ap filled (view_state heap slots sc.base sc.n P.ready.binds.bound.few))

  pub chosen-few : sc.n < max_variables
  chosen-few = (scoped_case P.ready kind).0

  module _ {u : ℕ} (qu : u ≡ first_in code t) where
    pub chosen-sum : ForwardReady 0 0 code heap slots m sc u (room - 1)
    chosen-sum = case_first (scope-ready P) kind u qu

    module _ {heap₁ slots₁ : List ℕ} {r₁ : ForwardOut}
        (d : ForwardRan 0 heap heap₁ (sc.base + sc.n) slots slots₁ m r₁ (forwardRun code heap slots m sc u (room - 1))) where
      abbrev m₁ : Machine
      m₁ = r₁.state

      moves : Moves 0 heap heap₁ slots slots₁ m m₁
      moves = moves-forward d

      follows : Follows heap₁ (scope_view slots sc) (scope_view slots₁ sc) m₁.top
      follows = follows_stay slots slots₁ sc.base sc.n d.below P.ready.binds.bound m₁.top d.agree d.grows

      tells : Tells heap₁ slots₁ b sc.base sc.q sc.n m₁.top
      tells = tells_stay slots slots₁ sc.base sc.n d.below m₁.top P.tells d.agree d.grows

      same-below : (j : ℕ) → j < sc.base → get_or slots j 0 ≡ get_or slots₁ j 0
      same-below j l = d.below j (omega arith)

      step-d : (ys : List TypeEntry) → step ys ≡ after (forwardRun code heap slots m sc u (room - 1) ys) (next ys)
      step-d ys = step-chosen ys ∙ ap (λ u. after (forwardRun code heap slots m sc u (room - 1) ys) (next ys)) (sym qu)

      -- the case is refused with what was left
      stops : {why : Refusal} {r : Out} → status_of r ≡ Refused why → ((ys : List TypeEntry) → step ys ≡ refusal_of why) → Stepped heap₁ slots₁ m₁ r
      stops {r = r} c e = record {
        ran = record {
          moves = moves-slack 2 moves (omega arith);
          follows = λ q. absurd (not_done c q);
          answer = λ ys. meaning-refused heap₁ (outcome_of r slots₁ m₁ sc) c ∙ sym (e ys);
        };
        below = same-below;
        tells = λ _ z. absurd (not_done c (is_done z));
      }

      -- the scrutinee was refused, and so is the case
      pub chosen-stopped : {w : Carried} → r₁.status ≡ Err w → {r : Out} → status_of r ≡ Refused (carried w) → Stepped heap₁ slots₁ m₁ r
      chosen-stopped {w} s c = stops c
          (λ ys. step-d ys ∙ ap (λ x. after x (next ys)) (refused d s ys ∙ carried-means w) ∙ refusal-after (carried w) (next ys))

      module _ {x : ℕ} (s : r₁.status ≡ Ok x) where
        -- the case goes on with the scrutinee's value
        step_value : (ys : List TypeEntry) → step ys ≡ next ys (value_at heap₁ x) m₁.fuel
        step_value ys = step-d ys ∙ via (next ys) (answered d s ys) refl

        pub chosen-stuck : ¬ (nodeKind heap₁ x ≡ 1) → ¬ (nodeKind heap₁ x ≡ 2) → {r : Out} → status_of r ≡ Refused Stuck → Stepped heap₁ slots₁ m₁ r
        unfolding refusal_of
        chosen-stuck n n' c = stops c
            (λ ys. step_value ys ∙ node-no-sum heap₁ x m₁.fuel (branch ys (second_in code t)) (branch ys (third_in code t)) n n')

        -- the scrutinee's value is there
        pub chosen-room : Room heap₁ (x + 1)
        chosen-room = omega (arith, d.graph.right.held, d.node x s)

        pub chosen-node : node < m₁.top
        chosen-node = omega (arith, low, d.grows)

        module _ {y : ℕ} (qy : y ≡ left_at heap₁ x) where
          is_left : nodeKind heap₁ x ≡ 1 → value_at heap₁ x ≡ inl (value_at heap₁ y)
          is_left k = rw qy (value_inl heap₁ m₁.top d.graph.right x (d.node x s) k).0

          is_right : nodeKind heap₁ x ≡ 2 → value_at heap₁ x ≡ inr (value_at heap₁ y)
          is_right k = rw qy (value_inr heap₁ m₁.top d.graph.right x (d.node x s) k).0

          -- the branch as it is run, from the heap and the slots behind the scrutinee
          behind : (ys : List TypeEntry) (u' : ℕ) → bound_at code heap₁ slots₁ m₁ sc u' (value_at heap₁ node) (value_at heap₁ y) (room - 1) ys
              ≡ branch ys u' (value_at heap₁ y) m₁.fuel
          behind ys u' =
              ap₂ (λ a σ. branch_back (go ys) a σ (tree_in code ys u') (value_at heap₁ node) (value_at heap₁ y) m₁.fuel)
              (sym (ancillae-after P.ready moves follows))
              (sym (state_later P.ready.machine.graph d.agree (scope_view slots sc) P.ready.binds.bound (small_top P.ready.machine)
              ∙ state-stays slots slots₁ sc.base sc.n d.below P.ready.binds.bound heap₁))
              ∙ ap (λ v. branch_back (go ys) ancillae state (tree_in code ys u') v (value_at heap₁ y) m₁.fuel)
              (sym (value-kept heap heap₁ m.top P.ready.machine.graph.right d.agree node low))

          -- the branch `u'`, which the scrutinee's value chooses
          module _ {u' : ℕ} (lower : u' < t) (scoped : ScopedAt code (sc.n + 1) u') where
            branch-prepared : Prepared 2 0 code heap₁ slots₁ m₁ b sc (sc.n + 1) u' (room - 1)
            unfolding max_parameters
            branch-prepared =
                onward P moves same-below tells (later (part P.ready u' (sc.n + 1) lower scoped) moves follows 2 (omega arith))
                (omega (arith, P.ready.tall))

            branch-gone : ((ys : List TypeEntry) → next ys (value_at heap₁ x) ≡ branch ys u' (value_at heap₁ y))
                → {heap₂ slots₂ : List ℕ} {m₂ : Machine} {r : Out}
                → Gone 2 heap₁ heap₂ slots₁ slots₂ m₁ m₂ sc r (bound_at code heap₁ slots₁ m₁ sc u' (value_at heap₁ node) (value_at heap₁ y) (room - 1))
                → Stepped heap₂ slots₂ m₂ r
            branch-gone e G = gone-then same-below G (record {
              moves = moves-then 2 (omega arith) moves G.ran.moves;
              follows = λ q. follows_then follows (G.ran.follows q);
              answer = λ ys. G.ran.answer ys ∙ behind ys u' ∙ sym (step_value ys ∙ ap (λ (f : Run State). f m₁.fuel) (e ys));
            })

          module _ (k : nodeKind heap₁ x ≡ 1) {u' : ℕ} (qu' : u' ≡ second_in code t) where
            pub left-part : y < m₁.top
            left-part = omega (arith, qy, (value_inl heap₁ m₁.top d.graph.right x (d.node x s) k).1, d.node x s)

            left-lower : u' < t
            left-lower = rw qu' (parts_case P.ready.machine.rows t P.ready.term kind).1

            left-scoped : ScopedAt code (sc.n + 1) u'
            left-scoped = rw qu' (scoped_case P.ready kind).2

            pub left-prepared : Prepared 2 0 code heap₁ slots₁ m₁ b sc (sc.n + 1) u' (room - 1)
            left-prepared = branch-prepared left-lower left-scoped

            pub left-gone : {heap₂ slots₂ : List ℕ} {m₂ : Machine} {r : Out}
                → Gone 2 heap₁ heap₂ slots₁ slots₂ m₁ m₂ sc r (bound_at code heap₁ slots₁ m₁ sc u' (value_at heap₁ node) (value_at heap₁ y) (room - 1))
                → Stepped heap₂ slots₂ m₂ r
            unfolding on_sum
            left-gone G = branch-gone left-lower left-scoped
                (λ ys. ap (next ys) (is_left k) ∙ ap (λ u. branch ys u (value_at heap₁ y)) (sym qu')) G

          module _ (k : nodeKind heap₁ x ≡ 2) {u' : ℕ} (qu' : u' ≡ third_in code t) where
            pub right-part : y < m₁.top
            right-part = omega (arith, qy, (value_inr heap₁ m₁.top d.graph.right x (d.node x s) k).1, d.node x s)

            right-lower : u' < t
            right-lower = rw qu' (parts_case P.ready.machine.rows t P.ready.term kind).2

            right-scoped : ScopedAt code (sc.n + 1) u'
            right-scoped = rw qu' (scoped_case P.ready kind).3

            pub right-prepared : Prepared 2 0 code heap₁ slots₁ m₁ b sc (sc.n + 1) u' (room - 1)
            right-prepared = branch-prepared right-lower right-scoped

            pub right-gone : {heap₂ slots₂ : List ℕ} {m₂ : Machine} {r : Out}
                → Gone 2 heap₁ heap₂ slots₁ slots₂ m₁ m₂ sc r (bound_at code heap₁ slots₁ m₁ sc u' (value_at heap₁ node) (value_at heap₁ y) (room - 1))
                → Stepped heap₂ slots₂ m₂ r
            unfolding on_sum
            right-gone G = branch-gone right-lower right-scoped
                (λ ys. ap (next ys) (is_right k) ∙ ap (λ u. branch ys u (value_at heap₁ y)) (sym qu')) G
