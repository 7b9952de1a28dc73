-- let and let pair: the body in the scope with the bound variables, then the bound term with the values that these were met with.
use Prim.Native.Nat.{ℕ, ◌+◌, ◌-◌, ◌≤◌, ◌<◌}
use native.Mathlib.Omega.{arith}
use mathlib.Core.Path.{◌≡◌, refl, sym, ap, ap₂, subst, ◌∙◌}
use mathlib.Core.Logic.{inl as left}
use mathlib.Core.Option.{none}
use mathlib.Core.List.{List, ◌∷◌}
use package.Rattle.program.specs.Kinds.{let_kind, let_pair_kind}
use package.Rattle.rules.specs.Limits.{fits, max_variables}
use package.Rattle.rules.specs.Val.{Val, pair}
use package.Rattle.rules.specs.Run.{Res, Run, after}
use package.Rattle.rules.specs.Machine.{State, leave, backward_step, backward}
use package.Rattle.calls.specs.Entries.{TypeEntry}
use package.Rattle.decoded.specs.Rows.{first_in, kind_in, program_in, second_in, tree_in}
use package.Rattle.decoded.proofs.Trees.{parts_let, parts_letp, tree_let, tree_letp}
use package.Rattle.valuegraph.specs.Nodes.{value_at}
use package.Rattle.scopes.specs.Slots.{unknown, Machine}
use package.Rattle.scopes.specs.Bindings.{View, AfterLeaving, state_of, Opens}
use package.Rattle.backward.specs.Scoped.{ScopedAt}
use package.Rattle.backward.specs.Outcomes.{Done, Refused, Outcome, Inner}
use package.Rattle.backward.specs.Ready.{Ready, Held, Follows, RanBackward, RanUnder, Goes, run_of, under_of, step_of}
use package.Rattle.backward.proofs.Runs.{says, slack, held_later, small_top, under-refused, under_done}
use package.Rattle.backward.proofs.Leaves.{opened-binds, goes-node, goes-state, goes-follows}
use package.Rattle.backward.proofs.Parts.{later, ancillae-after, owing_none, in_scope, part, scoped_let, scoped_letp}
use package.Rattle.backward.proofs.Entering.{inner-state, inner-ancillae}
use package.Rattle.backward.proofs.Steps.{go, stepped}
use Rattle.backward.specs.declared.outcomes.Refusal.{Refusal}

module _ {code heap slots : List ℕ} {st : Machine} {b : View} {q t room : ℕ} (rd : Ready 2 1 code heap slots st b q b.len t room)
    {node : ℕ} (low : node < st.top) where
  abbrev step : List TypeEntry → Res State
  step = step_of code heap st b q t (value_at heap node) room

  ----------------------------------------------------------------
  -- let

  module _ (kind : kind_in code t ≡ let_kind) {u u' : ℕ} (qu : u ≡ first_in code t) (qu' : u' ≡ second_in code t) where
    -- the body
    pub let_body : Ready 0 0 code heap slots st b q (b.len + 1) u' (room - 1)
    let_body = rw qu' (owing_none (part rd (second_in code t) (b.len + 1) (parts_let rd.machine.rows t rd.term kind).1 (scoped_let rd kind).2))

    pub let_space : b.len < max_variables
    let_space = (scoped_let rd kind).0

    abbrev let_next : List TypeEntry → Val → State → Run State
    let_next ys w σ = go rd low ys σ u w

    step_let : (ys : List TypeEntry) → step ys ≡ after (under_of code heap st b q u' (value_at heap node) (room - 1) ys) (λ σ. leave σ (let_next ys))
    unfolding backward_step
    step_let ys =
        stepped rd low ys (tree_let rd.machine.rows t rd.term ys kind)
        ∙ ap₂ (λ u u'. after (under_of code heap st b q u' (value_at heap node) (room - 1) ys) (λ σ. leave σ (λ w σ. go rd low ys σ u w))) (sym qu) (sym qu')

    module _ {j : ℕ} {heap₁ slots₁ : List ℕ} {r : Inner} (d : RanUnder j heap heap₁ slots slots₁ st b r (under_of code heap st b q u' (value_at heap node) (room - 1)))
      where
        pub let_refused : j ≤ 1 → {why : Refusal} → r.out.status ≡ Refused why → RanBackward 2 heap heap₁ slots slots₁ st b r.out step
        let_refused few s = slack (under-refused d let_next s step_let) 2 (omega arith)

        module _ (few : j ≤ 1) (s : r.out.status ≡ Done) where
          pub let_bound : Ready 0 0 code heap₁ slots₁ r.out.state r.out.bindings q r.out.bindings.len u (room - 1)
          let_bound = in_scope r.out.bindings.len (sym (d.follows s).len)
              (rw qu (owing_none (later (part rd (first_in code t) b.len (parts_let rd.machine.rows t rd.term kind).0 (scoped_let rd kind).1)
              d.moves (d.follows s) 1 (omega arith))))

          pub let_done : {heap₂ slots₂ : List ℕ} {r₂ : Outcome}
              → RanBackward 0 heap₁ heap₂ slots₁ slots₂ r.out.state r.out.bindings r₂
              (run_of code heap₁ r.out.state r.out.bindings q u (value_at heap₁ r.newest) (room - 1))
              → RanBackward 2 heap heap₂ slots slots₂ st b r₂ step
          let_done d₂ =
              under_done d let_next s step_let 2 (omega arith) (says d₂ (λ ys.
              ap (λ a. backward fits (program_in code ys) (room - 1) a (state_of heap₁ r.out.bindings) (tree_in code ys u) (value_at heap₁ r.newest)
              r.out.state.fuel)
              (sym (ancillae-after rd d.moves (d.follows s))))) (d.follows s)

  ----------------------------------------------------------------
  -- let pair

  module _ (kind : kind_in code t ≡ let_pair_kind) {u u' : ℕ} (qu : u ≡ first_in code t) (qu' : u' ≡ second_in code t) where
    pub letp_space : b.len < max_variables
    letp_space = omega (arith, (scoped_letp rd kind).0)

    -- the body, with two variables
    two-more : Ready 0 0 code heap slots st b q (b.len + 1 + 1) u' (room - 1)
    two-more = rw qu' (owing_none (part rd (second_in code t) (b.len + 1 + 1) (parts_letp rd.machine.rows t rd.term kind).1 (scoped_letp rd kind).2))

    module _ {b₁ : View} (O : Opens b unknown b₁) where
      pub letp_body : Ready 0 0 code heap slots st b₁ q (b₁.len + 1) u' (room - 1)
      letp_body = record {
        machine = two-more.machine;
        binds = opened-binds O rd.binds.bound letp_space (left refl) rd.binds;
        term = two-more.term;
        scoped = subst (λ n. ScopedAt code n u') (let z : b.len + 1 + 1 ≡ b₁.len + 1 = omega (arith, O.len) in z) two-more.scoped;
        tall = omega arith;
      }

      pub letp_second : b₁.len < max_variables
      letp_second = omega (arith, O.len, (scoped_letp rd kind).0)

      abbrev letp_next : List TypeEntry → Val → State → Run State
      letp_next ys w' σ fuel = leave σ (λ w σ. go rd low ys σ u (pair w w')) fuel

      step_letp : (ys : List TypeEntry) → step ys ≡ after (under_of code heap st b₁ q u' (value_at heap node) (room - 1) ys) (λ σ. leave σ (letp_next ys))
      unfolding backward_step
      step_letp ys =
          stepped rd low ys (tree_letp rd.machine.rows t rd.term ys kind)
          ∙ ap₂ (λ u u'. after (go rd low ys (none ∷ none ∷ state_of heap b) u' (value_at heap node) st.fuel)
          (λ σ. leave σ (λ w' σ fuel. leave σ (λ w σ. go rd low ys σ u (pair w w')) fuel))) (sym qu) (sym qu')
          ∙ ap₂ (λ a σ. after (backward fits (program_in code ys) (room - 1) a (none ∷ σ) (tree_in code ys u') (value_at heap node) st.fuel)
          (λ σ. leave σ (letp_next ys)))
          (sym (inner-ancillae rd.binds letp_space O)) (sym (inner-state rd.binds letp_space O))

      module _ {j : ℕ} {heap₁ slots₁ : List ℕ} {r : Inner} (d : RanUnder j heap heap₁ slots slots₁ st b₁ r
          (under_of code heap st b₁ q u' (value_at heap node) (room - 1))) where
        pub letp_refused : j ≤ 1 → {why : Refusal} → r.out.status ≡ Refused why → RanBackward 2 heap heap₁ slots slots₁ st b r.out step
        letp_refused few s = slack (under-refused d letp_next s step_letp) 2 (omega arith)

        module _ (few : j ≤ 1) (s : r.out.status ≡ Done) where
          after_it : Held 1 code heap₁ slots₁ r.out.state room
          after_it = held_later rd.machine 1 (omega arith) d.moves

          -- the first variable is there to leave
          pub letp_some : (0 < r.out.bindings.len) × (r.out.bindings.len ≤ max_variables)
          letp_some = (omega (arith, (d.follows s).len, O.len), (d.follows s).bound.few)

          module _ {l : AfterLeaving} (L : Goes heap₁ r.out.bindings l) where
            letp_follows : Follows heap₁ b l.state r.out.state.top
            letp_follows = goes-follows L (d.follows s).bound letp_some.0 O rd.binds.bound.full (d.follows s)

            pub letp_bound : Ready 1 0 code heap₁ slots₁ r.out.state l.state q l.state.len u (room - 1)
            letp_bound = in_scope l.state.len (sym letp_follows.len)
                (rw qu (later (part rd (first_in code t) b.len (parts_letp rd.machine.rows t rd.term kind).0 (scoped_letp rd kind).1)
                d.moves letp_follows 1 (omega arith)))

            pub letp_nodes : (l.newest < r.out.state.top) × (r.newest < r.out.state.top)
            letp_nodes = (goes-node L (d.follows s).bound letp_some.0 after_it.graph.some (small_top after_it), d.there s)

            pub letp_done : {heap₂ slots₂ : List ℕ} {r₂ : Outcome} → RanBackward 1 heap₁ heap₂ slots₁ slots₂ r.out.state l.state r₂
                (run_of code heap₁ r.out.state l.state q u (pair (value_at heap₁ l.newest) (value_at heap₁ r.newest)) (room - 1))
                → RanBackward 2 heap heap₂ slots slots₂ st b r₂ step
            letp_done d₂ =
                under_done d letp_next s step_letp 2 (omega arith) (says d₂ (λ ys.
                ap (λ a. backward fits (program_in code ys) (room - 1) a (state_of heap₁ l.state) (tree_in code ys u)
                (pair (value_at heap₁ l.newest) (value_at heap₁ r.newest)) r.out.state.fuel) (sym (ancillae-after rd d.moves letp_follows))
                ∙ sym (goes-state L (d.follows s).bound letp_some.0 after_it.graph.unit_there (small_top after_it)
                (λ w σ. go rd low ys σ u (pair w (value_at heap₁ r.newest))) r.out.state.fuel))) letp_follows
