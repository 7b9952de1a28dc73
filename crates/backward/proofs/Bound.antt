-- A branch of a case that chooses by an ancilla (02, F-3), in code: its variable comes into scope bound to a node, by a cell; the branch is run;
-- the variable leaves.
use Prim.Native.Nat.{ℕ, ◌+◌, ◌-◌, ◌≤◌, ◌<◌}
use native.Mathlib.Omega.{arith}
use mathlib.Core.Path.{◌≡◌, refl, sym, ap, ap₂, subst, ◌∙◌}
use mathlib.Core.Logic.{inr as right}
use mathlib.Core.Option.{some}
use mathlib.Core.List.{List, ◌∷◌}
use lib.ListN.{length, get_or, set, length-set}
use lib.Seq.{get_or-set_other}
use package.Rattle.rules.specs.Limits.{fits, max_variables}
use package.Rattle.rules.specs.Run.{Res, after, give}
use package.Rattle.rules.specs.Machine.{State, leave, branch_back, backward}
use package.Rattle.calls.specs.Entries.{TypeEntry}
use package.Rattle.decoded.specs.Rows.{program_in, tree_in}
use package.Rattle.valuegraph.specs.Nodes.{value_at}
use package.Rattle.valuegraph.proofs.Heaps.{value-kept}
use package.Rattle.scopes.specs.Slots.{unknown, slot_count, state_count, Machine, Scope, machine_of, slots_of, scope_in, meaning as slotMeaning, Slot}
use package.Rattle.scopes.specs.Cells.{Linked}
use package.Rattle.scopes.specs.Bindings.{state_of, Opens, CellReady, Adds, EntersBound}
use package.Rattle.scopes.specs.declared.bindings.Bindings.{Bindings}
use package.Rattle.scopes.proofs.Bound.{opens-state}
use package.Rattle.scopes.proofs.Views.{view_opens, tells_entered, new-found}
use package.Rattle.yields.proofs.Ancillae.{ancillae-same}
use package.Rattle.forward.proofs.Making.{graph-grown}
use package.Rattle.forward.proofs.Binds.{opened as wider}
use package.Rattle.backward.specs.Outcomes.{outcome_of, inner_of, scope_view}
use package.Rattle.backward.specs.Ready.{Ready, Held, Moves, RanBackward, RanUnder, Prepared, Gone, GoneUnder, ancillae_of, run_at, bound_at}
use package.Rattle.backward.specs.Ready.{PreparedIn, PreparedBound, RunsBack, RunsBound}
use package.Rattle.backward.proofs.Runs.{meaning_done, follows_same, bound_later, binds_later, ancillae_later, state_later}
use package.Rattle.backward.proofs.Runs.{moves_none, moves-then, moves_from, held_later, small_top, under-refused, under_done}
use package.Rattle.backward.proofs.Parts.{owing}
use package.Rattle.backward.proofs.Stops.{is_done, is_stopped}
use package.Rattle.backward.proofs.Leaves.{opened-binds}
use package.Rattle.backward.proofs.Frames.{beside, older_later}
use package.Rattle.backward.proofs.Leaving.{LeftBehind, left_behind, held-under, cell-ready, under_left, left-tells, left_below}
use package.Rattle.backward.proofs.Opening.{under-opened}
use Rattle.std.specs.Prelude.{Ok, Err}
use package.Rattle.backward.specs.Outcomes.{Out}
use Rattle.backward.specs.declared.outcomes.Refusal.{Refusal}
use package.Rattle.backward.proofs.Stops.{not_ok}

-- a variable came into scope bound, and the state that says so
pub record BoundBehind (heap heap' slots slots' : List ℕ) (m m' : Machine) (b : Bindings) (sc : Scope) (node : ℕ) (c : Bindings) : Type 0 where
  pub linked : Linked heap heap' m.top node sc.n b.head
  pub slots_are : slots' ≡ set slots (sc.base + sc.n) (unknown + m.top)
  pub machine_is : m' ≡ record { top = m.top + 1; fuel = m.fuel }
  pub head : c.head ≡ m.top

module _ {code heap slots : List ℕ} {m : Machine} {b : Bindings} {sc : Scope} {t room : ℕ} (P : Prepared 2 0 code heap slots m b sc (sc.n + 1) t room)
    (few : sc.n < max_variables) where
  -- the slot is there
  pub bound-there : sc.base + sc.n < slot_count
  bound-there = omega (arith, P.space)

  inside : sc.base + sc.n < length slots
  inside = omega (arith, P.space, P.ready.machine.all)

  -- a cell can be made
  pub bound-cell : {st : List ℕ} → length st ≡ state_count → machine_of st ≡ m → CellReady heap st b sc.n
  bound-cell {st} full em =
      let top_is : (machine_of st).top ≡ m.top = ap (λ (m : Machine). m.top) em in
      record {
        full = full;
        graph = rw top_is P.ready.machine.graph.right;
        room = omega (arith, top_is, P.ready.machine.nodes);
        small = omega (arith, top_is, P.ready.machine.small);
        within = omega (arith, top_is, P.tells.within);
        few = omega (arith, few);
      }

  module _ {part : ℕ} (low : part < m.top) {heap₁ slots₁ : List ℕ} {known : Bindings}
      (E : BoundBehind heap heap₁ slots slots₁ m (record { top = m.top + 1; fuel = m.fuel }) b sc part known) where
    -- the machine with the cell
    abbrev m₁ : Machine
    m₁ = record { top = m.top + 1; fuel = m.fuel }

    small : m.top + 1 ≤ unknown
    unfolding unknown
    small = omega (arith, P.ready.machine.small)

    as_many : length slots ≡ length slots₁
    as_many = rw E.slots_are (sym (length-set slots (sc.base + sc.n) (unknown + m.top)))

    same-below : (j : ℕ) → j < sc.base → get_or slots j 0 ≡ get_or slots₁ j 0
    same-below j l = rw E.slots_are (sym (get_or-set_other slots (sc.base + sc.n) j (unknown + m.top) 0 (λ z. omega arith)))

    opens : Opens (scope_view slots sc) (unknown + m.top) (scope_view slots₁ (wider sc))
    opens = rw E.slots_are (view_opens slots sc.base sc.n (unknown + m.top) few inside)

    moves : Moves 1 heap heap₁ slots slots₁ m m₁
    moves = record {
      agree = E.linked.made.grown.agree;
      graph = graph-grown P.ready.machine.graph E.linked.made.grown;
      lengths = as_many;
      grows = omega arith;
      spends = omega arith;
      owes = omega arith;
    }

    cell-slot : Slot heap₁ (unknown + m.top) (m.top + 1)
    cell-slot =
        let z : unknown + m.top - unknown ≡ m.top = omega arith in
        right (right (record { above = omega (arith, P.tells.within); there = omega arith; node = rw (z, E.linked.made.left_is) (omega (arith, low)) }))

    bound-ready : Ready 1 0 code heap₁ slots₁ m₁ (scope_view slots₁ (wider sc)) sc.q (sc.n + 1) t room
    bound-ready = record {
      machine = held_later P.ready.machine 1 (omega arith) moves;
      binds = opened-binds opens (bound_later (m.top + 1) P.ready.binds.bound moves.agree (omega arith)) few cell-slot
          (binds_later (m.top + 1) P.ready.binds moves.agree (omega arith));
      term = P.ready.term;
      scoped = P.ready.scoped;
      tall = omega arith;
    }

    bound-one : Prepared 1 0 code heap₁ slots₁ m₁ known (wider sc) (sc.n + 1) t room
    bound-one = record {
      ready = bound-ready;
      tells = tells_entered P.tells E.linked low (omega (arith, small)) (omega (arith, P.ready.machine.small)) inside E.slots_are E.head;
      older = older_later (m.top + 1) P.older same-below moves.agree (omega arith);
      space = P.space;
    }

    pub bound-prepared : Prepared 0 0 code heap₁ slots₁ m₁ known (wider sc) (sc.n + 1) t room
    bound-prepared = beside bound-one (owing 0 (omega arith) bound-ready) (omega arith)

    module _ {node : ℕ} (there : node < m.top) where
      abbrev run : List TypeEntry → Res State
      run = run_at code heap₁ slots₁ m₁ (wider sc) t (value_at heap₁ node) room

      -- the variables with the bound one
      bound-state : state_of heap₁ (scope_view slots₁ (wider sc)) ≡ some (value_at heap part) ∷ state_of heap (scope_view slots sc)
      bound-state =
          opens-state heap₁ (scope_view slots sc) (unknown + m.top) (m.top + 1) (scope_view slots₁ (wider sc)) opens
          (bound_later (m.top + 1) P.ready.binds.bound moves.agree (omega arith)) few
          ∙ ap₂ (λ f σ. slotMeaning heap₁ f ∷ σ) (new-found E.linked.made (omega (arith, low)))
          (sym (state_later P.ready.machine.graph moves.agree (scope_view slots sc) P.ready.binds.bound (omega (arith, small))))
          ∙ ap (λ v. some v ∷ state_of heap (scope_view slots sc))
          (sym (value-kept heap heap₁ m.top P.ready.machine.graph.right moves.agree part low))

      bound-ancillae : ancillae_of heap₁ (scope_view slots₁ (wider sc)) sc.q ≡ ancillae_of heap (scope_view slots sc) sc.q
      bound-ancillae =
          ancillae-same heap₁ (scope_view slots₁ (wider sc)).slots (scope_view slots sc).slots 0 sc.q
          (λ j h. ap (λ (l : List ℕ). get_or l j 0) opens.slots
          ∙ get_or-set_other (scope_view slots sc).slots sc.n j (unknown + m.top) 0 (λ e. omega (arith, P.ready.binds.within)))
          ∙ sym (ancillae_later P.ready.machine.graph moves.agree (scope_view slots sc) sc.q P.ready.binds)

      -- the branch, and the variable that leaves
      bound-run : (ys : List TypeEntry) → bound_at code heap slots m sc t (value_at heap node) (value_at heap part) room ys
          ≡ after (run ys) (λ σ. leave σ (λ u σ. give σ))
      unfolding branch_back
      bound-run ys = sym (ap (λ r. after r (λ σ. leave σ (λ u σ. give σ)))
          (ap₂ (λ a σ. backward fits (program_in code ys) room a σ (tree_in code ys t) (value_at heap₁ node) m.fuel) bound-ancillae bound-state
          ∙ ap (λ v. backward fits (program_in code ys) room (ancillae_of heap (scope_view slots sc) sc.q)
          (some (value_at heap part) ∷ state_of heap (scope_view slots sc)) (tree_in code ys t) v m.fuel)
          (sym (value-kept heap heap₁ m.top P.ready.machine.graph.right moves.agree node there))))

      abbrev Ran : List ℕ → List ℕ → Machine → Out → Type 0
      Ran heap' slots' m' r = Gone 2 heap heap' slots slots' m m' sc r (bound_at code heap slots m sc t (value_at heap node) (value_at heap part) room)

      module _ {heap₂ slots₂ : List ℕ} {m₂ : Machine} {r : Out} (G : Gone 0 heap₁ heap₂ slots₁ slots₂ m₁ m₂ (wider sc) r run) where
        -- the run, in the scope without the variable
        under : GoneUnder heap₁ heap₂ slots slots₂ m₁ m₂ sc r run
        under = under-opened few opens as_many same-below (small_top (held_later bound-ready.machine 1 (omega arith) G.ran.moves)) G

        -- after the cell
        behind : {heap₃ slots₃ : List ℕ} {m₃ : Machine} {k : ℕ} → Moves k heap₁ heap₃ slots slots₃ m₁ m₃ → k ≤ 1 → Moves 2 heap heap₃ slots slots₃ m m₃
        behind M le = moves-then 2 (omega arith) moves (moves_from slots₁ (sym as_many) M)

        pub bound-stopped : {why : Refusal} → r ≡ Err why → Ran heap₂ slots₂ m₂ r
        bound-stopped d = record {
          ran = record { moves = behind stops.moves (omega arith); follows = stops.follows; answer = stops.answer };
          below = under.below;
          tells = λ _ e. absurd (not_ok d e);
        }
          where
            stops : RanBackward 0 heap₁ heap₂ slots slots₂ m₁ (scope_view slots sc) (outcome_of r slots₂ m₂ sc)
                (bound_at code heap slots m sc t (value_at heap node) (value_at heap part) room)
            stops = under-refused under.ran (λ ys u σ. give σ) (is_stopped d) bound-run

        module _ {bs : Bindings} (e : r ≡ Ok bs) where
          after_it : Held 1 code heap₂ slots₂ m₂ room
          after_it = held-under bound-ready.machine (sym as_many) under

          -- a cell for the variable that leaves
          pub bound-leaves : {st₂ : List ℕ} → length st₂ ≡ state_count → machine_of st₂ ≡ m₂ → CellReady heap₂ st₂ bs sc.n
          bound-leaves full em = cell-ready after_it under e full em (omega arith) sc.n (omega (arith, few))

          pub bound-left : {heap₃ slots₃ : List ℕ} {m₃ : Machine} {c : Bindings} → LeftBehind heap₂ heap₃ slots₂ slots₃ m₂ m₃ bs sc.n c
              → Ran heap₃ slots₃ m₃ (Ok c)
          bound-left {heap₃} {slots₃} {m₃} {c} K = record {
            ran = record { moves = behind done.moves (omega arith); follows = done.follows; answer = done.answer };
            below = λ j l. under.below j l ∙ left_below after_it under e K j;
            tells = λ c' z. let q : c' ≡ c = cc in rw q (left-tells after_it under e K (omega arith) (omega arith));
          }
            where
              ran : RanUnder 1 heap₁ heap₃ slots slots₃ m₁ (scope_view slots sc) (inner_of heap₃ r slots₃ m₃ sc) run
              ran = under_left after_it under e K

              done : RanBackward 1 heap₁ heap₃ slots slots₃ m₁ (scope_view slots sc) (outcome_of (Ok c) slots₃ m₃ sc)
                  (bound_at code heap slots m sc t (value_at heap node) (value_at heap part) room)
              done =
                  under_done ran (λ ys u σ. give σ) (is_done e) bound-run 1 (omega arith)
                  (record {
                    moves = moves_none ran.moves.graph refl refl;
                    follows = λ _. follows_same (ran.follows (is_done e)).bound;
                    answer = λ ys. meaning_done heap₃ (outcome_of (Ok c) slots₃ m₃ sc) refl;
                  }) (ran.follows (is_done e))

----------------------------------------------------------------
-- By the numbers that a run is lent

module _ {code heap st : List ℕ} {b : Bindings} {scope t room : ℕ} (Q : PreparedBound code heap st b scope t room) where
  pub entered_cell : CellReady heap st b (scope_in scope).n
  entered_cell = bound-cell Q.prepared Q.few Q.full refl

  pub entered_there : (scope_in scope).base + (scope_in scope).n < slot_count
  entered_there = bound-there Q.prepared Q.few

  module _ {part : ℕ} (low : part < (machine_of st).top) {heap₁ st₁ : List ℕ} {known : Bindings} (E : EntersBound heap heap₁ st st₁ b (scope_in scope) part known)
    where
      abbrev grown : Machine
      grown = record { top = (machine_of st).top + 1; fuel = (machine_of st).fuel }

      entered : BoundBehind heap heap₁ (slots_of st) (slots_of st₁) (machine_of st) grown b (scope_in scope) part known
      entered = record { linked = E.linked; slots_are = E.slots; machine_is = refl; head = E.head }

      pub entered_node : {node : ℕ} → node < (machine_of st).top → node < (machine_of st₁).top
      entered_node there = omega (arith, there, ap (λ (m : Machine). m.top) E.machine)

      pub entered_prepared : (wide : ℕ) → scope_in wide ≡ wider (scope_in scope) → PreparedIn 0 0 code heap₁ st₁ known wide t room
      entered_prepared wide w = record {
        full = E.lengths ∙ Q.full;
        prepared = subst (λ (sc : Scope). Prepared 0 0 code heap₁ (slots_of st₁) (machine_of st₁) known sc sc.n t room) (sym w)
            (subst (λ (m : Machine). Prepared 0 0 code heap₁ (slots_of st₁) m known (wider (scope_in scope)) ((scope_in scope).n + 1) t room) (sym E.machine)
            (bound-prepared Q.prepared Q.few low entered));
      }

      module _ {node : ℕ} (there : node < (machine_of st).top) (wide : ℕ) (w : scope_in wide ≡ wider (scope_in scope)) where
        module _ {heap₂ st₂ : List ℕ} {r : Out} (R : RunsBack code heap₁ heap₂ st₁ st₂ known wide t node room r) where
          gone : Gone 0 heap₁ heap₂ (slots_of st₁) (slots_of st₂) grown (machine_of st₂) (wider (scope_in scope)) r
              (run_at code heap₁ (slots_of st₁) grown (wider (scope_in scope)) t (value_at heap₁ node) room)
          gone =
              subst (λ (m : Machine). Gone 0 heap₁ heap₂ (slots_of st₁) (slots_of st₂) m (machine_of st₂) (wider (scope_in scope)) r
              (run_at code heap₁ (slots_of st₁) m (wider (scope_in scope)) t (value_at heap₁ node) room)) E.machine
              (subst (λ (sc : Scope). Gone 0 heap₁ heap₂ (slots_of st₁) (slots_of st₂) (machine_of st₁) (machine_of st₂) sc r
              (run_at code heap₁ (slots_of st₁) (machine_of st₁) sc t (value_at heap₁ node) room)) w R.gone)

          pub entered_stopped : {why : Refusal} → r ≡ Err why → RunsBound code heap heap₂ st st₂ scope t part node room r
          entered_stopped d = record { lengths = R.lengths ∙ E.lengths; gone = bound-stopped Q.prepared Q.few low entered there gone d }

          module _ {bs : Bindings} (e : r ≡ Ok bs) where
            pub entered_leaves : CellReady heap₂ st₂ bs (scope_in scope).n
            entered_leaves = bound-leaves Q.prepared Q.few low entered there gone e (R.lengths ∙ E.lengths ∙ Q.full) refl

            pub entered_left : {heap₃ st₃ : List ℕ} {c : Bindings} → Adds heap₂ heap₃ st₂ st₃ bs unknown (scope_in scope).n c
                → RunsBound code heap heap₃ st st₃ scope t part node room (Ok c)
            entered_left A = record {
              lengths = A.moved.lengths ∙ R.lengths ∙ E.lengths;
              gone = bound-left Q.prepared Q.few low entered there gone e (left_behind A);
            }
