-- A term is entered: fuel, height, and the value's length are tested. Then what a term may be entered with: a value that is made for it, and
-- a scope with one variable more.
use Prim.Native.Nat.{ℕ, zero, suc, ◌+◌, ◌-◌, ◌≤◌, ◌<◌}
use native.Mathlib.Omega.{arith}
use native.Mathlib.Nat.{pos_of_ne-zero}
use mathlib.Core.Path.{◌≡◌, refl, sym, ap, ap₂, subst, ◌∙◌}
use mathlib.Core.Bool.{Bool, true, false}
use mathlib.Core.Option.{none}
use mathlib.Core.Logic.{inl as left}
use mathlib.Core.List.{List, ◌∷◌}
use lib.ListN.{length, get_or}
use lib.Seq.{get_or-set_other}
use package.Rattle.rules.specs.Limits.{fits, max_variables}
use package.Rattle.rules.specs.Val.{Val}
use package.Rattle.rules.specs.Term.{Term, Program, entry}
use package.Rattle.rules.specs.Run.{Res, stop, after, enter, test}
use package.Rattle.rules.specs.Machine.{State, leave, forward, backward_step, backward}
use package.Rattle.rules.proofs.Run.{via}
use package.Rattle.calls.specs.Entries.{TypeEntry}
use package.Rattle.decoded.specs.Rows.{program_in, tree_in}
use package.Rattle.decoded.proofs.Trees.{tree-entry}
use package.Rattle.valuegraph.specs.Nodes.{Room, value_at, Grown, Made}
use package.Rattle.valuegraph.proofs.Places.{agree_trans, agree-down}
use package.Rattle.scopes.specs.Slots.{unknown, meaning as slotMeaning, Machine}
use package.Rattle.scopes.specs.Bindings.{View, AfterLeaving, state_of, Opens}
use package.Rattle.scopes.proofs.Marks.{found-mark}
use package.Rattle.scopes.proofs.Bound.{opens-state}
use package.Rattle.yields.proofs.Ancillae.{ancillae-same}
use package.Rattle.forward.proofs.Making.{graph-grown}
use package.Rattle.backward.specs.Scoped.{ScopedAt}
use package.Rattle.backward.specs.Outcomes.{Done, Refused, Outcome, refusal_of, too_long}
use package.Rattle.backward.specs.Ready.{Ready, Binds, RanBackward, RanUnder, Goes, ancillae_of, run_of, under_of, step_of}
use package.Rattle.backward.proofs.Runs.{meaning_done, meaning-refused, refusal-after, not_done, left_done, left-refused, binds_later, ancillae_later, state_later, small_top}
use package.Rattle.backward.proofs.Runs.{refuses, slack}
use package.Rattle.backward.proofs.Leaves.{opened-binds, goes-node, goes-state, goes-follows}
use Rattle.backward.specs.declared.outcomes.Refusal.{Refusal}
use Rattle.backward.specs.declared.outcomes.Refusal.TheVariants.{Fuel, Height}

----------------------------------------------------------------
-- The tests

module _ (P : Program) (a : List Val) (σ : State) (T : Term) (v : Val) where
  spent : (room fuel : ℕ) → fuel ≡ 0 → backward fits P room a σ T v fuel ≡ stop 12 (entry T)
  unfolding backward enter
  spent zero fuel e = rw e
  spent (suc room) fuel e = rw e

  high : (room fuel : ℕ) → room ≡ 0 → 0 < fuel → backward fits P room a σ T v fuel ≡ stop 13 (entry T)
  unfolding backward enter
  high room fuel e h = let z : fuel ≡ suc (fuel - 1) = omega arith in rw (e, z)

  entered : (room fuel : ℕ) → 0 < room → 0 < fuel → fits v ≡ true
      → backward fits P room a σ T v fuel ≡ backward_step fits P (forward fits P (room - 1)) (backward fits P (room - 1)) a σ T v (fuel - 1)
  unfolding backward enter test
  entered room fuel h h' short =
      let r : room ≡ suc (room - 1) = omega arith in
      let f : fuel ≡ suc (fuel - 1) = omega arith in
      ap₂ (λ r f. backward fits P r a σ T v f) r f
      ∙ ap (λ b. test b 14 (entry T) (backward_step fits P (forward fits P (room - 1)) (backward fits P (room - 1)) a σ T v) (fuel - 1)) short

  too_long_lem : (room fuel : ℕ) → fits v ≡ false → backward fits P room a σ T v fuel ≡ refusal_of (too_long fuel room (entry T))
  unfolding backward enter test refusal_of too_long
  too_long_lem zero zero long = refl
  too_long_lem (suc room) zero long = refl
  too_long_lem zero (suc fuel) long = refl
  too_long_lem (suc room) (suc fuel) long =
      ap (λ b. test b 14 (entry T) (backward_step fits P (forward fits P room) (backward fits P room) a σ T v) fuel) long

----------------------------------------------------------------
-- A term is entered with the value at a node

module _ {code heap slots : List ℕ} {st : Machine} {b : View} {q t room : ℕ} (rd : Ready 0 0 code heap slots st b q b.len t room)
    {node : ℕ} (low : node < st.top) where
  abbrev place : (ys : List TypeEntry) → entry (tree_in code ys t) ≡ t
  place ys = tree-entry rd.machine.rows t rd.term ys

  abbrev run : List TypeEntry → Res State
  run = run_of code heap st b q t (value_at heap node) room

  pub term-spent : (r : Outcome) → r.status ≡ Refused (Fuel t) → r.state ≡ st → st.fuel ≡ 0 → RanBackward 0 heap heap slots slots st b r run
  unfolding refusal_of
  term-spent r s e z = refuses r rd.machine.graph s e (λ ys. spent (program_in code ys) _ _ _ _ room st.fuel z ∙ ap (stop 12) (place ys))

  module _ (some-fuel : ¬ (st.fuel ≡ 0)) where
    pub term_high : (r : Outcome) → r.status ≡ Refused (Height t) → r.state ≡ st → room ≡ 0 → RanBackward 0 heap heap slots slots st b r run
    unfolding refusal_of
    term_high r s e z =
        refuses r rd.machine.graph s e (λ ys. high (program_in code ys) _ _ _ _ room st.fuel z (pos_of_ne-zero some-fuel) ∙ ap (stop 13) (place ys))

    module _ (some-room : ¬ (room ≡ 0)) where
      -- one unit of fuel is taken
      abbrev taken : Machine
      taken = record { top = st.top; fuel = st.fuel - 1 }

      pub term-ready : Ready 2 1 code heap slots taken b q b.len t room
      term-ready =
          let pos = pos_of_ne-zero some-fuel in
          let tall = pos_of_ne-zero some-room in
          record {
            machine = record {
              rows = rd.machine.rows;
              bodies = rd.machine.bodies;
              graph = rd.machine.graph;
              nodes = omega (arith, rd.machine.nodes);
              small = omega (arith, rd.machine.small);
              variables = rd.machine.variables;
              all = rd.machine.all;
            };
            binds = rd.binds;
            term = rd.term;
            scoped = rd.scoped;
            tall = omega arith;
          }

      pub term_done : {heap' slots' : List ℕ} {r : Outcome} → RanBackward 2 heap heap' slots slots' taken b r (step_of code heap taken b q t (value_at heap node) room)
          → RanBackward 0 heap heap' slots slots' st b r run
      term_done d =
          let pos = pos_of_ne-zero some-fuel in
          record {
            moves = record {
              agree = d.moves.agree;
              graph = d.moves.graph;
              lengths = d.moves.lengths;
              grows = d.moves.grows;
              spends = omega (arith, d.moves.spends);
              owes = omega (arith, d.moves.owes);
            };
            follows = d.follows;
            answer = λ ys. d.answer ys
                ∙ sym (entered (program_in code ys) _ _ _ _ room st.fuel (pos_of_ne-zero some-room) pos (rd.machine.graph.short node low));
          }

----------------------------------------------------------------
-- A value is made for the term

module _ {code heap slots : List ℕ} {st : Machine} {b : View} {q t room : ℕ} (rd : Ready 1 0 code heap slots st b q b.len t room) where
  pub node-room : Room heap (st.top + 1)
  node-room = omega (arith, rd.machine.nodes)

  pub next-node : st.top + 1 ≤ unknown
  unfolding unknown
  next-node = omega (arith, rd.machine.small)

  module _ {v : Val} {heap₁ : List ℕ} {made : Bool} (M : Made heap heap₁ st.top v made) where
    -- with the node
    abbrev grown : Machine
    grown = record { top = st.top + 1; fuel = st.fuel }

    module _ (e : made ≡ true) where
      grows : Grown heap heap₁ st.top v
      grows = M.new e

      pub over-ready : Ready 0 0 code heap₁ slots grown b q b.len t room
      over-ready = record {
        machine = record {
          rows = rd.machine.rows;
          bodies = rd.machine.bodies;
          graph = graph-grown rd.machine.graph grows;
          nodes = omega (arith, rd.machine.nodes, grows.agree.lengths);
          small = omega (arith, rd.machine.small);
          variables = rd.machine.variables;
          all = rd.machine.all;
        };
        binds = binds_later (st.top + 1) rd.binds grows.agree (omega arith);
        term = rd.term;
        scoped = rd.scoped;
        tall = omega arith;
      }

      pub over_done : {heap₂ slots₂ : List ℕ} {r : Outcome} → RanBackward 0 heap₁ heap₂ slots slots₂ grown b r
          (run_of code heap₁ grown b q t (value_at heap₁ st.top) room)
          → RanBackward 1 heap heap₂ slots slots₂ st b r (run_of code heap st b q t v room)
      over_done d = record {
        moves = record {
          agree = agree_trans grows.agree (agree-down st.top (omega arith) d.moves.agree);
          graph = d.moves.graph;
          lengths = d.moves.lengths;
          grows = omega (arith, d.moves.grows);
          spends = d.moves.spends;
          owes = omega (arith, d.moves.owes);
        };
        follows = d.follows;
        answer = λ ys. d.answer ys
            ∙ ap₂ (λ a σ. backward fits (program_in code ys) room a σ (tree_in code ys t) (value_at heap₁ st.top) st.fuel)
            (sym (ancillae_later rd.machine.graph grows.agree b q rd.binds))
            (sym (state_later rd.machine.graph grows.agree b rd.binds.bound (small_top rd.machine)))
            ∙ ap (λ v. run_of code heap st b q t v room ys) grows.value;
      }

    pub over-long : made ≡ false → (r : Outcome) → r.status ≡ Refused (too_long st.fuel room t) → r.state ≡ st
        → RanBackward 1 heap heap₁ slots slots st b r (run_of code heap st b q t v room)
    over-long e r s q' = rw (M.old e)
        (slack (refuses r rd.machine.graph s q' (λ ys. too_long_lem (program_in code ys) _ _ _ v room st.fuel (sym M.answer ∙ e)
        ∙ ap (λ k. refusal_of (too_long st.fuel room k)) (tree-entry rd.machine.rows t rd.term ys))) 1 (omega arith))

----------------------------------------------------------------
-- A variable more, whatever its slot holds: it leaves once the term is run

module _ {k : ℕ} {heap heap₁ slots slots₁ : List ℕ} {st : Machine} {b b₁ : View} {x : ℕ} (O : Opens b x b₁) (full : length b.slots ≡ max_variables)
    {r : Outcome} {res : List TypeEntry → Res State} (d : RanBackward k heap heap₁ slots slots₁ st b₁ r res) where
  pub leaves-stopped : {w : Refusal} → r.status ≡ Refused w → (l : AfterLeaving)
      → RanUnder k heap heap₁ slots slots₁ st b (record { out = record { status = r.status; state = r.state; bindings = l.state }; newest = l.newest }) res
  leaves-stopped {w} s l = record {
    moves = d.moves;
    follows = λ n. absurd (not_done s n);
    there = λ n. absurd (not_done s n);
    answer = λ ys next.
        ap (λ x. after x (λ σ. leave σ next)) (sym (d.answer ys) ∙ meaning-refused heap₁ r s)
        ∙ refusal-after w (λ σ. leave σ next) ∙ sym (left-refused heap₁ l.state l.newest r.state.fuel next s);
  }

  module _ (s : r.status ≡ Done) where
    -- there is one to leave
    some_left : 0 < r.bindings.len
    some_left = omega (arith, (d.follows s).len, O.len)

    pub leaves_done : r.state.top ≤ unknown → {l : AfterLeaving} → Goes heap₁ r.bindings l
        → RanUnder k heap heap₁ slots slots₁ st b
        (record { out = record { status = r.status; state = r.state; bindings = l.state }; newest = l.newest }) res
    leaves_done small {l} L = record {
      moves = d.moves;
      follows = λ n. goes-follows L (d.follows s).bound some_left O full (d.follows s);
      there = λ n. goes-node L (d.follows s).bound some_left d.moves.graph.some small;
      answer = λ ys next.
          via (λ σ. leave σ next) (sym (d.answer ys) ∙ meaning_done heap₁ r s)
          (goes-state L (d.follows s).bound some_left d.moves.graph.unit_there small next r.state.fuel)
          ∙ sym (left_done heap₁ l.state l.newest r.state.fuel next s);
    }

----------------------------------------------------------------
-- A variable more, of which nothing is known

module _ {heap : List ℕ} {b : View} {q top : ℕ} (B : Binds heap b q top) (space : b.len < max_variables) {b₁ : View} (O : Opens b unknown b₁) where
  pub inner-state : state_of heap b₁ ≡ none ∷ state_of heap b
  inner-state = opens-state heap b unknown top b₁ O B.bound space ∙ ap (λ f. slotMeaning heap f ∷ state_of heap b) (found-mark heap unknown refl)

  pub inner-ancillae : ancillae_of heap b₁ q ≡ ancillae_of heap b q
  inner-ancillae =
      ancillae-same heap b₁.slots b.slots 0 q
      (λ j h. ap (λ (l : List ℕ). get_or l j 0) O.slots ∙ get_or-set_other b.slots b.len j unknown 0 (λ e. omega (arith, B.within)))

module _ {code heap slots : List ℕ} {st : Machine} {b : View} {q t room : ℕ} (rd : Ready 0 0 code heap slots st b q (b.len + 1) t room)
    (space : b.len < max_variables) {b₁ : View} (O : Opens b unknown b₁) where
  pub inner-ready : Ready 0 0 code heap slots st b₁ q b₁.len t room
  inner-ready = record {
    machine = rd.machine;
    binds = opened-binds O rd.binds.bound space (left refl) rd.binds;
    term = rd.term;
    scoped = subst (λ n. ScopedAt code n t) (sym O.len) rd.scoped;
    tall = omega arith;
  }

  pub inner-run : (v : Val) (ys : List TypeEntry) → run_of code heap st b₁ q t v room ys ≡ under_of code heap st b q t v room ys
  inner-run v ys = ap₂ (λ a σ. backward fits (program_in code ys) room a σ (tree_in code ys t) v st.fuel) (inner-ancillae rd.binds space O)
      (inner-state rd.binds space O)
