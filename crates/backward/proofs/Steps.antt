-- What each kind of term that binds nothing does, from what the calls before it ensure: variables, unit, inl, inr and roll, pair, unroll.
use Prim.Native.Nat.{ℕ, zero, suc, ◌+◌, ◌-◌, ◌≤◌, ◌<◌}
use native.Mathlib.Omega.{arith}
use mathlib.Core.Path.{◌≡◌, refl, sym, ap, ap₂, ◌∙◌}
use mathlib.Core.Logic.{⊎_elim, inr as right}
use mathlib.Core.List.{List}
use lib.ListN.{length}
use package.Rattle.program.specs.Kinds.{variable_kind, unit_kind, pair_kind, unroll_kind}
use package.Rattle.rules.specs.Limits.{fits}
use package.Rattle.rules.specs.Val.{Val, inl, inr, pair, roll}
use package.Rattle.rules.specs.Term.{Term}
use package.Rattle.rules.specs.Run.{Res, Run, after, give, refuse}
use package.Rattle.rules.specs.Machine.{State, meet, on_sum, on_pair, on_roll, on_unit, forward, backward_step, backward}
use package.Rattle.calls.specs.Entries.{TypeEntry}
use package.Rattle.decoded.specs.Rows.{first_in, kind_in, program_in, second_in, tree_in}
use package.Rattle.decoded.proofs.Trees.{part_inl, part_inr, part-roll, part_unroll, parts-pair, tree_inl, tree_inr, tree-pair, tree-roll, tree-unit, tree_unroll, tree-var}
use package.Rattle.valuegraph.specs.Nodes.{Room, of_kind, Single, value_within, value_at, left_at, right_at, kind_at as nodeKind}
use package.Rattle.valuegraph.proofs.Heaps.{value_inl, value_inr, value-pair, value-roll, value-kept}
use package.Rattle.scopes.specs.Bindings.{View, state_of}
use package.Rattle.scopes.specs.Slots.{Machine}
use package.Rattle.yields.specs.Yields.{Wraps}
use package.Rattle.forward.proofs.Binds.{no-pair}
use package.Rattle.backward.specs.Outcomes.{Done, Refused, Outcome, refusal_of, mismatch}
use package.Rattle.backward.specs.Ready.{Ready, RanBackward, Stays, ancillae_of, run_of, step_of}
use package.Rattle.backward.proofs.Runs.{stays, refuses, says, slack, part-refused, part_done}
use package.Rattle.backward.proofs.Leaves.{against-other, against_none, mismatch-left, mismatch-right, mismatch_none}
use package.Rattle.backward.proofs.Parts.{later, ancillae-after, owing, owing_none, in_scope, part, scoped_wrap, scoped-pair, scoped_unroll}
use Rattle.backward.specs.declared.outcomes.Refusal.{Refusal}
use Rattle.backward.specs.declared.outcomes.Refusal.TheVariants.{Stuck}

----------------------------------------------------------------
-- Values of another kind

other_inl : (n : ℕ) (v w : Val) (go : Val → Run State) (t fuel : ℕ) → ¬ (n ≡ 1) → on_sum (of_kind n v w) go (λ w. refuse 16 t) fuel ≡ refusal_of (mismatch 1 n t)
unfolding on_sum of_kind refusal_of
other_inl zero v w go t fuel d = ap refusal_of (against_none 2 0 t (λ e. omega arith) ∙ mismatch-left 1 0 t refl)
other_inl (suc zero) v w go t fuel d = absurd (d refl)
other_inl (suc (suc zero)) v w go t fuel d = ap refusal_of (against-other 2 2 t refl ∙ mismatch-left 1 2 t refl)
other_inl (suc (suc (suc zero))) v w go t fuel d = ap refusal_of (against_none 2 3 t (λ e. omega arith) ∙ mismatch-left 1 3 t refl)
other_inl (suc (suc (suc (suc n)))) v w go t fuel d = ap refusal_of (against_none 2 (suc (suc (suc (suc n)))) t (λ e. omega arith)
    ∙ mismatch-left 1 (suc (suc (suc (suc n)))) t refl)

other_inr : (n : ℕ) (v w : Val) (go : Val → Run State) (t fuel : ℕ) → ¬ (n ≡ 2) → on_sum (of_kind n v w) (λ w. refuse 16 t) go fuel ≡ refusal_of (mismatch 2 n t)
unfolding on_sum of_kind refusal_of
other_inr zero v w go t fuel d = ap refusal_of (against_none 1 0 t (λ e. omega arith) ∙ mismatch-right 2 0 t (λ e. omega arith) refl)
other_inr (suc zero) v w go t fuel d = ap refusal_of (against-other 1 1 t refl ∙ mismatch-right 2 1 t (λ e. omega arith) refl)
other_inr (suc (suc zero)) v w go t fuel d = absurd (d refl)
other_inr (suc (suc (suc zero))) v w go t fuel d = ap refusal_of (against_none 1 3 t (λ e. omega arith) ∙ mismatch-right 2 3 t (λ e. omega arith) refl)
other_inr (suc (suc (suc (suc n)))) v w go t fuel d =
    ap refusal_of (against_none 1 (suc (suc (suc (suc n)))) t (λ e. omega arith) ∙ mismatch-right 2 (suc (suc (suc (suc n)))) t (λ e. omega arith) refl)

other-roll : (n : ℕ) (v w : Val) (go : Val → Run State) (t fuel : ℕ) → n ≤ 4 → ¬ (n ≡ 4) → on_roll (of_kind n v w) go fuel ≡ refusal_of (mismatch 4 n t)
unfolding on_roll of_kind refusal_of
other-roll zero v w go t fuel l d = ap refusal_of (mismatch_none 4 0 t (λ e. omega arith) (λ e. omega arith))
other-roll (suc zero) v w go t fuel l d = ap refusal_of (mismatch_none 4 1 t (λ e. omega arith) (λ e. omega arith))
other-roll (suc (suc zero)) v w go t fuel l d = ap refusal_of (mismatch_none 4 2 t (λ e. omega arith) (λ e. omega arith))
other-roll (suc (suc (suc zero))) v w go t fuel l d = ap refusal_of (mismatch_none 4 3 t (λ e. omega arith) (λ e. omega arith))
other-roll (suc (suc (suc (suc n)))) v w go t fuel l d = absurd (d (omega arith))

----------------------------------------------------------------
-- By kind

module _ {code heap slots : List ℕ} {st : Machine} {b : View} {q t room : ℕ} (rd : Ready 2 1 code heap slots st b q b.len t room)
    {node : ℕ} (low : node < st.top) where
  abbrev value : Val
  value = value_at heap node

  abbrev step : List TypeEntry → Res State
  step = step_of code heap st b q t value room

  -- a part, from a state on
  abbrev pub go : List TypeEntry → State → ℕ → Val → Run State
  go ys σ u w = backward fits (program_in code ys) (room - 1) (ancillae_of heap b q) σ (tree_in code ys u) w

  -- the step of a term whose tree is known
  pub stepped : (ys : List TypeEntry) {x : Term} → tree_in code ys t ≡ x
      → step ys ≡ backward_step fits (program_in code ys) (forward fits (program_in code ys) (room - 1))
      (backward fits (program_in code ys) (room - 1)) (ancillae_of heap b q) (state_of heap b) x value st.fuel
  stepped ys e =
      ap (λ x. backward_step fits (program_in code ys) (forward fits (program_in code ys) (room - 1))
      (backward fits (program_in code ys) (room - 1)) (ancillae_of heap b q) (state_of heap b) x value st.fuel) e

  -- the value's node is there
  pub node-there : Room heap (node + 1)
  node-there = omega (arith, rd.machine.graph.right.held)

  ----------------------------------------------------------------
  -- Variables and unit

  pub var_done : kind_in code t ≡ variable_kind → {slots' : List ℕ} → length slots ≡ length slots' → {r : Outcome}
      → Stays heap st b r (meet t (state_of heap b) (first_in code t) value st.fuel) → RanBackward 2 heap heap slots slots' st b r step
  unfolding backward_step
  var_done kind l S = slack (stays rd.machine.graph l S (λ ys. sym (stepped ys (tree-var rd.machine.rows t rd.term ys kind)))) 2 (omega arith)

  -- a variable that is bound makes a cell
  pub var-bound : kind_in code t ≡ variable_kind → {heap' slots' : List ℕ} {r : Outcome}
      → RanBackward 1 heap heap' slots slots' st b r (λ ys. meet t (state_of heap b) (first_in code t) value st.fuel) → RanBackward 2 heap heap' slots slots' st b r step
  unfolding backward_step
  var-bound kind d = slack (says d (λ ys. sym (stepped ys (tree-var rd.machine.rows t rd.term ys kind)))) 2 (omega arith)

  pub unit_done : kind_in code t ≡ unit_kind → {r : Outcome} → Stays heap st b r (on_unit value (give (state_of heap b)) st.fuel)
      → RanBackward 2 heap heap slots slots st b r step
  unfolding backward_step
  unit_done kind S = slack (stays rd.machine.graph refl S (λ ys. sym (stepped ys (tree-unit rd.machine.rows t rd.term ys kind)))) 2 (omega arith)

  ----------------------------------------------------------------
  -- One part: inl, inr, roll

  module _ {kind : ℕ} (w : Wraps (kind_in code t) kind) where
    wrap_part : second_in code t < t
    wrap_part =
        ⊎_elim (λ x. part_inl rd.machine.rows t rd.term x.0)
        (λ y. ⊎_elim (λ x. part_inr rd.machine.rows t rd.term x.0) (λ x. part-roll rd.machine.rows t rd.term x.0) y) w

    -- the value is of that kind
    module _ (here : nodeKind heap node ≡ kind) {x : ℕ} (qx : x ≡ left_at heap node) where
      is_inl : kind ≡ 1 → value_at heap node ≡ inl (value_at heap x)
      is_inl e = rw qx (value_inl heap st.top rd.machine.graph.right node low (here ∙ e)).0

      is_inr : kind ≡ 2 → value_at heap node ≡ inr (value_at heap x)
      is_inr e = rw qx (value_inr heap st.top rd.machine.graph.right node low (here ∙ e)).0

      is_roll : kind ≡ 4 → value_at heap node ≡ roll (value_at heap x)
      is_roll e = rw qx (value-roll heap st.top rd.machine.graph.right node low (here ∙ e)).0

      step_same : (ys : List TypeEntry) → step ys ≡ go ys (state_of heap b) (second_in code t) (value_at heap x) st.fuel
      unfolding backward_step on_sum on_roll
      step_same ys =
          ⊎_elim
          (λ z. stepped ys (tree_inl rd.machine.rows t rd.term ys z.0)
          ∙ ap (λ v. on_sum v (go ys (state_of heap b) (second_in code t)) (λ w. refuse 16 t) st.fuel) (is_inl z.1))
          (λ y. ⊎_elim
          (λ z. stepped ys (tree_inr rd.machine.rows t rd.term ys z.0)
          ∙ ap (λ v. on_sum v (λ w. refuse 16 t) (go ys (state_of heap b) (second_in code t)) st.fuel) (is_inr z.1))
          (λ z. stepped ys (tree-roll rd.machine.rows t rd.term ys z.0)
          ∙ ap (λ v. on_roll v (go ys (state_of heap b) (second_in code t)) st.fuel) (is_roll z.1)) y) w

      pub unwrap_node : x < st.top
      unwrap_node =
          rw qx (⊎_elim
          (λ z. omega (arith, (value_inl heap st.top rd.machine.graph.right node low (here ∙ z.1)).1))
          (λ y. ⊎_elim
          (λ z. omega (arith, (value_inr heap st.top rd.machine.graph.right node low (here ∙ z.1)).1))
          (λ z. omega (arith, (value-roll heap st.top rd.machine.graph.right node low (here ∙ z.1)).1)) y) w)

      module _ {u : ℕ} (qu : u ≡ second_in code t) where
        pub unwrap_ready : Ready 0 0 code heap slots st b q b.len u (room - 1)
        unwrap_ready = rw qu (owing_none (part rd (second_in code t) b.len wrap_part (scoped_wrap rd w)))

        pub unwrap_done : {heap₁ slots₁ : List ℕ} {r : Outcome} → RanBackward 0 heap heap₁ slots slots₁ st b r (run_of code heap st b q u (value_at heap x) (room - 1))
            → RanBackward 2 heap heap₁ slots slots₁ st b r step
        unwrap_done d = slack (says d (λ ys. ap (λ u. go ys (state_of heap b) u (value_at heap x) st.fuel) qu ∙ sym (step_same ys))) 2 (omega arith)

    -- it is of another
    step-differs : ¬ (nodeKind heap node ≡ kind) → (ys : List TypeEntry) → step ys ≡ refusal_of (mismatch kind (nodeKind heap node) t)
    unfolding backward_step value_at value_within
    step-differs n ys =
        ⊎_elim
        (λ z. rw z.1 (stepped ys (tree_inl rd.machine.rows t rd.term ys z.0)
        ∙ other_inl (nodeKind heap node) _ _ (go ys (state_of heap b) (second_in code t)) t st.fuel (λ e. n (e ∙ sym z.1))))
        (λ y. ⊎_elim
        (λ z. rw z.1 (stepped ys (tree_inr rd.machine.rows t rd.term ys z.0)
        ∙ other_inr (nodeKind heap node) _ _ (go ys (state_of heap b) (second_in code t)) t st.fuel (λ e. n (e ∙ sym z.1))))
        (λ z. rw z.1 (stepped ys (tree-roll rd.machine.rows t rd.term ys z.0)
        ∙ other-roll (nodeKind heap node) _ _ (go ys (state_of heap b) (second_in code t)) t st.fuel (rd.machine.graph.right.node node low).kind
        (λ e. n (e ∙ sym z.1)))) y) w

    pub unwrap_differs : {found : ℕ} → found ≡ nodeKind heap node → ¬ (found ≡ kind) → {why : Refusal} → why ≡ mismatch kind found t
        → (r : Outcome) → r.status ≡ Refused why → r.state ≡ st → RanBackward 2 heap heap slots slots st b r step
    unwrap_differs {found} f n {why} m r s e =
        slack (refuses r rd.machine.graph s e (λ ys. step-differs (λ z. n (f ∙ z)) ys ∙ ap (λ k. refusal_of (mismatch kind k t)) (sym f)
        ∙ ap refusal_of (sym m))) 2 (omega arith)

  ----------------------------------------------------------------
  -- Pair

  module _ (kind : kind_in code t ≡ pair_kind) where
    pub pair_stuck : {found : ℕ} → found ≡ nodeKind heap node → ¬ (found ≡ 3) → (r : Outcome) → r.status ≡ Refused Stuck → r.state ≡ st
        → RanBackward 2 heap heap slots slots st b r step
    unfolding backward_step value_at value_within refusal_of
    pair_stuck f n r s e =
        slack (refuses r rd.machine.graph s e (λ ys. stepped ys (tree-pair rd.machine.rows t rd.term ys kind)
        ∙ no-pair (nodeKind heap node) _ _ _ st.fuel (λ z. n (f ∙ z)))) 2 (omega arith)

    module _ (here : nodeKind heap node ≡ 3) {x y : ℕ} (qx : x ≡ left_at heap node) (qy : y ≡ right_at heap node) where
      pub pair-nodes : (x < st.top) × (y < st.top)
      pair-nodes = (
        rw qx (omega (arith, (value-pair heap st.top rd.machine.graph.right node low here).1)),
        rw qy
            (omega (arith, (value-pair heap st.top rd.machine.graph.right node low here).2)),
      )

      is_pair : value_at heap node ≡ pair (value_at heap x) (value_at heap y)
      is_pair = rw (qx, qy) (value-pair heap st.top rd.machine.graph.right node low here).0

      module _ {u u' : ℕ} (qu : u ≡ first_in code t) (qu' : u' ≡ second_in code t) where
        abbrev second-part : List TypeEntry → State → Run State
        second-part ys σ = go ys σ u' (value_at heap y)

        step-pair : (ys : List TypeEntry) → step ys ≡ after (run_of code heap st b q u (value_at heap x) (room - 1) ys) (second-part ys)
        unfolding backward_step on_pair
        step-pair ys =
            stepped ys (tree-pair rd.machine.rows t rd.term ys kind)
            ∙ ap (λ v. on_pair v (λ w w' fuel. after (go ys (state_of heap b) (first_in code t) w fuel) (λ σ. go ys σ (second_in code t) w')) st.fuel)
            is_pair
            ∙ ap₂ (λ u u'. after (go ys (state_of heap b) u (value_at heap x) st.fuel) (λ σ. go ys σ u' (value_at heap y))) (sym qu) (sym qu')

        pub pair-first : Ready 0 0 code heap slots st b q b.len u (room - 1)
        pair-first = rw qu (owing_none (part rd (first_in code t) b.len (parts-pair rd.machine.rows t rd.term kind).0 (scoped-pair rd kind).0))

        module _ {heap₁ slots₁ : List ℕ} {r : Outcome} (d : RanBackward 0 heap heap₁ slots slots₁ st b r (run_of code heap st b q u (value_at heap x) (room - 1))) where
          pub pair-refused : {why : Refusal} → r.status ≡ Refused why → RanBackward 2 heap heap₁ slots slots₁ st b r step
          pair-refused s = slack (part-refused d second-part s step-pair) 2 (omega arith)

          module _ (s : r.status ≡ Done) where
            pub pair-second : Ready 0 0 code heap₁ slots₁ r.state r.bindings q r.bindings.len u' (room - 1)
            pair-second = in_scope r.bindings.len (sym (d.follows s).len)
                (rw qu' (owing_none (later (part rd (second_in code t) b.len (parts-pair rd.machine.rows t rd.term kind).1
                (scoped-pair rd kind).1) d.moves (d.follows s) 2 (omega arith))))

            pub pair_done : {heap₂ slots₂ : List ℕ} {r₂ : Outcome}
                → RanBackward 0 heap₁ heap₂ slots₁ slots₂ r.state r.bindings r₂ (run_of code heap₁ r.state r.bindings q u' (value_at heap₁ y) (room - 1))
                → RanBackward 2 heap heap₂ slots slots₂ st b r₂ step
            pair_done d₂ =
                slack (part_done d second-part s step-pair (says d₂ (λ ys.
                ap₂ (λ a v. backward fits (program_in code ys) (room - 1) a (state_of heap₁ r.bindings) (tree_in code ys u') v r.state.fuel)
                (sym (ancillae-after rd d.moves (d.follows s)))
                (sym (value-kept heap heap₁ st.top rd.machine.graph.right d.moves.agree y pair-nodes.1))))) 2 (omega arith)

  ----------------------------------------------------------------
  -- Unroll

  module _ (kind : kind_in code t ≡ unroll_kind) {u : ℕ} (qu : u ≡ second_in code t) where
    pub unroll_ready : Ready 1 0 code heap slots st b q b.len u (room - 1)
    unroll_ready = rw qu (owing 1 (omega arith) (part rd (second_in code t) b.len (part_unroll rd.machine.rows t rd.term kind) (scoped_unroll rd kind)))

    pub unroll_done : {heap₁ slots₁ : List ℕ} {r : Outcome} → RanBackward 1 heap heap₁ slots slots₁ st b r (run_of code heap st b q u (of_kind 4 value value) (room - 1))
        → RanBackward 2 heap heap₁ slots slots₁ st b r step
    unfolding backward_step of_kind
    unroll_done d = slack (says d (λ ys. ap (λ u. go ys (state_of heap b) u (roll value) st.fuel) qu
        ∙ sym (stepped ys (tree_unroll rd.machine.rows t rd.term ys kind)))) 2 (omega arith)

pub roll-single : Single 4
roll-single = right (right refl)
