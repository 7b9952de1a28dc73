-- What each kind of term that binds nothing does, from what the calls before it ensure: entering, variables, unit, inl, inr and roll, pair,
-- unroll.
use Prim.Native.Nat.{ℕ, zero, suc, ◌+◌, ◌-◌, ◌<◌}
use native.Mathlib.Omega.{arith}
use native.Mathlib.Nat.{pos_of_ne-zero}
use mathlib.Core.Path.{◌≡◌, refl, sym, ap, ap₂, ◌∙◌}
use mathlib.Core.Logic.{⊎_elim, inl as left, inr as right}
use mathlib.Core.List.{List}
use package.Rattle.program.specs.Kinds.{variable_kind, unit_kind, pair_kind, unroll_kind}
use package.Rattle.rules.specs.Limits.{fits}
use package.Rattle.rules.specs.Val.{Val, unit, pair}
use package.Rattle.rules.specs.Term.{Term, Program, entry}
use package.Rattle.rules.specs.Run.{Res, stop, Run, after, enter, give, test}
use package.Rattle.rules.specs.Machine.{State, on_some, on_roll, made, forward_step, forward}
use package.Rattle.calls.specs.Entries.{TypeEntry}
use package.Rattle.valuegraph.specs.Nodes.{Room, of_kind, Single, value_at}
use package.Rattle.valuegraph.proofs.Heaps.{value-kept}
use package.Rattle.scopes.specs.Slots.{slot_at, meaning as slotMeaning, Machine, Scope}
use Rattle.std.specs.Prelude.{Option, Some, None}
use package.Rattle.scopes.proofs.Scopes.{known-filled}
use package.Rattle.yields.specs.Yields.{Wraps}
use package.Rattle.forward.specs.Outcomes.{Out, stopped, refusal_of, meaning, found_out}
use package.Rattle.forward.specs.Ready.{Ready, RanForward, Makes, Unrolls, ancillae_of, state_of, run_of, step_of}
use package.Rattle.forward.proofs.Runs.{meaning-value, says, slack, still, halted, one-node, part-refused, part-answered, fewer, ancillae_later, state_later, part}
use package.Rattle.forward.proofs.Making.{test_true}
use package.Rattle.forward.proofs.Answers.{below-mark}
use package.Rattle.forward.proofs.Leaves.{slot-node}
use Rattle.forward.specs.declared.outcomes.Refusal.{Refusal}
use Rattle.forward.specs.declared.outcomes.Refusal.TheVariants.{Fuel, Height}
use package.Rattle.decoded.specs.Rows.{first_in, kind_in, program_in, second_in, tree_in}
use package.Rattle.decoded.proofs.Trees.{part_inl, part_inr, part-roll, part_unroll, parts-pair, tree-entry, tree_inl, tree_inr, tree-pair, tree-roll, tree-unit, tree_unroll, tree-var}
use Rattle.std.specs.Prelude.{Ok, Err}

----------------------------------------------------------------
-- A term is entered

module _ (P : Program) (a : List Val) (σ : State) (T : Term) where
  spent : (room fuel : ℕ) → fuel ≡ 0 → forward fits P room a σ T fuel ≡ stop 12 (entry T)
  unfolding forward enter
  spent zero fuel e = rw e
  spent (suc room) fuel e = rw e

  high : (room fuel : ℕ) → room ≡ 0 → 0 < fuel → forward fits P room a σ T fuel ≡ stop 13 (entry T)
  unfolding forward enter
  high room fuel e h = let z : fuel ≡ suc (fuel - 1) = omega arith in rw (e, z)

  entered : (room fuel : ℕ) → 0 < room → 0 < fuel → forward fits P room a σ T fuel ≡ forward_step fits P (forward fits P (room - 1)) a σ T (fuel - 1)
  unfolding forward enter
  entered room fuel h h' =
      let r : room ≡ suc (room - 1) = omega arith in
      let f : fuel ≡ suc (fuel - 1) = omega arith in
      ap₂ (λ r f. forward fits P r a σ T f) r f

module _ {code heap slots : List ℕ} {st : Machine} {sc : Scope} {t room : ℕ} (rd : Ready 0 0 code heap slots st sc t room) where
  abbrev place : (ys : List TypeEntry) → entry (tree_in code ys t) ≡ t
  place ys = tree-entry rd.rows t rd.term ys

  pub term-spent : (r : Out) → r.status ≡ Err (Fuel t) → r.state ≡ st → st.fuel ≡ 0
      → RanForward 0 heap heap (sc.base + sc.n) slots slots st r (run_of code heap slots st sc t room)
  unfolding refusal_of
  term-spent r s q z =
      halted rd.graph _ slots r q s (λ ys. spent (program_in code ys) _ _ _ room st.fuel z ∙ ap (stop 12) (place ys))

  module _ (some-fuel : ¬ (st.fuel ≡ 0)) where
    pub term_high : (r : Out) → r.status ≡ Err (Height t) → r.state ≡ st → room ≡ 0
        → RanForward 0 heap heap (sc.base + sc.n) slots slots st r (run_of code heap slots st sc t room)
    unfolding refusal_of
    term_high r s q z =
        halted rd.graph _ slots r q s
        (λ ys. high (program_in code ys) _ _ _ room st.fuel z (pos_of_ne-zero some-fuel) ∙ ap (stop 13) (place ys))

    module _ (some-room : ¬ (room ≡ 0)) where
      -- one unit of fuel is taken
      abbrev taken : Machine
      taken = record { top = st.top; fuel = st.fuel - 1 }

      pub term-ready : Ready 1 0 code heap slots taken sc t room
      term-ready =
          let pos = pos_of_ne-zero some-fuel in
          let tall = pos_of_ne-zero some-room in
          record {
            rows = rd.rows;
            term = rd.term;
            graph = rd.graph;
            held = rd.held;
            ancillae = rd.ancillae;
            within = rd.within;
            nodes = omega (arith, rd.nodes);
            small = omega (arith, rd.small);
            variables = rd.variables;
            full = rd.full;
            tall = omega arith;
          }

      pub term_done : {heap' slots' : List ℕ} {r : Out} → RanForward 1 heap heap' (sc.base + sc.n) slots slots' taken r (step_of code heap slots taken sc t room)
          → RanForward 0 heap heap' (sc.base + sc.n) slots slots' st r (run_of code heap slots st sc t room)
      term_done d =
          let pos = pos_of_ne-zero some-fuel in
          record {
            agree = d.agree;
            graph = d.graph;
            below = d.below;
            lengths = d.lengths;
            grows = d.grows;
            spends = omega (arith, d.spends);
            owes = omega (arith, d.owes);
            node = d.node;
            answer = λ ys. d.answer ys ∙ sym (entered (program_in code ys) _ _ _ room st.fuel (pos_of_ne-zero some-room) pos);
          }

----------------------------------------------------------------
-- By kind

module _ {code heap slots : List ℕ} {st : Machine} {sc : Scope} {t room : ℕ} (rd : Ready 1 0 code heap slots st sc t room) where
  abbrev run : ℕ → List TypeEntry → Res Val
  run b = run_of code heap slots st sc b (room - 1)

  abbrev step : List TypeEntry → Res Val
  step = step_of code heap slots st sc t room

  abbrev m : ℕ
  m = sc.base + sc.n

  -- the step of a term whose tree is known
  pub stepped : (ys : List TypeEntry) {x : Term} → tree_in code ys t ≡ x
      → step ys ≡ forward_step fits (program_in code ys) (forward fits (program_in code ys) (room - 1)) (ancillae_of heap slots sc) (state_of heap slots sc) x
      st.fuel
  stepped ys e =
      ap (λ x. forward_step fits (program_in code ys) (forward fits (program_in code ys) (room - 1)) (ancillae_of heap slots sc) (state_of heap slots sc) x
      st.fuel) e

  -- a part, once another was run
  pub run_later : {heap₁ slots₁ : List ℕ} {r₁ : Out} {res : List TypeEntry → Res Val} → RanForward 0 heap heap₁ m slots slots₁ st r₁ res
      → (b : ℕ) (ys : List TypeEntry)
      → run_of code heap₁ slots₁ r₁.state sc b (room - 1) ys ≡ run_of code heap slots r₁.state sc b (room - 1) ys
  run_later {r₁ = r₁} d b ys =
      ap₂ (λ a σ. forward fits (program_in code ys) (room - 1) a σ (tree_in code ys b) r₁.state.fuel) (sym (ancillae_later rd d)) (sym (state_later rd d))

  -- room for one node
  pub node-room : Room heap (st.top + 1) × (st.top < stopped)
  node-room = (omega (arith, rd.nodes), omega (arith, rd.small))

  ----------------------------------------------------------------
  -- Variables and unit

  module _ (kind : kind_in code t ≡ variable_kind) where
    step-var : (ys : List TypeEntry) → step ys ≡ on_some (slotMeaning heap (slot_at heap slots sc.base sc.n (first_in code t)))
        (λ v. test (fits v) 14 t (give v)) st.fuel
    unfolding forward_step made
    step-var ys =
        stepped ys (tree-var rd.rows t rd.term ys kind)
        ∙ ap (λ o. on_some o (λ v. test (fits v) 14 t (give v)) st.fuel)
        (known-filled heap slots sc.base sc.n (first_in code t) rd.graph.unit_there)

    pub var_done : (r : Out) → r ≡ found_out (slot_at heap slots sc.base sc.n (first_in code t)) st → RanForward 1 heap heap m slots slots st r step
    unfolding found_out on_some refusal_of
    var_done r e = slack (go (slot_at heap slots sc.base sc.n (first_in code t)) refl) 1 (omega arith)
      where
        read : {f : Option ℕ} → slot_at heap slots sc.base sc.n (first_in code t) ≡ f → r ≡ found_out f st
        read q = e ∙ ap (λ f. found_out f st) q

        go : (f : Option ℕ) → slot_at heap slots sc.base sc.n (first_in code t) ≡ f → RanForward 0 heap heap m slots slots st r step
        go (Some node) q =
            let below : node < st.top = slot-node sc.base sc.n (first_in code t) rd.graph rd.held (omega (arith, rd.small, below-mark)) q in
            still rd.graph m slots r (ap (λ (r : Out). r.state) (read q))
            (λ n s. let z : node ≡ n = cc (ap (λ (r : Out). r.status) (read q)) in omega arith)
            (λ ys. ap (meaning heap) (read q) ∙ meaning-value heap (found_out (Some node) st) refl
            ∙ sym (test_true (fits (value_at heap node)) 14 t (value_at heap node) st.fuel (rd.graph.short node below))
            ∙ sym (step-var ys ∙ ap (λ f. on_some (slotMeaning heap f) (λ v. test (fits v) 14 t (give v)) st.fuel) q))
        go None q =
            halted rd.graph m slots r (ap (λ (r : Out). r.state) (read q)) (ap (λ (r : Out). r.status) (read q))
            (λ ys. step-var ys ∙ ap (λ f. on_some (slotMeaning heap f) (λ v. test (fits v) 14 t (give v)) st.fuel) q)

  module _ (kind : kind_in code t ≡ unit_kind) where
    pub unit_done : {heap₂ : List ℕ} {r : Out} → Makes heap heap₂ st r t unit → RanForward 1 heap heap₂ m slots slots st r step
    unfolding forward_step made
    unit_done d = one-node m slots d (λ ys. d.answer ∙ sym (stepped ys (tree-unit rd.rows t rd.term ys kind)))

  ----------------------------------------------------------------
  -- One part: inl, inr, roll

  module _ (kind : ℕ) (w : Wraps (kind_in code t) kind) where
    abbrev wrapped : Val → Run Val
    wrapped v = test (fits (of_kind kind v v)) 14 t (give (of_kind kind v v))

    pub wrap_single : Single kind
    wrap_single = ⊎_elim (λ x. left x.1) (λ y. ⊎_elim (λ x. right (left x.1)) (λ x. right (right x.1)) y) w

    wrap_part : second_in code t < t
    wrap_part =
        ⊎_elim (λ x. part_inl rd.rows t rd.term x.0)
        (λ y. ⊎_elim (λ x. part_inr rd.rows t rd.term x.0) (λ x. part-roll rd.rows t rd.term x.0) y) w

    step_wrap : (ys : List TypeEntry) → step ys ≡ after (run (second_in code t) ys) wrapped
    unfolding forward_step made of_kind
    step_wrap ys =
        ⊎_elim (λ x. rw x.1 (stepped ys (tree_inl rd.rows t rd.term ys x.0)))
        (λ y. ⊎_elim
        (λ x. rw x.1 (stepped ys (tree_inr rd.rows t rd.term ys x.0)))
        (λ x. rw x.1 (stepped ys (tree-roll rd.rows t rd.term ys x.0))) y) w

    module _ (b : ℕ) (q : b ≡ second_in code t) where
      pub wrap_ready : Ready 0 0 code heap slots st sc b (room - 1)
      wrap_ready = rw q (fewer (part rd (second_in code t) wrap_part) 0 (omega arith))

      module _ {heap₁ slots₁ : List ℕ} {r₁ : Out} (d : RanForward 0 heap heap₁ m slots slots₁ st r₁ (run b)) where
        step-b : (ys : List TypeEntry) → step ys ≡ after (run b ys) wrapped
        step-b ys = step_wrap ys ∙ ap (λ b. after (run b ys) wrapped) (sym q)

        pub wrap_refused : {why : Refusal} → r₁.status ≡ Err why → RanForward 1 heap heap₁ m slots slots₁ st r₁ step
        wrap_refused s = slack (part-refused d (λ ys. wrapped) s step-b) 1 (omega arith)

        pub wrap_done : {x : ℕ} → r₁.status ≡ Ok x → {heap₂ : List ℕ} {r₂ : Out}
            → Makes heap₁ heap₂ r₁.state r₂ t (of_kind kind (value_at heap₁ x) (value_at heap₁ x))
            → RanForward 1 heap heap₂ m slots slots₁ st r₂ step
        wrap_done s n = part-answered d (λ ys. wrapped) s step-b (one-node m slots₁ n (λ ys. n.answer)) (omega arith)

  ----------------------------------------------------------------
  -- Unroll

  module _ (kind : kind_in code t ≡ unroll_kind) where
    abbrev unwrapped : Val → Run Val
    unwrapped v = on_roll v (λ v. test (fits v) 14 t (give v))

    step_unroll : (ys : List TypeEntry) → step ys ≡ after (run (second_in code t) ys) unwrapped
    unfolding forward_step made
    step_unroll ys = stepped ys (tree_unroll rd.rows t rd.term ys kind)

    module _ (b : ℕ) (q : b ≡ second_in code t) where
      pub unroll_ready : Ready 0 0 code heap slots st sc b (room - 1)
      unroll_ready = rw q (fewer (part rd (second_in code t) (part_unroll rd.rows t rd.term kind)) 0 (omega arith))

      module _ {heap₁ slots₁ : List ℕ} {r₁ : Out} (d : RanForward 0 heap heap₁ m slots slots₁ st r₁ (run b)) where
        step_u : (ys : List TypeEntry) → step ys ≡ after (run b ys) unwrapped
        step_u ys = step_unroll ys ∙ ap (λ b. after (run b ys) unwrapped) (sym q)

        pub unroll_refused : {why : Refusal} → r₁.status ≡ Err why → RanForward 1 heap heap₁ m slots slots₁ st r₁ step
        unroll_refused s = slack (part-refused d (λ ys. unwrapped) s step_u) 1 (omega arith)

        pub unroll_done : {x : ℕ} → r₁.status ≡ Ok x → {r₂ : Out} → Unrolls heap₁ r₁.state x r₂ → RanForward 1 heap heap₁ m slots slots₁ st r₂ step
        unroll_done s {r₂} u =
            slack (part-answered d (λ ys. unwrapped) s step_u (still d.graph m slots₁ r₂ u.state u.below (λ ys. u.answer t)) (omega arith)) 1
            (omega arith)

  ----------------------------------------------------------------
  -- Pair

  module _ (kind : kind_in code t ≡ pair_kind) where
    abbrev paired : Val → Val → Run Val
    paired v w = test (fits (pair v w)) 14 t (give (pair v w))

    abbrev second-part : ℕ → List TypeEntry → Val → Run Val
    second-part b ys v fuel =
        after (forward fits (program_in code ys) (room - 1) (ancillae_of heap slots sc) (state_of heap slots sc) (tree_in code ys b) fuel) (paired v)

    step-pair : (ys : List TypeEntry) → step ys ≡ after (run (first_in code t) ys) (second-part (second_in code t) ys)
    unfolding forward_step made
    step-pair ys = stepped ys (tree-pair rd.rows t rd.term ys kind)

    pub pair-first : (b : ℕ) → b ≡ first_in code t → Ready 0 0 code heap slots st sc b (room - 1)
    pair-first b q = rw q (fewer (part rd (first_in code t) (parts-pair rd.rows t rd.term kind).0) 0 (omega arith))

    pub pair-second : (b : ℕ) → b ≡ second_in code t → Ready 0 0 code heap slots st sc b (room - 1)
    pair-second b q = rw q (fewer (part rd (second_in code t) (parts-pair rd.rows t rd.term kind).1) 0 (omega arith))

    module _ (b b' : ℕ) (q : b ≡ first_in code t) (q' : b' ≡ second_in code t) {heap₁ slots₁ : List ℕ} {r₁ : Out}
        (d : RanForward 0 heap heap₁ m slots slots₁ st r₁ (run b)) where
      step-p : (ys : List TypeEntry) → step ys ≡ after (run b ys) (second-part b' ys)
      step-p ys = step-pair ys ∙ ap₂ (λ b b'. after (run b ys) (second-part b' ys)) (sym q) (sym q')

      pub pair-refused : {why : Refusal} → r₁.status ≡ Err why → RanForward 1 heap heap₁ m slots slots₁ st r₁ step
      pair-refused s = slack (part-refused d (second-part b') s step-p) 1 (omega arith)

      module _ {x : ℕ} (s : r₁.status ≡ Ok x) {heap₂ slots₂ : List ℕ} {r₂ : Out}
          (d₂ : RanForward 0 heap₁ heap₂ m slots₁ slots₂ r₁.state r₂ (run_of code heap₁ slots₁ r₁.state sc b' (room - 1))) where
        then-second : RanForward 0 heap₁ heap₂ m slots₁ slots₂ r₁.state r₂ (run_of code heap slots r₁.state sc b' (room - 1))
        then-second = says d₂ (run_later d b')

        pub pair-refused_2 : {why : Refusal} → r₂.status ≡ Err why → RanForward 1 heap heap₂ m slots slots₂ st r₂ step
        pair-refused_2 s₂ =
            slack (part-answered d (second-part b') s step-p (part-refused then-second (λ ys. paired (value_at heap₁ x)) s₂ (λ ys. refl)) (omega arith)) 1
            (omega arith)

        pub pair_done : {x₂ : ℕ} → r₂.status ≡ Ok x₂ → {heap₃ : List ℕ} {r₃ : Out}
            → Makes heap₂ heap₃ r₂.state r₃ t (pair (value_at heap₂ x) (value_at heap₂ x₂))
            → RanForward 1 heap heap₃ m slots slots₂ st r₃ step
        pair_done {x₂} s₂ n =
            part-answered d (second-part b') s step-p
            (part-answered then-second (λ ys. paired (value_at heap₁ x)) s₂ (λ ys. refl)
            (one-node m slots₂ n (λ ys. n.answer ∙ ap (λ v. paired v (value_at heap₂ x₂) r₂.state.fuel)
            (sym (value-kept heap₁ heap₂ r₁.state.top d.graph.right d₂.agree x (d.node x s))))) (omega arith)) (omega arith)
