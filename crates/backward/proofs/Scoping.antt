-- let, let pair and case in code: a body or a branch in the scope with its variables; they leave, and the other part is run.
use Prim.Native.Nat.{ℕ, ◌+◌, ◌-◌, ◌<◌}
use native.Mathlib.Omega.{arith}
use mathlib.Core.Bool.{Bool, false, cond}
use mathlib.Core.List.{List}
use mathlib.Core.Path.{◌≡◌, refl, sym, ap, ap₂, ◌∙◌}
use lib.ListN.{length, get_or}
use package.Rattle.rules.specs.Limits.{max_variables, max_parameters}
use package.Rattle.program.specs.Kinds.{let_kind, let_pair_kind, case_kind}
use package.Rattle.rules.specs.Term.{by_ancilla}
use package.Rattle.rules.specs.Yield.{may_yield}
use package.Rattle.rules.specs.Val.{pair}
use package.Rattle.calls.specs.Entries.{TypeEntry}
use package.Rattle.decoded.specs.Rows.{first_in, kind_in, second_in, third_in, tree_in}
use package.Rattle.decoded.proofs.Trees.{parts_case}
use package.Rattle.valuegraph.specs.Nodes.{of_kind, value_at}
use package.Rattle.scopes.specs.Slots.{Machine, Scope, Slot, found, node_or, machine_of, scope_in, slot_count, state_count, slots_of, unknown}
use package.Rattle.scopes.specs.Bindings.{Opens, bound, CellReady}
use package.Rattle.scopes.specs.declared.bindings.Bindings.{Bindings}
use package.Rattle.scopes.proofs.Views.{view_at}
use package.Rattle.yields.specs.Yields.{Asks}
use package.Rattle.forward.proofs.Binds.{opened as wider}
use package.Rattle.backward.specs.Ready.{Held, Gone, GoneUnder, Leavable, Prepared, PreparedIn, PreparedUnder, RanUnder, ancillae_of, run_at, step_at, under_at}
use package.Rattle.backward.specs.Ready.{RunsBack, RunsUnder, CaseThat, WidenReady, Widened}
use package.Rattle.backward.specs.Outcomes.{inner_of, scope_view}
use package.Rattle.backward.proofs.Opening.{Marked, marked, as_many, marked-below, opens, opened, widen-ready, widened, widened-node, ran-under}
use package.Rattle.backward.proofs.Leaving.{LeftBehind, held-under, looked, in_slot, cell-ready, under_left, left-node, left-tells, left_below}
use package.Rattle.backward.proofs.Frames.{beside, few-ancillae, gone-then, onward, stops-under}
use package.Rattle.backward.proofs.Matched.{case_branch, case_done, case_refused, case_space, case_sum}
use package.Rattle.backward.proofs.Stops.{is_done, is_stopped}
use package.Rattle.backward.proofs.Lets.{let_body, let_bound, let_done, let_refused, let_space}
use package.Rattle.backward.proofs.Lets.{letp_body, letp_bound, letp_done, letp_nodes, letp_refused, letp_second, letp_space}
use package.Rattle.backward.proofs.Runs.{refused_with, small_top, under_from}
use package.Rattle.backward.proofs.Leaves.{view_goes}
use Rattle.std.specs.Prelude.{Ok, Err}
use package.Rattle.backward.specs.Outcomes.{Out}
use Rattle.backward.specs.declared.outcomes.Refusal.{Refusal}
use package.Rattle.backward.proofs.Stops.{not_ok}

module _ {code heap slots : List ℕ} {m : Machine} {b : Bindings} {sc : Scope} {t room : ℕ}
    (P : Prepared 2 1 code heap slots m b sc sc.n t room) {node : ℕ} (low : node < m.top) where
  abbrev Stepped : List ℕ → List ℕ → Machine → Out → Type 0
  Stepped heap' slots' m' r = Gone 2 heap heap' slots slots' m m' sc r (step_at code heap slots m sc t (value_at heap node) room)

  there : sc.base + sc.n < slot_count
  unfolding max_parameters
  there = omega (arith, P.space, P.ready.tall)

  ----------------------------------------------------------------
  -- let

  module _ (kind : kind_in code t ≡ let_kind) {u u' : ℕ} (qu : u ≡ first_in code t) (qu' : u' ≡ second_in code t) where
    pub let_few : sc.n < max_variables
    let_few = let_space P.ready low kind qu qu'

    pub let_prepared : Prepared 0 0 code heap slots m b sc (sc.n + 1) u' (room - 1)
    unfolding max_parameters
    let_prepared = beside P (let_body P.ready low kind qu qu') (omega (arith, P.ready.tall))

    module _ {heap₁ slots₁ : List ℕ} {m₁ : Machine} {r : Out}
        (G : GoneUnder heap heap₁ slots slots₁ m m₁ sc r (under_at code heap slots m sc u' (value_at heap node) (room - 1))) where
      pub let_stopped : {why : Refusal} → r ≡ Err why → Stepped heap₁ slots₁ m₁ r
      let_stopped d = stops-under G d (let_refused P.ready low kind qu qu' G.ran (omega arith) (is_stopped d))

      module _ {bs : Bindings} (e : r ≡ Ok bs) where
        let_held : Held 2 code heap₁ slots₁ m₁ room
        let_held = held-under P.ready.machine refl G

        pub let_leaves : Leavable heap₁ slots₁ bs sc m₁.top
        let_leaves = looked let_held G e sc.n P.ready.binds.within (omega arith) there (G.slot (is_done e)) refl refl

        pub let_cell : {st₁ : List ℕ} → length st₁ ≡ state_count → machine_of st₁ ≡ m₁ → CellReady heap₁ st₁ bs sc.n
        let_cell full em = cell-ready let_held G e full em (omega arith) sc.n (omega (arith, let_few))

        module _ {heap₂ slots₂ : List ℕ} {m₂ : Machine} {c : Bindings} (K : LeftBehind heap₁ heap₂ slots₁ slots₂ m₁ m₂ bs sc.n c) where
          abbrev let_run : RanUnder 1 heap heap₂ slots slots₂ m (scope_view slots sc) (inner_of heap₂ r slots₂ m₂ sc)
              (under_at code heap slots m sc u' (value_at heap node) (room - 1))
          let_run = under_left let_held G e K

          let_below : (j : ℕ) → j < sc.base → get_or slots j 0 ≡ get_or slots₂ j 0
          let_below j l = G.below j l ∙ left_below let_held G e K j

          pub let_outer : Prepared 0 0 code heap₂ slots₂ m₂ c sc sc.n u (room - 1)
          unfolding max_parameters
          let_outer =
              onward P let_run.moves let_below (left-tells let_held G e K (omega arith) (omega arith))
              (let_bound P.ready low kind qu qu' let_run (omega arith) (is_done e)) (omega (arith, P.ready.tall))

          module _ {x : ℕ} (qx : x ≡ node_or (bound heap₁ bs sc.n)) where
            let_left : x ≡ node_or (found heap₂ (get_or slots₂ (sc.base + sc.n) 0))
            let_left = left-node let_held G e K (sc.base + sc.n) (G.slot (is_done e)) (in_slot let_held G e sc.n P.ready.binds.within (omega arith) qx)

            pub let_node : x < m₂.top
            let_node = rw let_left (let_run.there (is_done e))

            pub let_gone : {heap₃ slots₃ : List ℕ} {m₃ : Machine} {r₂ : Out}
                → Gone 0 heap₂ heap₃ slots₂ slots₃ m₂ m₃ sc r₂ (run_at code heap₂ slots₂ m₂ sc u (value_at heap₂ x) (room - 1))
                → Stepped heap₃ slots₃ m₃ r₂
            let_gone E = gone-then let_below E
                (let_done P.ready low kind qu qu' let_run (omega arith) (is_done e) (rw let_left at E.ran))

  ----------------------------------------------------------------
  -- let pair

  module _ (kind : kind_in code t ≡ let_pair_kind) {u u' : ℕ} (qu : u ≡ first_in code t) (qu' : u' ≡ second_in code t) where
    pub letp_few : sc.n < max_variables
    letp_few = letp_space P.ready low kind qu qu'

    pub letp_there : sc.base + sc.n < slot_count
    letp_there = there

    module _ {slots₀ : List ℕ} {m₀ : Machine} (K : Marked slots slots₀ m m₀ sc) {sc₁ : Scope} (w : sc₁ ≡ wider sc) where
      abbrev first_open : Opens (scope_view slots sc) unknown (scope_view slots₀ (wider sc))
      first_open = opens P letp_few letp_there K

      more : sc.n + 1 < max_variables
      more = letp_second P.ready low kind qu qu' first_open

      pub letp_more : sc₁.n < max_variables
      letp_more = rw w more

      pub letp_prepared : Prepared 0 0 code heap slots₀ m₀ b sc₁ (sc₁.n + 1) u' (room - 1)
      unfolding max_parameters
      letp_prepared = rw w (opened P letp_few letp_there K refl (letp_body P.ready low kind qu qu' first_open) (omega (arith, P.ready.tall)))

      pub letp_node : node < m₀.top
      letp_node = rw K.machine_is low

      module _ {heap₁ slots₁ : List ℕ} {m₁ : Machine} {r : Out}
          (G : GoneUnder heap heap₁ slots₀ slots₁ m₀ m₁ sc₁ r (under_at code heap slots₀ m₀ sc₁ u' (value_at heap node) (room - 1))) where
        -- in the scope at hand
        here : GoneUnder heap heap₁ slots₀ slots₁ m m₁ (wider sc) r (under_at code heap slots₀ m (wider sc) u' (value_at heap node) (room - 1))
        here = rw (w, K.machine_is) at G

        inner_below : (j : ℕ) → j < sc.base → get_or slots j 0 ≡ get_or slots₁ j 0
        inner_below j l = marked-below P letp_few letp_there K j l ∙ here.below j l

        pub letp_stopped : {why : Refusal} → r ≡ Err why → Stepped heap₁ slots₁ m₁ r
        letp_stopped d = record {
          ran = refused_with (letp_refused P.ready low kind qu qu' first_open (under_from slots (as_many P letp_few letp_there K) here.ran)
              (omega arith) (is_stopped d)) (is_stopped d) (scope_view slots₁ sc);
          below = inner_below;
          tells = λ _ z. absurd (not_ok d z);
        }

        module _ {bs : Bindings} (e : r ≡ Ok bs) where
          letp_held : Held 2 code heap₁ slots₁ m₁ room
          letp_held = held-under P.ready.machine (as_many P letp_few letp_there K) here

          first_slot : Slot heap₁ (get_or slots₁ (sc.base + sc.n) 0) m₁.top
          first_slot = rw (← view_at slots₁ sc.base sc.n letp_few) ((here.ran.follows (is_done e)).bound.held.held sc.n newest_in)
            where
              newest_in : sc.n < sc.n + 1
              newest_in = omega arith

          pub letp_leaves : Leavable heap₁ slots₁ bs sc₁ m₁.top
          unfolding max_parameters
          letp_leaves =
              looked letp_held here e (sc.n + 1) (omega (arith, P.ready.binds.within)) (omega arith) (omega (arith, P.space, P.ready.tall)) (here.slot (is_done e))
              (ap (λ (sc : Scope). sc.base) w) (ap (λ (sc : Scope). sc.n) w)

          pub letp_leaves_first : Leavable heap₁ slots₁ bs sc m₁.top
          letp_leaves_first = looked letp_held here e sc.n P.ready.binds.within (omega arith) letp_there first_slot refl refl

          pub letp_cell : {st₁ : List ℕ} → length st₁ ≡ state_count → machine_of st₁ ≡ m₁ → CellReady heap₁ st₁ bs sc.n
          letp_cell full em = cell-ready letp_held here e full em (omega arith) sc.n (omega (arith, letp_few))

          module _ {heap₂ slots₂ : List ℕ} {m₂ : Machine} {c : Bindings} (L : LeftBehind heap₁ heap₂ slots₁ slots₂ m₁ m₂ bs sc.n c) where
            letp_run : RanUnder 1 heap heap₂ slots slots₂ m (scope_view slots₀ (wider sc)) (inner_of heap₂ r slots₂ m₂ (wider sc))
                (under_at code heap slots₀ m (wider sc) u' (value_at heap node) (room - 1))
            letp_run = under_from slots (as_many P letp_few letp_there K) (under_left letp_held here e L)

            letp_below : (j : ℕ) → j < sc.base → get_or slots j 0 ≡ get_or slots₂ j 0
            letp_below j l = inner_below j l ∙ left_below letp_held here e L j

            pub letp_outer : Prepared 1 0 code heap₂ slots₂ m₂ c sc sc.n u (room - 1)
            unfolding max_parameters
            letp_outer =
                onward P letp_run.moves letp_below (left-tells letp_held here e L (omega arith) (omega arith))
                (letp_bound P.ready low kind qu qu' first_open letp_run (omega arith) (is_done e) (view_goes heap₂ slots₂ sc.base sc.n letp_few))
                (omega (arith, P.ready.tall))

            module _ {x y : ℕ} (qx : x ≡ node_or (bound heap₁ bs sc.n)) (qy : y ≡ node_or (bound heap₁ bs sc₁.n)) where
              x_is : x ≡ node_or (found heap₂ (get_or slots₂ (sc.base + sc.n) 0))
              x_is = left-node letp_held here e L (sc.base + sc.n) first_slot
                  (in_slot letp_held here e sc.n P.ready.binds.within (omega arith) qx)

              y_is : y ≡ node_or (found heap₂ (get_or slots₂ (sc.base + (sc.n + 1)) 0))
              y_is = left-node letp_held here e L (sc.base + (sc.n + 1)) (here.slot (is_done e))
                  (in_slot letp_held here e (sc.n + 1) (omega (arith, P.ready.binds.within)) (omega arith) (rw w at qy))

              pub letp_both : (x < m₂.top) × (y < m₂.top)
              letp_both = rw (x_is, y_is)
                  (letp_nodes P.ready low kind qu qu' first_open letp_run (omega arith) (is_done e) (view_goes heap₂ slots₂ sc.base sc.n letp_few))

              pub letp_gone : {heap₃ slots₃ : List ℕ} {m₃ : Machine} {r₂ : Out}
                  → Gone 1 heap₂ heap₃ slots₂ slots₃ m₂ m₃ sc r₂ (run_at code heap₂ slots₂ m₂ sc u (pair (value_at heap₂ x) (value_at heap₂ y)) (room - 1))
                  → Stepped heap₃ slots₃ m₃ r₂
              letp_gone E =
                  gone-then letp_below E
                  (letp_done P.ready low kind qu qu' first_open letp_run (omega arith) (is_done e) (view_goes heap₂ slots₂ sc.base sc.n letp_few)
                  (rw (x_is, y_is) at E.ran))

  ----------------------------------------------------------------
  -- case

  module _ (kind : kind_in code t ≡ case_kind) (plain : (ys : List TypeEntry) → by_ancilla sc.q sc.n (tree_in code ys (first_in code t)) ≡ false) where
    pub case_few : sc.n < max_variables
    case_few = case_space P.ready low kind plain

    module _ {f : ℕ} (qf : f ≡ second_in code t) (l : Bool)
        (Y : (ys : List TypeEntry) → l ≡ may_yield (ancillae_of heap (scope_view slots sc) sc.q) (tree_in code ys f) (value_at heap node)) {u : ℕ}
        (qu : u ≡ first_in code t)
        {v : ℕ} (qv : v ≡ cond l (second_in code t) (third_in code t)) {side : ℕ} (qs : side ≡ cond l 1 2) where
      pub case_prepared : Prepared 0 0 code heap slots m b sc (sc.n + 1) v (room - 1)
      unfolding max_parameters
      case_prepared = beside P (case_branch P.ready low kind plain qf l Y qu qv qs) (omega (arith, P.ready.tall))

      module _ {heap₁ slots₁ : List ℕ} {m₁ : Machine} {r : Out}
          (G : GoneUnder heap heap₁ slots slots₁ m m₁ sc r (under_at code heap slots m sc v (value_at heap node) (room - 1))) where
        pub case_stopped : {why : Refusal} → r ≡ Err why → Stepped heap₁ slots₁ m₁ r
        case_stopped d = stops-under G d (case_refused P.ready low kind plain qf l Y qu qv qs G.ran (omega arith) (is_stopped d))

        module _ {bs : Bindings} (e : r ≡ Ok bs) where
          case_held : Held 2 code heap₁ slots₁ m₁ room
          case_held = held-under P.ready.machine refl G

          pub case_leaves : Leavable heap₁ slots₁ bs sc m₁.top
          case_leaves = looked case_held G e sc.n P.ready.binds.within (omega arith) there (G.slot (is_done e)) refl refl

          pub case_cell : {st₁ : List ℕ} → length st₁ ≡ state_count → machine_of st₁ ≡ m₁ → CellReady heap₁ st₁ bs sc.n
          case_cell full em = cell-ready case_held G e full em (omega arith) sc.n (omega (arith, case_few))

          module _ {heap₂ slots₂ : List ℕ} {m₂ : Machine} {c : Bindings} (K : LeftBehind heap₁ heap₂ slots₁ slots₂ m₁ m₂ bs sc.n c) where
            abbrev case_run : RanUnder 1 heap heap₂ slots slots₂ m (scope_view slots sc) (inner_of heap₂ r slots₂ m₂ sc)
                (under_at code heap slots m sc v (value_at heap node) (room - 1))
            case_run = under_left case_held G e K

            case_below : (j : ℕ) → j < sc.base → get_or slots j 0 ≡ get_or slots₂ j 0
            case_below j l = G.below j l ∙ left_below case_held G e K j

            pub case_outer : Prepared 1 0 code heap₂ slots₂ m₂ c sc sc.n u (room - 1)
            unfolding max_parameters
            case_outer =
                onward P case_run.moves case_below (left-tells case_held G e K (omega arith) (omega arith))
                (case_sum P.ready low kind plain qf l Y qu qv qs case_run (omega arith) (is_done e)) (omega (arith, P.ready.tall))

            module _ {x : ℕ} (qx : x ≡ node_or (bound heap₁ bs sc.n)) where
              case_left : x ≡ node_or (found heap₂ (get_or slots₂ (sc.base + sc.n) 0))
              case_left = left-node case_held G e K (sc.base + sc.n) (G.slot (is_done e)) (in_slot case_held G e sc.n P.ready.binds.within (omega arith) qx)

              pub case_node : x < m₂.top
              case_node = rw case_left (case_run.there (is_done e))

              pub case_gone : {heap₃ slots₃ : List ℕ} {m₃ : Machine} {r₂ : Out}
                  → Gone 1 heap₂ heap₃ slots₂ slots₃ m₂ m₃ sc r₂ (run_at code heap₂ slots₂ m₂ sc u (of_kind side (value_at heap₂ x) (value_at heap₂ x)) (room - 1))
                  → Stepped heap₃ slots₃ m₃ r₂
              case_gone E = gone-then case_below E
                  (case_done P.ready low kind plain qf l Y qu qv qs case_run (omega arith) (is_done e) (rw case_left at E.ran))

----------------------------------------------------------------
-- By the numbers that a run is lent: the bodies of let and let pair, and a branch, each in its scope

module _ {code heap st : List ℕ} {b : Bindings} {scope t room : ℕ} (Q : PreparedIn 2 1 code heap st b scope t room) {node : ℕ}
    (low : node < (machine_of st).top) {u u' : ℕ} (qu : u ≡ first_in code t) (qu' : u' ≡ second_in code t) where
  module _ (kind : kind_in code t ≡ let_kind) where
    abbrev let_inner : PreparedUnder code heap st b scope u' (room - 1)
    let_inner = record { full = Q.full; prepared = let_prepared Q.prepared low kind qu qu' }

    abbrev let_fits : (scope_in scope).n < max_variables
    let_fits = let_few Q.prepared low kind qu qu'

    pub let_widens : WidenReady st scope
    let_widens = widen-ready let_inner let_fits

    module _ {st₁ : List ℕ} {wide : ℕ} (W : Widened st st₁ scope wide) where
      pub let_widened : PreparedIn 0 0 code heap st₁ b wide u' (room - 1) × (node < (machine_of st₁).top)
      let_widened = (widened let_inner let_fits W, widened-node let_inner let_fits W low)

      pub let_ran : {heap' st' : List ℕ} {r : Out} → RunsBack code heap heap' st₁ st' b wide u' node (room - 1) r
          → RunsUnder code heap heap' st st' scope u' node (room - 1) r
      let_ran R = ran-under let_inner let_fits W low R

  module _ (kind : kind_in code t ≡ let_pair_kind) where
    -- the scope with the first of the two
    pub letp_ready : WidenReady st scope
    letp_ready = record { full = Q.full; there = letp_there Q.prepared low kind qu qu'; few = letp_few Q.prepared low kind qu qu' }

    module _ {st₁ : List ℕ} {one : ℕ} (W : Widened st st₁ scope one) where
      abbrev letp_inner : PreparedUnder code heap st₁ b one u' (room - 1)
      letp_inner = record { full = W.lengths ∙ Q.full; prepared = letp_prepared Q.prepared low kind qu qu' (marked W) W.scope_is }

      abbrev letp_fits : (scope_in one).n < max_variables
      letp_fits = letp_more Q.prepared low kind qu qu' (marked W) W.scope_is

      pub letp_widens : WidenReady st₁ one
      letp_widens = widen-ready letp_inner letp_fits

      module _ {st₂ : List ℕ} {both : ℕ} (W₂ : Widened st₁ st₂ one both) where
        abbrev letp_low : node < (machine_of st₁).top
        letp_low = letp_node Q.prepared low kind qu qu' (marked W) W.scope_is

        pub letp_widened : PreparedIn 0 0 code heap st₂ b both u' (room - 1) × (node < (machine_of st₂).top)
        letp_widened = (widened letp_inner letp_fits W₂, widened-node letp_inner letp_fits W₂ letp_low)

        pub letp_ran : {heap' st' : List ℕ} {r : Out} → RunsBack code heap heap' st₂ st' b both u' node (room - 1) r
            → RunsUnder code heap heap' st₁ st' one u' node (room - 1) r
        letp_ran R = ran-under letp_inner letp_fits W₂ letp_low R

module _ {code heap st : List ℕ} {b : Bindings} {scope t room : ℕ} (Q : PreparedIn 2 1 code heap st b scope t room) {node : ℕ}
    (low : node < (machine_of st).top) (T : CaseThat false code scope t) {f : ℕ} (qf : f ≡ second_in code t) (l : Bool)
    (Y : (ys : List TypeEntry)
    → l ≡ may_yield (ancillae_of heap (scope_view (slots_of st) (scope_in scope)) (scope_in scope).q) (tree_in code ys f) (value_at heap node))
    {u : ℕ} (qu : u ≡ first_in code t) {v : ℕ} (qv : v ≡ cond l (second_in code t) (third_in code t)) {side : ℕ} (qs : side ≡ cond l 1 2) where
  abbrev case_inner : PreparedUnder code heap st b scope v (room - 1)
  case_inner = record { full = Q.full; prepared = case_prepared Q.prepared low T.kind T.chooses qf l Y qu qv qs }

  abbrev case_fits : (scope_in scope).n < max_variables
  case_fits = case_few Q.prepared low T.kind T.chooses

  pub case_widens : WidenReady st scope
  case_widens = widen-ready case_inner case_fits

  module _ {st₁ : List ℕ} {wide : ℕ} (W : Widened st st₁ scope wide) where
    pub case_widened : PreparedIn 0 0 code heap st₁ b wide v (room - 1) × (node < (machine_of st₁).top)
    case_widened = (widened case_inner case_fits W, widened-node case_inner case_fits W low)

    pub case_ran : {heap' st' : List ℕ} {r : Out} → RunsBack code heap heap' st₁ st' b wide v node (room - 1) r
        → RunsUnder code heap heap' st st' scope v node (room - 1) r
    case_ran R = ran-under case_inner case_fits W low R

-- whether case `t` chooses by an ancilla, by the numbers that the code has
pub case_that : {code : List ℕ} {scope t : ℕ} → kind_in code t ≡ case_kind → {q n : ℕ} → q ≡ (scope_in scope).q → n ≡ (scope_in scope).n → {r : Bool}
    → ((ys : List TypeEntry) → r ≡ by_ancilla q n (tree_in code ys (first_in code t))) → {c : Bool} → r ≡ c → CaseThat c code scope t
case_that {code} {t = t} kind qq qn E e = record {
  kind = kind;
  chooses = λ ys. sym (ap₂ (λ q n. by_ancilla q n (tree_in code ys (first_in code t))) qq qn) ∙ sym (E ys) ∙ e;
}

-- the left branch's form can be asked
pub case_asked : {code heap st : List ℕ} {b : Bindings} {scope t room : ℕ} → PreparedIn 2 1 code heap st b scope t room → {node : ℕ}
    → node < (machine_of st).top → kind_in code t ≡ case_kind
    → {f : ℕ} → f ≡ second_in code t → Asks code heap st scope f node
case_asked {st = st} {scope = scope} {t = t} Q low kind q =
    let P = Q.prepared in
    record {
      rows = P.ready.machine.rows;
      term = rw q (omega (arith, P.ready.term, (parts_case P.ready.machine.rows t P.ready.term kind).1));
      graph = P.ready.machine.graph.right;
      value = low;
      small = small_top P.ready.machine;
      ancillae = record {
        there = omega (arith, P.ready.binds.within, P.space);
        known = λ i l. rw (← view_at (slots_of st) (scope_in scope).base i (omega (arith, few-ancillae P))) (P.ready.binds.ancillae i l);
      };
    }
