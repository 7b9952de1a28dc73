-- A call in code: its ancilla values stand behind the scope, where the function that is called has its own; then the scope is as it was.
use Prim.Native.Nat.{ℕ, ◌+◌, ◌-◌, ◌≤◌, ◌<◌}
use native.Mathlib.Omega.{arith}
use mathlib.Core.Path.{◌≡◌, refl, ap, ◌∙◌}
use mathlib.Core.List.{List}
use lib.ListN.{length, get_or}
use package.Rattle.rules.specs.Limits.{max_variables, max_parameters}
use package.Rattle.decoded.specs.Rows.{argument_in, body_in, first_in}
use package.Rattle.valuegraph.specs.Nodes.{value_at, Agree}
use package.Rattle.valuegraph.proofs.Places.{agree_trans, agree-down}
use package.Rattle.scopes.specs.Slots.{slot_count, Machine, Scope, machine_of, slots_of, scope_in, found, node_or}
use package.Rattle.scopes.specs.Bindings.{state_of, bound}
use package.Rattle.scopes.specs.declared.bindings.Bindings.{Bindings}
use package.Rattle.scopes.proofs.Views.{tells_first}
use package.Rattle.forward.specs.Ready.{Calls}
use package.Rattle.forward.proofs.Placing.{few-count}
use package.Rattle.backward.specs.Outcomes.{scope_view}
use package.Rattle.backward.specs.Ready.{Held, Follows, Prepared, PreparedIn, PreparedUnder, Gone, GoneUnder, Leavable, run_at, step_at, under_at}
use package.Rattle.backward.specs.Ready.{RunsBack, RunsUnder, WidenReady, Widened}
use package.Rattle.backward.specs.Calls.{Gathers}
use package.Rattle.backward.proofs.Runs.{refused_with, held_later}
use package.Rattle.backward.proofs.Opening.{widen-ready, widened, widened-node, ran-under}
use package.Rattle.backward.proofs.Leaving.{held-under, looked, in_slot}
use package.Rattle.backward.proofs.Stops.{is_done, is_stopped}
use package.Rattle.backward.proofs.Frames.{older_later, tells_stay, follows_stay, state-stays}
use package.Rattle.backward.proofs.Gathering.{scope-ready, arguments_done, callee}
use package.Rattle.backward.proofs.Calling.{call-refused, call-body, call-space, call-node, call-refused_2, call-dynamic, call_done}
use Rattle.std.specs.Prelude.{Result, Ok, Err}
use package.Rattle.backward.specs.Outcomes.{Out}
use Rattle.backward.specs.declared.outcomes.Refusal.{Refusal}
use package.Rattle.backward.proofs.Stops.{not_ok}
use package.Rattle.backward.specs.Ready.{RanBackward}
use mathlib.Core.Path.{subst}

module _ {code heap slots : List ℕ} {m : Machine} {b : Bindings} {sc : Scope} {t room : ℕ}
    (P : Prepared 2 1 code heap slots m b sc sc.n t room) {node : ℕ} (low : node < m.top)
    {k : ℕ} (C : Calls code t 0 k) {heap₁ slots₁ : List ℕ} {m₁ : Machine} {stop : Result (Unit {0}) Refusal} (D : Gathers code heap heap₁ slots slots₁ m sc t room 0 k stop m₁) where
  abbrev Stepped : List ℕ → List ℕ → Machine → Out → Type 0
  Stepped heap' slots' m' r = Gone 2 heap heap' slots slots' m m' sc r (step_at code heap slots m sc t (value_at heap node) room)

  -- the ancilla terms were refused
  pub called-refused : {why : Refusal} → stop ≡ Err why → Stepped heap₁ slots₁ m₁ (Err why)
  called-refused d = record {
    ran = subst (λ s. RanBackward 2 heap heap₁ slots slots₁ m (scope_view slots sc) (record { status = s; state = m₁; bindings = scope_view slots₁ sc })
        (step_at code heap slots m sc t (value_at heap node) room))
        (is_stopped d) (refused_with (call-refused P.ready low C (arguments_done P C D) (is_stopped d)) (is_stopped d) (scope_view slots₁ sc));
    below = λ j l. D.below j (omega arith);
    tells = λ _ e. cc;
  }

  module _ {done : Unit {0}} (e : stop ≡ Ok done) {g u : ℕ} (qg : g ≡ first_in code t) (qu : u ≡ body_in code g) where
    pub called-space : k < max_variables
    called-space = call-space P.ready low C (arguments_done P C D) (is_done e) qg qu

    there : sc.base + sc.n + k < slot_count
    unfolding max_parameters
    there = omega (arith, P.space, P.ready.tall, few-count (scope-ready P) C)

    pub called-node : node < m₁.top
    called-node = call-node P.ready low C (arguments_done P C D) (is_done e) qg qu

    -- the scope of the function
    module _ {end : ℕ} (qe : end ≡ sc.base + sc.n) {sc₁ : Scope} (ws : sc₁ ≡ record { base = end; q = k; n = k }) where
      w : sc₁ ≡ record { base = sc.base + sc.n; q = k; n = k }
      w = rw qe at ws

      -- the body, with the arguments known
      pub called-prepared : {args : Bindings} → args.head ≡ 0 → Prepared 0 0 code heap₁ slots₁ m₁ args sc₁ (sc₁.n + 1) u (room - 1)
      unfolding max_parameters
      called-prepared none_bound = rw w (record {
        ready = call-body P.ready low C (arguments_done P C D) (is_done e) qg qu;
        tells = tells_first heap₁ slots₁ (sc.base + sc.n) k m₁.top none_bound (omega (arith, P.ready.machine.graph.some, D.moves.grows));
        older = older_later m₁.top (scope-ready P).held D.below D.moves.agree D.moves.grows;
        space = omega (arith, P.space, P.ready.tall, few-count (scope-ready P) C);
      })

      pub called-few : sc₁.n < max_variables
      called-few = rw w called-space

      module _ {heap₂ slots₂ : List ℕ} {m₂ : Machine} {r : Out}
          (G : GoneUnder heap₁ heap₂ slots₁ slots₂ m₁ m₂ sc₁ r (under_at code heap₁ slots₁ m₁ sc₁ u (value_at heap₁ node) (room - 1))) where
        here : GoneUnder heap₁ heap₂ slots₁ slots₂ m₁ m₂ (callee P C D) r (under_at code heap₁ slots₁ m₁ (callee P C D) u (value_at heap₁ node) (room - 1))
        here = rw w at G

        -- the caller's scope is as it was
        scope-stays : (j : ℕ) → j < sc.base + sc.n → get_or slots j 0 ≡ get_or slots₂ j 0
        scope-stays j l = D.below j l ∙ here.below j l

        pub called_stops : {why : Refusal} → r ≡ Err why → Stepped heap₂ slots₂ m₂ r
        called_stops d = record {
          ran = refused_with (call-refused_2 P.ready low C (arguments_done P C D) (is_done e) qg qu here.ran (is_stopped d)) (is_stopped d)
              (scope_view slots₂ sc);
          below = λ j l. scope-stays j (omega arith);
          tells = λ _ z. absurd (not_ok d z);
        }

        module _ {bs : Bindings} (d : r ≡ Ok bs) where
          H : Held 2 code heap₂ slots₂ m₂ room
          H = held-under (held_later P.ready.machine 2 (omega arith) D.moves) refl here

          pub called-leaves : Leavable heap₂ slots₂ bs sc₁ m₂.top
          called-leaves = looked H here d k (omega arith) (omega arith) there (here.slot (is_done d))
              (ap (λ (sc : Scope). sc.base) w) (ap (λ (sc : Scope). sc.n) w)

          agree : Agree m.top heap heap₂
          agree = agree_trans D.moves.agree (agree-down m.top D.moves.grows here.ran.moves.agree)

          grows : m.top ≤ m₂.top
          grows = omega (arith, D.moves.grows, here.ran.moves.grows)

          follows : Follows heap₂ (scope_view slots sc) (scope_view slots₂ sc) m₂.top
          follows = follows_stay slots slots₂ sc.base sc.n scope-stays P.ready.binds.bound m₂.top agree grows

          same : state_of heap₂ (scope_view slots sc) ≡ state_of heap₂ (scope_view slots₂ sc)
          same = state-stays slots slots₂ sc.base sc.n scope-stays P.ready.binds.bound heap₂

          module _ {v : ℕ} (qv : v ≡ argument_in code t k) where
            -- the dynamic term
            pub called-dynamic : Prepared 0 0 code heap₂ slots₂ m₂ b sc sc.n v (room - 1)
            unfolding max_parameters
            called-dynamic = record {
              ready = call-dynamic P.ready low C (arguments_done P C D) (is_done e) qg qu here.ran follows same qv;
              tells = tells_stay slots slots₂ sc.base sc.n scope-stays m₂.top P.tells agree grows;
              older = older_later m₂.top P.older (λ j l. scope-stays j (omega arith)) agree grows;
              space = omega (arith, P.space);
            }

            module _ {x : ℕ} (qx : x ≡ node_or (bound heap₂ bs sc₁.n)) where
              input_is : x ≡ node_or (found heap₂ (get_or slots₂ (sc.base + sc.n + k) 0))
              input_is = in_slot H here d k (omega arith) (omega arith) (rw w at qx)

              pub called_input : x < m₂.top
              called_input = rw input_is (here.ran.there (is_done d))

              pub called_done : {heap₃ slots₃ : List ℕ} {m₃ : Machine} {r₂ : Out}
                  → Gone 0 heap₂ heap₃ slots₂ slots₃ m₂ m₃ sc r₂ (run_at code heap₂ slots₂ m₂ sc v (value_at heap₂ x) (room - 1))
                  → Stepped heap₃ slots₃ m₃ r₂
              called_done E = record {
                ran = call_done P.ready low C (arguments_done P C D) (is_done e) qg qu here.ran follows same qv (is_done d) (rw input_is at E.ran);
                below = λ j l. scope-stays j (omega arith) ∙ E.below j l;
                tells = E.tells;
              }

----------------------------------------------------------------
-- By the numbers that a run is lent: the body of the function

module _ {code heap st : List ℕ} {b : Bindings} {scope t room : ℕ} (Q : PreparedIn 2 1 code heap st b scope t room) {node : ℕ}
    (low : node < (machine_of st).top) {k : ℕ} (C : Calls code t 0 k) {heap₁ st₁ : List ℕ} {stop : Result (Unit {0}) Refusal}
    (D : Gathers code heap heap₁ (slots_of st) (slots_of st₁) (machine_of st) (scope_in scope) t room 0 k stop (machine_of st₁))
    {done : Unit {0}} (e : stop ≡ Ok done) {g u : ℕ} (qg : g ≡ first_in code t) (qu : u ≡ body_in code g) {end : ℕ} (qe : end ≡ (scope_in scope).base + (scope_in scope).n)
    {callee : ℕ} (w : scope_in callee ≡ record { base = end; q = k; n = k }) (l : length st₁ ≡ length st) {args : Bindings} (none_bound : args.head ≡ 0) where
  abbrev called-inner : PreparedUnder code heap₁ st₁ args callee u (room - 1)
  called-inner = record { full = l ∙ Q.full; prepared = called-prepared Q.prepared low C D e qg qu qe w none_bound }

  pub called_widens : WidenReady st₁ callee
  called_widens = widen-ready called-inner (called-few Q.prepared low C D e qg qu qe w)

  module _ {st₂ : List ℕ} {wide : ℕ} (W : Widened st₁ st₂ callee wide) where
    pub called-widened : PreparedIn 0 0 code heap₁ st₂ args wide u (room - 1) × (node < (machine_of st₂).top)
    called-widened =
        let few = called-few Q.prepared low C D e qg qu qe w in
        (widened called-inner few W, widened-node called-inner few W (called-node Q.prepared low C D e qg qu))

    pub called-ran : {heap' st' : List ℕ} {r : Out} → RunsBack code heap₁ heap' st₂ st' args wide u node (room - 1) r
        → RunsUnder code heap₁ heap' st₁ st' callee u node (room - 1) r
    called-ran R = ran-under called-inner (called-few Q.prepared low C D e qg qu qe w) W (called-node Q.prepared low C D e qg qu) R
