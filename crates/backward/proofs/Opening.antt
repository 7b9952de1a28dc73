-- A scope with one variable more, in code: the slot is marked and the term is run.
use Prim.Native.Nat.{ℕ, ◌+◌, ◌*◌, ◌≤◌, ◌<◌}
use native.Mathlib.Omega.{arith}
use mathlib.Core.Path.{◌≡◌, refl, sym, ◌∙◌}
use mathlib.Core.List.{List}
use lib.ListN.{length, get_or, set, length-set}
use lib.Seq.{get_or-set_other}
use package.Rattle.rules.specs.Limits.{max_variables}
use package.Rattle.rules.specs.Run.{Res}
use package.Rattle.rules.specs.Machine.{State}
use package.Rattle.calls.specs.Entries.{TypeEntry}
use package.Rattle.valuegraph.specs.Nodes.{value_at}
use package.Rattle.valuegraph.proofs.Places.{agree_refl}
use package.Rattle.scopes.specs.Slots.{unknown, slot_count, Machine, Scope, machine_of, scope_in, slots_of, found, node_or, slots_per_height}
use package.Rattle.scopes.specs.Bindings.{Opens}
use package.Rattle.scopes.specs.declared.bindings.Bindings.{Bindings}
use package.Rattle.scopes.proofs.Views.{view_at, view_full, view_opens, tells-opened}
use package.Rattle.forward.proofs.Binds.{opened as wider}
use package.Rattle.backward.specs.Outcomes.{outcome_of, scope_view}
use package.Rattle.backward.specs.Ready.{Ready, RanBackward, Prepared, Gone, GoneUnder, run_at, under_at}
use package.Rattle.backward.specs.Ready.{PreparedIn, PreparedUnder, RunsBack, RunsUnder, WidenReady, Widened}
use package.Rattle.backward.proofs.Runs.{held_later, held-slots, small_top, says, ran_from}
use package.Rattle.backward.proofs.Stops.{is_done, is_stopped, by_outcome}
use package.Rattle.backward.proofs.Frames.{older_later}
use package.Rattle.backward.proofs.Leaves.{view_goes}
use package.Rattle.backward.proofs.Entering.{leaves-stopped, leaves_done, inner-ready, inner-run}
use package.Rattle.backward.specs.Outcomes.{Out}

----------------------------------------------------------------
-- The slot is marked

-- the slot behind a scope is marked, and the machine is as it was
pub record Marked (slots slots₀ : List ℕ) (m m₀ : Machine) (sc : Scope) : Type 0 where
  pub slots_are : slots₀ ≡ set slots (sc.base + sc.n) unknown
  pub machine_is : m₀ ≡ m

pub marked : {st st₁ : List ℕ} {scope wide : ℕ} → Widened st st₁ scope wide
    → Marked (slots_of st) (slots_of st₁) (machine_of st) (machine_of st₁) (scope_in scope)
marked W = record { slots_are = W.slots; machine_is = W.machine }

module _ {k h : ℕ} {code heap slots : List ℕ} {m : Machine} {b : Bindings} {sc : Scope} {s t room : ℕ} (P : Prepared k h code heap slots m b sc s t room)
    (few : sc.n < max_variables) (there : sc.base + sc.n < slot_count) {slots₀ : List ℕ} {m₀ : Machine} (K : Marked slots slots₀ m m₀ sc) where
  inside : sc.base + sc.n < length slots
  inside = omega (arith, P.ready.machine.all)

  pub as_many : length slots ≡ length slots₀
  as_many = rw K.slots_are (sym (length-set slots (sc.base + sc.n) unknown))

  pub marked-below : (j : ℕ) → j < sc.base → get_or slots j 0 ≡ get_or slots₀ j 0
  marked-below j l = rw K.slots_are (sym (get_or-set_other slots (sc.base + sc.n) j unknown 0 (λ z. omega arith)))

  pub opens : Opens (scope_view slots sc) unknown (scope_view slots₀ (wider sc))
  opens = rw K.slots_are (view_opens slots sc.base sc.n unknown few inside)

  -- a term in the scope with the variable
  pub opened : {sc₁ : Scope} → sc₁ ≡ wider sc → {k' h' s' u room' : ℕ} → Ready k' h' code heap slots m (scope_view slots₀ (wider sc)) sc.q s' u room'
      → s' + slots_per_height * room' ≤ s + slots_per_height * room
      → Prepared k' h' code heap slots₀ m₀ b sc₁ s' u room'
  opened w rd le = rw (w, K.machine_is) (record {
    ready = record { machine = held-slots rd.machine as_many; binds = rd.binds; term = rd.term; scoped = rd.scoped; tall = rd.tall };
    tells = rw K.slots_are (tells-opened P.tells inside);
    older = older_later _ P.older marked-below (agree_refl _ heap) (omega arith);
    space = omega (arith, P.space);
  })

-- A run in the scope with one variable more, whatever its slot holds, which is there to leave the scope.
module _ {heap slots slots₀ : List ℕ} {m : Machine} {sc : Scope} {x : ℕ} (few : sc.n < max_variables)
    (O : Opens (scope_view slots sc) x (scope_view slots₀ (wider sc))) (lengths : length slots ≡ length slots₀)
    (same : (j : ℕ) → j < sc.base → get_or slots j 0 ≡ get_or slots₀ j 0) where
  pub under-opened : {heap₁ slots₁ : List ℕ} {m₁ : Machine} {r : Out} {res : List TypeEntry → Res State} → m₁.top ≤ unknown
      → Gone 0 heap heap₁ slots₀ slots₁ m m₁ (wider sc) r res → GoneUnder heap heap₁ slots slots₁ m m₁ sc r res
  under-opened {heap₁} {slots₁} {m₁} {r} {res} small G = record {
    ran = by_outcome r
        (λ bs d. leaves_done O (view_full slots sc.base) from_here (is_done d) small (view_goes heap₁ slots₁ sc.base sc.n few))
        (λ why d. leaves-stopped O (view_full slots sc.base) from_here (is_stopped d)
        (record { newest = node_or (found heap₁ (get_or slots₁ (sc.base + sc.n) 0)); state = scope_view slots₁ sc }));
    slot = λ e. rw (← view_at slots₁ sc.base sc.n few) ((G.ran.follows e).bound.held.held sc.n newest_in);
    below = λ j l. same j l ∙ G.below j l;
    tells = G.tells;
  }
    where
      from_here : RanBackward 0 heap heap₁ slots slots₁ m (scope_view slots₀ (wider sc)) (outcome_of r slots₁ m₁ (wider sc)) res
      from_here = ran_from slots lengths G.ran

      newest_in : sc.n < sc.n + 1
      newest_in = omega arith

module _ {code heap slots : List ℕ} {m : Machine} {b : Bindings} {sc : Scope} {t room : ℕ} (P : Prepared 0 0 code heap slots m b sc (sc.n + 1) t room)
    (few : sc.n < max_variables) where
  pub under-there : sc.base + sc.n < slot_count
  under-there = omega (arith, P.space)

  module _ {slots₀ : List ℕ} {m₀ : Machine} (K : Marked slots slots₀ m m₀ sc) {sc₁ : Scope} (w : sc₁ ≡ wider sc) where
    pub under-prepared : Prepared 0 0 code heap slots₀ m₀ b sc₁ sc₁.n t room
    under-prepared = rw w (opened P few under-there K refl (inner-ready P.ready few (opens P few under-there K)) (omega arith))

    pub under-node : {node : ℕ} → node < m.top → node < m₀.top
    under-node low = rw K.machine_is low

    pub under-gone : {node : ℕ} → node < m.top → {heap₁ slots₁ : List ℕ} {m₁ : Machine} {r : Out}
        → Gone 0 heap heap₁ slots₀ slots₁ m₀ m₁ sc₁ r (run_at code heap slots₀ m₀ sc₁ t (value_at heap node) room)
        → GoneUnder heap heap₁ slots slots₁ m m₁ sc r (under_at code heap slots m sc t (value_at heap node) room)
    under-gone {node} low {heap₁} {slots₁} {m₁} {r} G = from (rw (w, K.machine_is) at G)
      where
        from : Gone 0 heap heap₁ slots₀ slots₁ m m₁ (wider sc) r (run_at code heap slots₀ m (wider sc) t (value_at heap node) room)
            → GoneUnder heap heap₁ slots slots₁ m m₁ sc r (under_at code heap slots m sc t (value_at heap node) room)
        from G = under-opened few (opens P few under-there K) (as_many P few under-there K) (marked-below P few under-there K)
            (small_top (held_later (held-slots P.ready.machine (as_many P few under-there K)) 0 (omega arith) G.ran.moves))
            (record {
              ran = says G.ran (inner-run P.ready few (opens P few under-there K) (value_at heap node));
              below = G.below;
              tells = G.tells;
            })

----------------------------------------------------------------
-- By the numbers that a run is lent

module _ {code heap st : List ℕ} {b : Bindings} {scope t room : ℕ} (Q : PreparedUnder code heap st b scope t room) (few : (scope_in scope).n < max_variables) where
  pub widen-ready : WidenReady st scope
  widen-ready = record { full = Q.full; there = under-there Q.prepared few; few = few }

  module _ {st₁ : List ℕ} {wide : ℕ} (W : Widened st st₁ scope wide) where
    pub widened : PreparedIn 0 0 code heap st₁ b wide t room
    widened = record { full = W.lengths ∙ Q.full; prepared = under-prepared Q.prepared few (marked W) W.scope_is }

    pub widened-node : {node : ℕ} → node < (machine_of st).top → node < (machine_of st₁).top
    widened-node low = under-node Q.prepared few (marked W) W.scope_is low

    pub ran-under : {node : ℕ} → node < (machine_of st).top → {heap' st' : List ℕ} {r : Out} → RunsBack code heap heap' st₁ st' b wide t node room r
        → RunsUnder code heap heap' st st' scope t node room r
    ran-under low R = record {
      lengths = R.lengths ∙ W.lengths;
      gone = under-gone Q.prepared few (marked W) W.scope_is low R.gone;
    }
