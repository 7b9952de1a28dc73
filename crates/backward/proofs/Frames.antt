-- From the code's slots and state to views: a scope that stays, what is prepared beside it and after a run, and runs one after another.
use Prim.Native.Nat.{ℕ, zero, suc, ◌+◌, ◌*◌, ◌≤◌, ◌<◌}
use native.Mathlib.Omega.{arith}
use mathlib.Core.Path.{◌≡◌, refl, sym, ap, ap₂, ◌∙◌}
use mathlib.Core.Bool.{Bool}
use mathlib.Core.List.{List, ◌∷◌}
use lib.ListN.{length, get_or}
use package.Rattle.rules.specs.Limits.{fits, max_variables, max_terms}
use package.Rattle.rules.specs.Run.{Res, ok}
use package.Rattle.rules.specs.Machine.{State, backward}
use package.Rattle.rules.specs.Yield.{may_yield}
use package.Rattle.calls.specs.Entries.{TypeEntry}
use package.Rattle.decoded.specs.Rows.{tree_in, program_in}
use package.Rattle.valuegraph.specs.Nodes.{value_at, Agree}
use package.Rattle.scopes.specs.Slots.{Slots, Machine, Scope, machine_of, scope_in, slots_of, slots_per_height}
use package.Rattle.scopes.specs.Bindings.{slots_from, view_of, state_of, Bound, Tells}
use package.Rattle.scopes.specs.declared.bindings.Bindings.{Bindings}
use package.Rattle.scopes.proofs.Marks.{slot_later}
use package.Rattle.scopes.proofs.Scopes.{state_same}
use package.Rattle.scopes.proofs.Views.{view_at, view_bound, view_state, view_told, tells_later}
use package.Rattle.yields.specs.Yields.{ancillae_at, MayYield}
use package.Rattle.backward.specs.Outcomes.{Refused, outcome_of, status_of, scope_view, meaning, told_of}
use package.Rattle.backward.specs.Ready.{Ready, Follows, Moves, RanBackward, Prepared, Gone, GoneUnder, PreparedIn, GoneIn, RunsBack, ancillae_of, run_at}
use package.Rattle.backward.proofs.Runs.{meaning_done, meaning-refused, not_done}
use package.Rattle.backward.proofs.Stops.{is_done, not_ok}
use Rattle.backward.specs.declared.outcomes.Refusal.{Refusal}
use Rattle.std.specs.Prelude.{Ok, Err}
use package.Rattle.backward.specs.Outcomes.{Out}

----------------------------------------------------------------
-- Ancillae

pub view_ancillae : (heap slots : List ℕ) (base q : ℕ) → q ≤ max_variables → ancillae_at heap (slots_from slots base max_variables) 0 q ≡ ancillae_at heap slots base q
unfolding ancillae_at
view_ancillae heap slots base zero l = refl
view_ancillae heap slots base (suc q) l =
    ap₂ ◌∷◌ (ap (value_at heap) (ap (λ j. get_or (slots_from slots base max_variables) j 0) (let z : 0 + q ≡ q = omega arith in z) ∙ view_at slots base q (omega arith)))
    (view_ancillae heap slots base q (omega arith))

-- as the code's slots have it
pub view_yields : {code heap st : List ℕ} {scope t node : ℕ} {r : Bool} → MayYield code heap st scope t node r → (scope_in scope).q ≤ max_variables
    → (ys : List TypeEntry) → r ≡ may_yield (ancillae_of heap (scope_view (slots_of st) (scope_in scope)) (scope_in scope).q) (tree_in code ys t) (value_at heap node)
view_yields {code} {heap} {st} {scope} {t} {node} M few ys =
    M.answer ys ∙ ap (λ ρ. may_yield ρ (tree_in code ys t) (value_at heap node))
    (sym (view_ancillae heap (slots_of st) (scope_in scope).base (scope_in scope).q few))

----------------------------------------------------------------
-- A scope that stays

-- callers' scopes, of which the slots are as they were
pub older_later : {heap heap' slots slots' : List ℕ} {base top : ℕ} (top' : ℕ) → Slots heap slots base top
    → ((j : ℕ) → j < base → get_or slots j 0 ≡ get_or slots' j 0) → Agree top heap heap' → top ≤ top' → Slots heap' slots' base top'
older_later top' S same A le = record { held = λ j l. rw (← same j l) (slot_later A top' le (S.held j l)) }

module _ (slots slots' : List ℕ) (base n : ℕ) (same : (j : ℕ) → j < base + n → get_or slots j 0 ≡ get_or slots' j 0) where
  pub tells_stay : {heap heap' : List ℕ} {b : Bindings} {q top : ℕ} (top' : ℕ) → Tells heap slots b base q n top → Agree top heap heap' → top ≤ top'
      → Tells heap' slots' b base q n top'
  tells_stay top' T A le = tells_later slots' top' T A le (λ i l. same (base + i) (omega arith))

  module _ {heap : List ℕ} {top : ℕ} (B : Bound heap (view_of slots base n) top) where
    in_view : (i : ℕ) → i < n → get_or (slots_from slots' base max_variables) i 0 ≡ get_or (slots_from slots base max_variables) i 0
    in_view i l =
        view_at slots' base i (omega (arith, B.few)) ∙ sym (same (base + i) (omega arith)) ∙ sym (view_at slots base i (omega (arith, B.few)))

    pub follows_stay : {heap' : List ℕ} (top' : ℕ) → Agree top heap heap' → top ≤ top' → Follows heap' (view_of slots base n) (view_of slots' base n) top'
    follows_stay {heap'} top' A le = record {
      bound = view_bound heap' slots' base n top' B.few (λ i l.
          rw (← same (base + i) (omega arith), ← view_at slots base i (omega (arith, B.few)))
          (slot_later A top' le (B.held.held i l)));
      len = refl;
      kept = λ i l d. in_view i l;
    }

    pub state-stays : (heap : List ℕ) → state_of heap (view_of slots base n) ≡ state_of heap (view_of slots' base n)
    state-stays heap =
        view_state heap slots base n B.few ∙ state_same heap slots slots' base n same ∙ sym (view_state heap slots' base n B.few)

----------------------------------------------------------------
-- What is prepared

module _ {k h : ℕ} {code heap slots : List ℕ} {m : Machine} {b : Bindings} {sc : Scope} {s t room : ℕ} (P : Prepared k h code heap slots m b sc s t room) where
  -- a row is one of the table's
  pub row-there : t < max_terms
  row-there = omega (arith, P.ready.term, P.ready.machine.rows.few_terms)

  -- the ancilla parameters are among the variables that a state holds
  pub few-ancillae : sc.q ≤ max_variables
  few-ancillae = omega (arith, P.ready.binds.within, P.ready.binds.bound.few)

  -- another term in the same scope
  pub beside : {k' h' s' u room' : ℕ} → Ready k' h' code heap slots m (scope_view slots sc) sc.q s' u room' → s' + slots_per_height * room' ≤ s + slots_per_height * room
      → Prepared k' h' code heap slots m b sc s' u room'
  beside rd le = record { ready = rd; tells = P.tells; older = P.older; space = omega (arith, P.space) }

  -- and after a run
  pub onward : {j k' h' s' u room' : ℕ} {heap' slots' : List ℕ} {m' : Machine} {b' : Bindings} → Moves j heap heap' slots slots' m m'
      → ((j : ℕ) → j < sc.base → get_or slots j 0 ≡ get_or slots' j 0) → Tells heap' slots' b' sc.base sc.q sc.n m'.top
      → Ready k' h' code heap' slots' m' (scope_view slots' sc) sc.q s' u room' → s' + slots_per_height * room' ≤ s + slots_per_height * room
      → Prepared k' h' code heap' slots' m' b' sc s' u room'
  onward M same T rd le = record { ready = rd; tells = T; older = older_later _ P.older same M.agree M.grows; space = omega (arith, P.space) }

----------------------------------------------------------------
-- Runs

-- a run that wrote no slot, and was refused
pub gone-refused : {k : ℕ} {heap heap' slots : List ℕ} {m m' : Machine} {sc : Scope} {r : Out} {w : Refusal} {res : List TypeEntry → Res State}
    → status_of r ≡ Refused w
    → RanBackward k heap heap' slots slots m (scope_view slots sc) (outcome_of r slots m' sc) res → Gone k heap heap' slots slots m m' sc r res
gone-refused {r = r} w R = record { ran = R; below = λ j l. refl; tells = λ _ e. absurd (not_done w (is_done e)) }

-- a run that was stopped
pub gone-stopped : {k k' : ℕ} {heap heap₁ slots slots₁ : List ℕ} {m m₁ : Machine} {sc : Scope} {r : Out} {res res₁ : List TypeEntry → Res State}
    → Gone k heap heap₁ slots slots₁ m m₁ sc r res₁
    → {why : Refusal} → r ≡ Err why → RanBackward k' heap heap₁ slots slots₁ m (scope_view slots sc) (outcome_of r slots₁ m₁ sc) res
    → Gone k' heap heap₁ slots slots₁ m m₁ sc r res
gone-stopped G d R = record { ran = R; below = G.below; tells = λ _ e. absurd (not_ok d e) }

-- a run after which nothing is left to do but to say what it gave
pub gone-then : {k k' : ℕ} {heap heap₁ heap₂ slots slots₁ slots₂ : List ℕ} {m m₁ m₂ : Machine} {sc : Scope} {r : Out} {res res₁ : List TypeEntry → Res State}
    → ((j : ℕ) → j < sc.base → get_or slots j 0 ≡ get_or slots₁ j 0) → Gone k' heap₁ heap₂ slots₁ slots₂ m₁ m₂ sc r res₁
    → RanBackward k heap heap₂ slots slots₂ m (scope_view slots sc) (outcome_of r slots₂ m₂ sc) res → Gone k heap heap₂ slots slots₂ m m₂ sc r res
gone-then same G R = record { ran = R; below = λ j l. same j l ∙ G.below j l; tells = G.tells }

-- the state that is handed back, by value and by the slots
handed_on : (heap slots : List ℕ) (m : Machine) (sc : Scope) (r : Out) → ((b : Bindings) → r ≡ Ok b → Tells heap slots b sc.base sc.q sc.n m.top)
    → sc.n ≤ max_variables → told_of heap slots sc m.fuel r ≡ meaning heap (outcome_of r slots m sc)
unfolding told_of
handed_on heap slots m sc (Ok b) T few =
    ap (λ σ. ok σ m.fuel) (view_told heap slots b sc m.top (T b refl) few) ∙ sym (meaning_done heap (outcome_of (Ok b) slots m sc) refl)
handed_on heap slots m sc (Err why) T few = sym (meaning-refused heap (outcome_of {A = Bindings} (Err why) slots m sc) refl)

-- A run, by the state by value that it was begun with.
pub runs-back : {code heap heap' st st' : List ℕ} {b : Bindings} {scope t room node k h : ℕ} → PreparedIn k h code heap st b scope t room → {r : Out}
    → GoneIn 0 heap heap' st st' scope r (run_at code heap (slots_of st) (machine_of st) (scope_in scope) t (value_at heap node) room)
    → length st' ≡ length st → RunsBack code heap heap' st st' b scope t node room r
runs-back {code} {heap} {heap'} {st} {st'} {b} {scope} {t} {room} {node} Q {r} G e = record {
  lengths = e;
  gone = G;
  answer = λ ys.
      handed_on heap' (slots_of st') (machine_of st') (scope_in scope) r G.tells few
      ∙ G.ran.answer ys
      ∙ ap₂ (λ a σ. backward fits (program_in code ys) room a σ (tree_in code ys t) (value_at heap node) (machine_of st).fuel)
      (view_ancillae heap (slots_of st) (scope_in scope).base (scope_in scope).q (few-ancillae Q.prepared))
      (sym (view_told heap (slots_of st) b (scope_in scope) (machine_of st).top Q.prepared.tells few));
}
  where
    few : (scope_in scope).n ≤ max_variables
    few = Q.prepared.ready.binds.bound.few

-- a run under one variable more, which was stopped
pub stops-under : {heap heap₁ slots slots₁ : List ℕ} {m m₁ : Machine} {sc : Scope} {r : Out} {res : List TypeEntry → Res State}
    → GoneUnder heap heap₁ slots slots₁ m m₁ sc r res → {why : Refusal} → r ≡ Err why → {k : ℕ} {res' : List TypeEntry → Res State}
    → RanBackward k heap heap₁ slots slots₁ m (scope_view slots sc) (outcome_of r slots₁ m₁ sc) res' → Gone k heap heap₁ slots slots₁ m m₁ sc r res'
stops-under G d R = record { ran = R; below = G.below; tells = λ _ e. absurd (not_ok d e) }
