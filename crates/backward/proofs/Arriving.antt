-- A term is entered, in code: a unit of fuel is taken, a node is made; and the kinds without parts, a variable and the unit.
use Prim.Native.Nat.{ℕ, ◌+◌, ◌-◌, ◌≤◌, ◌<◌}
use native.Mathlib.Omega.{arith}
use native.Mathlib.Nat.{pos_of_ne-zero}
use mathlib.Core.Path.{◌≡◌, refl, sym, ap, ◌∙◌}
use mathlib.Core.Bool.{Bool, true, false}
use mathlib.Core.List.{List}
use lib.ListN.{length, get_or, set, length-set}
use lib.Seq.{get_or-set_other}
use lib.Dec.{eqb}
use borrow.Author.Tests.{eqb-true, eqb-false}
use package.Rattle.rules.specs.Limits.{max_variables}
use package.Rattle.program.specs.Kinds.{variable_kind, unit_kind}
use package.Rattle.rules.specs.Val.{Val, same}
use package.Rattle.rules.specs.Run.{give}
use package.Rattle.rules.specs.Machine.{meet, on_unit}
use package.Rattle.decoded.specs.Rows.{first_in, kind_in}
use package.Rattle.decoded.proofs.Trees.{NoKind, none_left}
use package.Rattle.valuegraph.specs.Nodes.{Made, value_at, kind_at as nodeKind}
use package.Rattle.scopes.specs.Slots.{unknown, found, Slot, Machine, Scope, machine_of, slots_of, scope_in, Moved}
use package.Rattle.scopes.specs.Cells.{Linked}
use Rattle.std.specs.Prelude.{Some}
use package.Rattle.scopes.specs.Bindings.{slots_from, state_of, said, seen, handed, Meets, Meetable}
use package.Rattle.scopes.specs.declared.bindings.Bindings.{Bindings}
use package.Rattle.scopes.proofs.Views.{view_at, binds_view, compares_view, tells_later, tells-bound, said-told, told-seen, by_slot}
use package.Rattle.backward.specs.Ready.{Prepared, Gone, GoneFrom, handed_back, Variable, UnitMet, Stays, run_at, step_at, PreparedIn, StepsBack}
use package.Rattle.backward.specs.Outcomes.{Refused, outcome_of, scope_view, too_long}
use package.Rattle.backward.proofs.Runs.{small_top}
use package.Rattle.backward.proofs.Stops.{is_done, is_stopped}
use package.Rattle.backward.proofs.Frames.{older_later, few-ancillae, gone-refused}
use package.Rattle.backward.proofs.Leaves.{variable-met, variable-differs, variable-bound, unit-met, unit-stuck}
use package.Rattle.backward.proofs.Parts.{scoped-var}
use package.Rattle.backward.proofs.Entering.{term-ready, term_done, over-ready, over_done, over-long, term_high, term-spent}
use package.Rattle.backward.proofs.Steps.{var_done, var-bound, unit_done}
use Rattle.std.specs.Prelude.{Ok, Err}
use package.Rattle.backward.specs.Outcomes.{Out}
use Rattle.backward.specs.declared.outcomes.Refusal.{Refusal}
use Rattle.backward.specs.declared.outcomes.Refusal.TheVariants.{Fuel, Height, NoInput, Stuck}

----------------------------------------------------------------
-- A unit of fuel is taken

module _ {code heap slots : List ℕ} {m : Machine} {b : Bindings} {sc : Scope} {t room : ℕ} (P : Prepared 0 0 code heap slots m b sc sc.n t room)
    {node : ℕ} (low : node < m.top) where
  pub fuel-gone : m.fuel ≡ 0 → Gone 0 heap heap slots slots m m sc (Err (Fuel t)) (run_at code heap slots m sc t (value_at heap node) room)
  fuel-gone z = gone-refused refl (term-spent P.ready low _ refl refl z)

  module _ (some-fuel : ¬ (m.fuel ≡ 0)) where
    pub height-gone : room ≡ 0 → Gone 0 heap heap slots slots m m sc (Err (Height t)) (run_at code heap slots m sc t (value_at heap node) room)
    height-gone z = gone-refused refl (term_high P.ready low some-fuel _ refl refl z)

    module _ (some-room : ¬ (room ≡ 0)) {slots₁ : List ℕ} (es : slots₁ ≡ slots) {m₁ : Machine} (em : m₁ ≡ record { top = m.top; fuel = m.fuel - 1 }) where
      pub taken-prepared : Prepared 2 1 code heap slots₁ m₁ b sc sc.n t room
      taken-prepared = rw (es, em) (record { ready = term-ready P.ready low some-fuel some-room; tells = P.tells; older = P.older; space = P.space })

      pub taken-node : node < m₁.top
      taken-node = rw em low

      pub taken-fuel : m₁.fuel + 1 ≡ m.fuel
      taken-fuel = rw em (omega (arith, pos_of_ne-zero some-fuel))

      pub taken_done : {heap' slots' : List ℕ} {m' : Machine} {r : Out}
          → Gone 2 heap heap' slots₁ slots' m₁ m' sc r (step_at code heap slots₁ m₁ sc t (value_at heap node) room)
          → Gone 0 heap heap' slots slots' m m' sc r (run_at code heap slots m sc t (value_at heap node) room)
      taken_done {heap'} {slots'} {m'} {r} G = from (rw (es, em) at G)
        where
          from : Gone 2 heap heap' slots slots' (record { top = m.top; fuel = m.fuel - 1 }) m' sc r
              (step_at code heap slots (record { top = m.top; fuel = m.fuel - 1 }) sc t (value_at heap node) room)
              → Gone 0 heap heap' slots slots' m m' sc r (run_at code heap slots m sc t (value_at heap node) room)
          from G = record { ran = term_done P.ready low some-fuel some-room G.ran; below = G.below; tells = G.tells }

----------------------------------------------------------------
-- A node is made

module _ {code heap slots : List ℕ} {m : Machine} {b : Bindings} {sc : Scope} {t room : ℕ}
    (P : Prepared 1 0 code heap slots m b sc sc.n t room) {v : Val} {heap₁ : List ℕ} {made : Bool} {top : ℕ}
    (qt : top ≡ m.top) (N : Made heap heap₁ top v made) where
  M : Made heap heap₁ m.top v made
  M = rw qt at N

  module _ (e : made ≡ true) {slots₁ : List ℕ} (es : slots₁ ≡ slots) {m₁ : Machine} (em : m₁ ≡ record { top = m.top + 1; fuel = m.fuel }) where
    pub made-prepared : Prepared 0 0 code heap₁ slots₁ m₁ b sc sc.n t room
    made-prepared = rw (es, em) (record {
      ready = over-ready P.ready M e;
      tells = tells_later slots (m.top + 1) P.tells (M.new e).agree (omega arith) (λ i l. refl);
      older = older_later (m.top + 1) P.older (λ j l. refl) (M.new e).agree (omega arith);
      space = P.space;
    })

    pub made-node : top < m₁.top
    made-node = rw (qt, em) (omega arith)

    pub made_done : {heap₂ slots₂ : List ℕ} {m' : Machine} {r : Out}
        → Gone 0 heap₁ heap₂ slots₁ slots₂ m₁ m' sc r (run_at code heap₁ slots₁ m₁ sc t (value_at heap₁ top) room)
        → Gone 1 heap heap₂ slots slots₂ m m' sc r (run_at code heap slots m sc t v room)
    made_done {heap₂} {slots₂} {m'} {r} G = from (rw (es, em, qt) at G)
      where
        from : Gone 0 heap₁ heap₂ slots slots₂ (record { top = m.top + 1; fuel = m.fuel }) m' sc r
            (run_at code heap₁ slots (record { top = m.top + 1; fuel = m.fuel }) sc t (value_at heap₁ m.top) room)
            → Gone 1 heap heap₂ slots slots₂ m m' sc r (run_at code heap slots m sc t v room)
        from G = record { ran = over_done P.ready M e G.ran; below = G.below; tells = G.tells }

  pub made-long : made ≡ false → {fuel : ℕ} → fuel ≡ m.fuel → {why : Refusal} → why ≡ too_long fuel room t
      → Gone 1 heap heap₁ slots slots m m sc (Err why) (run_at code heap slots m sc t v room)
  made-long e q s = gone-refused refl (over-long P.ready M e _ (ap Refused (rw q at s)) refl)

----------------------------------------------------------------
-- A variable

module _ {code heap slots : List ℕ} {m : Machine} {b : Bindings} {sc : Scope} {t room : ℕ}
    (P : Prepared 2 1 code heap slots m b sc sc.n t room) {node : ℕ} (low : node < m.top) where
  module _ (kind : kind_in code t ≡ variable_kind) where
    in_scope : first_in code t < sc.n
    in_scope = scoped-var P.ready kind

    few : sc.n ≤ max_variables
    few = P.ready.binds.bound.few

    here : get_or (slots_from slots sc.base max_variables) (first_in code t) 0 ≡ get_or slots (sc.base + first_in code t) 0
    here = view_at slots sc.base (first_in code t) (omega (arith, in_scope, few))

    pub variable-slot : Slot heap (get_or slots (sc.base + first_in code t) 0) m.top
    variable-slot = rw (← here) (P.ready.binds.bound.held.held (first_in code t) in_scope)

    there : sc.base + first_in code t < length slots
    there = omega (arith, P.space, P.ready.machine.all, in_scope)

    small : m.top + 1 ≤ unknown
    unfolding unknown
    small = omega (arith, P.ready.machine.small)

    -- what the state says is what the slot says
    pub variable-said : said heap slots b sc (first_in code t) ≡ found heap (get_or slots (sc.base + first_in code t) 0)
    variable-said = said-told heap slots b sc P.tells (first_in code t) in_scope

    -- and what it sees in it
    pub variable-seen : seen heap b (get_or slots (sc.base + first_in code t) 0) ≡ found heap (get_or slots (sc.base + first_in code t) 0)
    variable-seen = told-seen P.tells (omega (arith, small))
        (λ j l. rw (← view_at slots sc.base j (omega (arith, few-ancillae P))) (P.ready.binds.ancillae j l)) (first_in code t) in_scope

    abbrev Stepped : (heap' slots' : List ℕ) → Machine → Out → Type 0
    Stepped heap' slots' m' r = Gone 2 heap heap' slots slots' m m' sc r (step_at code heap slots m sc t (value_at heap node) room)

    -- it was bound before
    pub compared_gone : {r : Out} {old : ℕ} → (get_or slots (sc.base + first_in code t) 0 ≡ unknown → ⊥)
        → found heap (get_or slots (sc.base + first_in code t) 0) ≡ Some old → handed_back b r ≡ handed (same (value_at heap old) (value_at heap node)) b
        → ((why : Refusal) → r ≡ Err why → why ≡ NoInput t) → Stepped heap slots m r
    compared_gone {r} {old} known f agrees differs = go (same (value_at heap old) (value_at heap node)) refl r refl agrees
      where
        met : (agree : Bool) → agree ≡ same (value_at heap old) (value_at heap node) → Meets heap (scope_view slots sc) (first_in code t) node node agree (scope_view slots sc)
        met agree e = compares_view slots sc.base (first_in code t) sc.n in_scope few heap node node known f e

        gone : (out : Out) → ((bs : Bindings) → out ≡ Ok bs → bs ≡ b) → Stays heap m (scope_view slots sc) (outcome_of out slots m sc)
            (meet t (state_of heap (scope_view slots sc)) (first_in code t) (value_at heap node) m.fuel) → Stepped heap slots m out
        gone out as_was S = record { ran = var_done P.ready low kind refl S; below = λ j l. refl; tells = λ bs e. rw (as_was bs e) P.tells }

        go : (agree : Bool) → agree ≡ same (value_at heap old) (value_at heap node) → (out : Out) → out ≡ r → handed_back b out ≡ handed agree b → Stepped heap slots m r
        go true e (Ok bs) q s =
            let here : bs ≡ b = cc in
            rw (← q) (gone (Ok bs) (λ bs' z. let p : bs' ≡ bs = cc in p ∙ here)
            (variable-met (met true e) P.ready.binds.bound (omega (arith, small)) in_scope low t refl refl))
        go true e (Err why) q s = cc
        go false e (Ok bs) q s = cc
        go false e (Err why) q s =
            rw (← q) (gone (Err why) (λ bs z. cc) (variable-differs (met false e) P.ready.binds.bound (omega (arith, small)) in_scope low t refl
            (ap Refused (differs why (sym q)))))

    -- it was not
    pub assigned_gone : {heap' slots' : List ℕ} {m' : Machine} {r : Out} → get_or slots (sc.base + first_in code t) 0 ≡ unknown
        → handed_back b r ≡ Ok (record { head = m.top })
        → Linked heap heap' m.top node (first_in code t) b.head → slots' ≡ set slots (sc.base + first_in code t) (unknown + m.top)
        → m' ≡ record { top = m.top + 1; fuel = m.fuel } → Stepped heap' slots' m' r
    assigned_gone {heap'} {slots'} {m'} {r} none-known e C s em = go r e
      where
        met : Meets heap' (scope_view slots sc) (first_in code t) node (unknown + m.top) true (scope_view slots' sc)
        met = binds_view slots sc.base (first_in code t) sc.n in_scope few heap' node there none-known refl s

        lengths : length slots ≡ length slots'
        lengths = rw s (sym (length-set slots (sc.base + first_in code t) (unknown + m.top)))

        go : (r : Out) → handed_back b r ≡ Ok (record { head = m.top }) → Stepped heap' slots' m' r
        go (Ok bs) e = rw em (record {
          ran = var-bound P.ready low kind (variable-bound slots slots' m P.ready.machine.graph C met P.ready.binds.bound small in_scope low
              lengths t refl refl);
          below = λ j l. rw s (sym (get_or-set_other slots (sc.base + first_in code t) j (unknown + m.top) 0 (λ z. omega arith)));
          tells = λ bs' z.
              let here : bs' ≡ record { head = m.top } = cc in
              tells-bound P.tells in_scope C low (omega (arith, small)) (omega (arith, P.ready.machine.small)) there s (ap (λ (b : Bindings). b.head) here);
        })
        go (Err why) e = cc

  ----------------------------------------------------------------
  -- The unit

  pub unit-gone : kind_in code t ≡ unit_kind → {r : Out} → UnitMet heap b node r
      → Gone 2 heap heap slots slots m m sc r (step_at code heap slots m sc t (value_at heap node) room)
  unit-gone kind {r} U = go (eqb (nodeKind heap node) 0) refl
    where
      gone : ((bs : Bindings) → r ≡ Ok bs → bs ≡ b) → Stays heap m (scope_view slots sc) (outcome_of r slots m sc)
          (on_unit (value_at heap node) (give (state_of heap (scope_view slots sc))) m.fuel)
          → Gone 2 heap heap slots slots m m sc r (step_at code heap slots m sc t (value_at heap node) room)
      gone as_was S = record { ran = unit_done P.ready low kind S; below = λ j l. refl; tells = λ bs e. rw (as_was bs e) P.tells }

      go : (u : Bool) → eqb (nodeKind heap node) 0 ≡ u → Gone 2 heap heap slots slots m m sc r (step_at code heap slots m sc t (value_at heap node) room)
      go true e =
          let u = eqb-true (nodeKind heap node) 0 e in
          let q : r ≡ Ok b = U.met u in
          gone (λ bs z. let p : bs ≡ b = cc in p) (unit-met m P.ready.machine.graph P.ready.binds.bound node u (is_done q))
      go false e =
          let u = eqb-false (nodeKind heap node) 0 e in
          let q : r ≡ Err Stuck = U.differs u in
          gone (λ bs z. cc) (unit-stuck m P.ready.machine.graph P.ready.binds.bound node u (is_stopped q))

  -- there is no other kind
  pub no_kind : {k : ℕ} → k ≡ kind_in code t → NoKind k → {A : Type 0} → A
  no_kind e d = absurd (none_left _ (rw e (P.ready.machine.rows.known t P.ready.term)) d)

----------------------------------------------------------------
-- By the numbers that a run is lent

-- the variable can be met
pub variable_meetable : {code heap st : List ℕ} {b : Bindings} {scope t room : ℕ} → PreparedIn 2 1 code heap st b scope t room → kind_in code t ≡ variable_kind
    → {node : ℕ} → node < (machine_of st).top → Meetable heap st b (scope_in scope) (first_in code t)
variable_meetable Q kind low = let P = Q.prepared in record {
  cell = record {
    full = Q.full;
    graph = P.ready.machine.graph.right;
    room = omega (arith, P.ready.machine.nodes);
    small = omega (arith, P.ready.machine.small);
    within = P.tells.within;
    few = omega (arith, P.ready.binds.bound.few, scoped-var P.ready kind);
  };
  there = omega (arith, P.space, scoped-var P.ready kind);
  slot = variable-slot P low kind;
  reads = variable-seen P low kind ∙ sym (variable-said P low kind);
}

pub variable-step : {code heap heap' st st' : List ℕ} {b : Bindings} {scope t room : ℕ} → PreparedIn 2 1 code heap st b scope t room → {node : ℕ}
    → node < (machine_of st).top → kind_in code t ≡ variable_kind
    → {r : Out} → Variable heap heap' st st' b (scope_in scope) (first_in code t) node t r → StepsBack code heap heap' st st' scope t node room r
variable-step {code} {heap} {heap'} {st} {st'} {b} {scope} {t} {room} Q {node} low kind {r} E =
    let P = Q.prepared in
    by_slot (scope_in scope) E.met (variable-said P low kind) (variable-slot P low kind) (small_top P.ready.machine)
    (λ u A. record {
      lengths = A.lengths;
      gone = assigned_gone P low kind u A.agrees A.linked A.slots A.machine;
    })
    (λ old d f C. step_same C.heap_same C.numbers_same (record {
      lengths = refl;
      gone = compared_gone P low kind d f C.agrees E.differs;
    }))
  where
    step_same : heap' ≡ heap → st' ≡ st → StepsBack code heap heap st st scope t node room r → StepsBack code heap heap' st st' scope t node room r
    step_same p q R = rw (p, q) R

pub unit-step : {code heap st : List ℕ} {b : Bindings} {scope t room : ℕ} → PreparedIn 2 1 code heap st b scope t room → {node : ℕ}
    → node < (machine_of st).top → kind_in code t ≡ unit_kind
    → {r : Out} → UnitMet heap b node r → StepsBack code heap heap st st scope t node room r
unit-step Q low kind U = record { lengths = refl; gone = unit-gone Q.prepared low kind U }

-- a unit of the fuel `f` is taken
module _ {code heap st : List ℕ} {b : Bindings} {scope t room : ℕ} (Q : PreparedIn 0 0 code heap st b scope t room) {node : ℕ}
    (low : node < (machine_of st).top) {f : ℕ}
    (qf : f ≡ (machine_of st).fuel) (some-fuel : ¬ (f ≡ 0)) (some-room : ¬ (room ≡ 0))
    {st₁ : List ℕ} (S : Moved st st₁ (record { top = (machine_of st).top; fuel = (machine_of st).fuel - 1 })) where
  fuel-there : ¬ ((machine_of st).fuel ≡ 0)
  fuel-there e = some-fuel (qf ∙ e)

  pub entered : PreparedIn 2 1 code heap st₁ b scope t room
  entered = record { full = S.lengths ∙ Q.full; prepared = taken-prepared Q.prepared low fuel-there some-room S.slots S.machine }

  pub entered_node : node < (machine_of st₁).top
  entered_node = taken-node Q.prepared low fuel-there some-room S.slots S.machine

  -- a unit of fuel is gone, and what is run from here on is what is run from the term on
  pub entered_fuel : (machine_of st₁).fuel + 1 ≡ (machine_of st).fuel
  entered_fuel = taken-fuel Q.prepared low fuel-there some-room S.slots S.machine

  pub entered_done : {heap' slots' : List ℕ} {m' : Machine} {r : Out}
      → GoneFrom 2 heap heap' st₁ slots' m' scope r (step_at code heap (slots_of st₁) (machine_of st₁) (scope_in scope) t (value_at heap node) room)
      → GoneFrom 0 heap heap' st slots' m' scope r (run_at code heap (slots_of st) (machine_of st) (scope_in scope) t (value_at heap node) room)
  entered_done G = taken_done Q.prepared low fuel-there some-room S.slots S.machine G
