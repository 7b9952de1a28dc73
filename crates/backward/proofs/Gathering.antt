-- The ancilla arguments of a call: one after the other they are evaluated forward, in the scope at hand, and are placed behind it, where they
-- are the first variables of the function that is called.
use Prim.Native.Nat.{ℕ, suc, ◌+◌, ◌-◌, ◌≤◌, ◌<◌}
use native.Mathlib.Omega.{arith}
use native.Mathlib.Decide.{dec_lt}
use mathlib.Core.Path.{◌≡◌, refl, sym, ap, ap₂, ◌∙◌}
use mathlib.Core.Logic.{inl as left, inr as right}
use mathlib.Core.List.{List, [], ◌∷◌}
use lib.ListN.{get_or, set, length-set}
use lib.Seq.{get_or-set_same, get_or-set_other}
use package.Rattle.rules.specs.Limits.{fits, max_variables}
use package.Rattle.rules.specs.Val.{Val}
use package.Rattle.rules.specs.Term.{Term, scope}
use package.Rattle.rules.specs.Run.{Res, ok, Run, after}
use package.Rattle.rules.specs.Machine.{State, filled, each, forward}
use package.Rattle.rules.proofs.Run.{after-after}
use package.Rattle.calls.specs.Entries.{TypeEntry, term_trees}
use package.Rattle.decoded.specs.Rows.{argument_in, arguments_in, program_in, tree_in}
use package.Rattle.valuegraph.specs.Nodes.{value_at}
use package.Rattle.valuegraph.proofs.Heaps.{value-kept}
use package.Rattle.scopes.specs.Slots.{Slot, Machine, Scope}
use package.Rattle.scopes.specs.Bindings.{View, state_of}
use package.Rattle.scopes.specs.declared.bindings.Bindings.{Bindings}
use package.Rattle.scopes.proofs.Views.{view_at, view_bound, view_state}
use package.Rattle.yields.specs.Yields.{ancillae_at}
use package.Rattle.forward.specs.Outcomes.{Out as ForwardOut}
use package.Rattle.forward.specs.Ready.{Ready as ForwardReady, RanForward as ForwardRan, Calls, values_at, run_of as forwardRun, ancillae_of as forwardAncillae, state_of as forwardState}
use Rattle.std.specs.Prelude.{Ok, Err}
use package.Rattle.forward.specs.declared.outcomes.Refusal.{Refusal as Carried}
use package.Rattle.forward.proofs.Runs.{answered, refused, ancillae_later as forward-ancillae, state_later as forward-state}
use package.Rattle.forward.proofs.Placing.{place-room, place-less, few-count, values_same, values_none, values-front}
use package.Rattle.forward.proofs.Starting.{arguments-ancillae}
use package.Rattle.backward.specs.Outcomes.{Status, Done, Refused, refusal_of, carried, status_of, outcome_of, scope_view}
use package.Rattle.backward.specs.Ready.{Moves, Prepared, ancillae_of}
use package.Rattle.backward.specs.Calls.{Collected, gathered_of, listed_of, gather_of, Gathers, Arguments}
use package.Rattle.backward.proofs.Runs.{refusal-after, carried-means, not_done, moves_none, moves-then}
use package.Rattle.backward.proofs.Frames.{view_ancillae, few-ancillae}
use Rattle.backward.specs.declared.outcomes.Refusal.{Refusal}
use Rattle.std.specs.Prelude.{Result}

----------------------------------------------------------------
-- Terms one after the other

module _ (go : Term → Run Val) (tree : ℕ → Term) (code : List ℕ) (t : ℕ) where
  -- the terms of call `t` from number `i` on, `n` of them
  abbrev pub run-each : ℕ → ℕ → ℕ → (List Val → Run State) → Res State
  run-each i n fuel next = after (each go (term_trees tree (arguments_in code t i n)) fuel) next

  pub each_none : (i n fuel : ℕ) (next : List Val → Run State) → n ≡ 0 → run-each i n fuel next ≡ next [] fuel
  unfolding arguments_in term_trees each after
  each_none i n fuel next e = rw e

  abbrev onward : Val → Run (List Val) → Run (List Val)
  onward v m fuel = after (m fuel) (λ vs fuel. ok (v ∷ vs) fuel)

  each-front : (i n n' fuel : ℕ) (next : List Val → Run State) → n ≡ suc n' → run-each i n fuel next
      ≡ after (after (go (tree (argument_in code t i)) fuel) (λ v. onward v (each go (term_trees tree (arguments_in code t (i + 1) n'))))) next
  unfolding arguments_in term_trees each
  each-front i n n' fuel next e = rw e

  module _ (i n n' fuel : ℕ) (next : List Val → Run State) (e : n ≡ suc n') where
    pub each_more : {v : Val} {fuel' : ℕ} → go (tree (argument_in code t i)) fuel ≡ ok v fuel'
        → run-each i n fuel next ≡ run-each (i + 1) n' fuel' (λ vs. next (v ∷ vs))
    unfolding after
    each_more {v} {fuel'} p =
        each-front i n n' fuel next e
        ∙ ap (λ x. after (after x (λ v. onward v (each go (term_trees tree (arguments_in code t (i + 1) n'))))) next) p
        ∙ after-after (each go (term_trees tree (arguments_in code t (i + 1) n')) fuel') (λ vs fuel. ok (v ∷ vs) fuel) next

    pub each-refused : (why : Refusal) → go (tree (argument_in code t i)) fuel ≡ refusal_of why → run-each i n fuel next ≡ refusal_of why
    each-refused why p =
        each-front i n n' fuel next e
        ∙ ap (λ x. after (after x (λ v. onward v (each go (term_trees tree (arguments_in code t (i + 1) n'))))) next) p
        ∙ ap (λ x. after x next) (refusal-after why (λ v. onward v (each go (term_trees tree (arguments_in code t (i + 1) n')))))
        ∙ refusal-after why next

pub gathered_done : (heap : List ℕ) (args : View) (count fuel : ℕ) {s : Status} (next : List Val → Run State) → s ≡ Done
    → gathered_of heap args count fuel s next ≡ next (ancillae_at heap args.slots 0 count) fuel
unfolding gathered_of
gathered_done heap args count fuel next e = ap (λ s. gathered_of heap args count fuel s next) e

pub gathered-refused : (heap : List ℕ) (args : View) (count fuel : ℕ) {s : Status} {why : Refusal} (next : List Val → Run State) → s ≡ Refused why
    → gathered_of heap args count fuel s next ≡ refusal_of why
unfolding gathered_of
gathered-refused heap args count fuel next e = ap (λ s. gathered_of heap args count fuel s next) e

pub listed_done : (heap slots : List ℕ) (from n fuel : ℕ) {s : Status} (next : List Val → Run State) → s ≡ Done
    → listed_of heap slots from n fuel s next ≡ next (values_at heap slots from n) fuel
unfolding listed_of
listed_done heap slots from n fuel next e = ap (λ s. listed_of heap slots from n fuel s next) e

pub listed-refused : (heap slots : List ℕ) (from n fuel : ℕ) {s : Status} {why : Refusal} (next : List Val → Run State) → s ≡ Refused why
    → listed_of heap slots from n fuel s next ≡ refusal_of why
unfolding listed_of
listed-refused heap slots from n fuel next e = ap (λ s. listed_of heap slots from n fuel s next) e

----------------------------------------------------------------
-- Arguments are placed

-- a forward run
pub moves-forward : {heap heap₁ slots slots₁ : List ℕ} {m : ℕ} {st : Machine} {r : ForwardOut} {res : List TypeEntry → Res Val}
    → ForwardRan 0 heap heap₁ m slots slots₁ st r res → Moves 0 heap heap₁ slots slots₁ st r.state
moves-forward d = record { agree = d.agree; graph = d.graph; lengths = d.lengths; grows = d.grows; spends = d.spends; owes = omega (arith, d.owes, d.spends) }

module _ {code heap slots : List ℕ} {st : Machine} {sc : Scope} {t room : ℕ} (rd : ForwardReady 1 0 code heap slots st sc t room)
    {k count : ℕ} (C : Calls code t k count) where
  abbrev m : ℕ
  m = sc.base + sc.n

  abbrev go : List TypeEntry → Term → Run Val
  go ys = forward fits (program_in code ys) (room - 1) (forwardAncillae heap slots sc) (forwardState heap slots sc)

  -- there are no more
  pub gather_end : k ≡ count → {s : Result (Unit {0}) Refusal} → status_of s ≡ Done → Gathers code heap heap slots slots st sc t room k count s st
  gather_end e {s} d = record {
    moves = moves_none rd.graph refl refl;
    below = λ j h. refl;
    held = λ _ j low high. absurd (omega arith);
    answer = λ ys next.
        each_none (go ys) (tree_in code ys) code t k (count - k) st.fuel next (omega arith)
        ∙ ap (λ vs. next vs st.fuel) (sym (values_none heap slots (m + k) (count - k) (omega arith)))
        ∙ sym (listed_done heap slots (m + k) (count - k) st.fuel next d);
  }

  module _ (more : ¬ (k ≡ count)) (b : ℕ) (q : b ≡ argument_in code t k) {heap₁ slots₁ : List ℕ} {r₁ : ForwardOut}
      (d : ForwardRan 0 heap heap₁ m slots slots₁ st r₁ (forwardRun code heap slots st sc b (room - 1))) where
    at_place : (ys : List TypeEntry) → go ys (tree_in code ys (argument_in code t k)) st.fuel ≡ forwardRun code heap slots st sc b (room - 1) ys
    at_place ys = ap (λ b. forwardRun code heap slots st sc b (room - 1) ys) (sym q)

    pub gather_refused : {w : Carried} → r₁.status ≡ Err w → {s : Result (Unit {0}) Refusal} → status_of s ≡ Refused (carried w)
        → Gathers code heap heap₁ slots slots₁ st sc t room k count s r₁.state
    gather_refused {w} e {s} c = record {
      moves = moves-forward d;
      below = d.below;
      held = λ n. absurd (not_done c n);
      answer = λ ys next.
          each-refused (go ys) (tree_in code ys) code t k (count - k) (count - (k + 1)) st.fuel next
          (omega (arith, place-less rd C more)) (carried w) (at_place ys ∙ refused d e ys ∙ carried-means w)
          ∙ sym (listed-refused heap₁ slots₁ (m + k) (count - k) r₁.state.fuel next c);
    }

    -- an argument, and the others behind it
    module _ {x : ℕ} (e : r₁.status ≡ Ok x) {heap₂ slots₂ : List ℕ} {s₂ : Result (Unit {0}) Refusal} {st₂ : Machine}
        (D : Gathers code heap₁ heap₂ slots₁ slots₂ r₁.state sc t room (k + 1) count s₂ st₂)
        (slots₃ : List ℕ) (e₃ : slots₃ ≡ set slots₂ (m + k) x) where
      less : k < count
      less = place-less rd C more

      here : get_or slots₃ (m + k) 0 ≡ x
      here = rw e₃ (get_or-set_same slots₂ (m + k) x 0 (omega (arith, place-room rd C, rd.full, d.lengths, D.moves.lengths)))

      elsewhere : (j : ℕ) → ¬ (j ≡ m + k) → get_or slots₂ j 0 ≡ get_or slots₃ j 0
      elsewhere j n = rw e₃ (sym (get_or-set_other slots₂ (m + k) j x 0 n))

      values : value_at heap₁ x ∷ values_at heap₂ slots₂ (m + (k + 1)) (count - (k + 1)) ≡ values_at heap₂ slots₃ (m + k) (count - k)
      values =
          ap₂ ◌∷◌ (value-kept heap₁ heap₂ r₁.state.top d.graph.right D.moves.agree x (d.node x e) ∙ ap (value_at heap₂) (sym here))
          (values_same heap₂ slots₂ slots₃ (m + (k + 1)) (count - (k + 1)) (λ j h. elsewhere j (λ q. omega arith))
          ∙ ap (λ i. values_at heap₂ slots₃ i (count - (k + 1))) (let z : m + (k + 1) ≡ m + k + 1 = omega arith in z))
          ∙ sym (values-front heap₂ slots₃ (m + k) (count - k) (count - (k + 1)) (omega (arith, less)))

      -- where the others were placed, this one is too
      one_more : (next : List Val → Run State) (s : Status)
          → listed_of heap₂ slots₂ (m + (k + 1)) (count - (k + 1)) st₂.fuel s (λ vs. next (value_at heap₁ x ∷ vs)) ≡ listed_of heap₂ slots₃ (m + k)
          (count - k) st₂.fuel s next
      unfolding listed_of
      one_more next Done = ap (λ vs. next vs st₂.fuel) values
      one_more next (Refused why) = refl

      -- the others, in the scope as it was
      others : (ys : List TypeEntry) (next : List Val → Run State)
          → run-each (go ys) (tree_in code ys) code t (k + 1) (count - (k + 1)) r₁.state.fuel next
          ≡ gather_of code heap₁ slots₁ r₁.state sc t room (k + 1) count ys next
      others ys next =
          ap (λ (G : Term → Run Val). run-each G (tree_in code ys) code t (k + 1) (count - (k + 1)) r₁.state.fuel next)
          (ap₂ (λ a σ. forward fits (program_in code ys) (room - 1) a σ) (forward-ancillae rd d) (forward-state rd d))

      gather_more : Gathers code heap heap₂ slots slots₃ st sc t room k count s₂ st₂
      gather_more = record {
        moves = moves-then 0 (omega arith) (moves-forward d) (record {
          agree = D.moves.agree;
          graph = D.moves.graph;
          lengths = D.moves.lengths ∙ rw e₃ (sym (length-set slots₂ (m + k) x));
          grows = D.moves.grows;
          spends = D.moves.spends;
          owes = D.moves.owes;
        });
        below = λ j h. d.below j h ∙ D.below j h ∙ elsewhere j (λ q. omega arith);
        held = λ n j low high. slot n j low high (dec_lt k j);
        answer = λ ys next.
            each_more (go ys) (tree_in code ys) code t k (count - k) (count - (k + 1)) st.fuel next (omega (arith, less))
            (at_place ys ∙ answered d e ys)
            ∙ others ys (λ vs. next (value_at heap₁ x ∷ vs))
            ∙ D.answer ys (λ vs. next (value_at heap₁ x ∷ vs))
            ∙ one_more next (status_of s₂);
      }
        where
          slot : status_of s₂ ≡ Done → (j : ℕ) → k ≤ j → j < count → Dec (k < j) → get_or slots₃ (m + j) 0 < st₂.top
          slot n j low high (yes h) = rw (← elsewhere (m + j) (λ z. omega arith)) (D.held n j (omega arith) high)
          slot n j low high (no h) = rw (let z : m + j ≡ m + k = omega arith in z, here) (omega (arith, d.node x e, D.moves.grows))

    -- the slot and the machine as the code leaves them
    pub gather_placed : {x : ℕ} → r₁.status ≡ Ok x → {heap₂ slots₂ : List ℕ} {s₂ : Result (Unit {0}) Refusal} {st₂ : Machine}
        → Gathers code heap₁ heap₂ slots₁ slots₂ r₁.state sc t room (k + 1) count s₂ st₂
        → {at : ℕ} → at ≡ m + k → {slots₃ : List ℕ} → slots₃ ≡ set slots₂ at x → {st₃ : Machine} → st₃ ≡ st₂
        → Gathers code heap heap₂ slots slots₃ st sc t room k count s₂ st₃
    gather_placed e D qa {slots₃} e₃ em = rw em (gather_more e D slots₃ (rw qa at e₃))

----------------------------------------------------------------
-- In the state at hand

module _ {code heap slots : List ℕ} {m : Machine} {b : Bindings} {sc : Scope} {t room : ℕ} (P : Prepared 2 1 code heap slots m b sc sc.n t room) where
  -- the slots say what the state says
  pub scope-ready : ForwardReady 1 0 code heap slots m sc t room
  scope-ready = record {
    rows = P.ready.machine.rows;
    term = P.ready.term;
    graph = P.ready.machine.graph;
    held = record { held = λ j h. slot j h (dec_lt j sc.base) };
    ancillae = λ i h. rw (← view_at slots sc.base i (omega (arith, few-ancillae P))) (P.ready.binds.ancillae i h);
    within = P.ready.binds.within;
    nodes = omega (arith, P.ready.machine.nodes);
    small = omega (arith, P.ready.machine.small);
    variables = omega (arith, P.space, P.ready.machine.all);
    full = P.ready.machine.all;
    tall = P.ready.tall;
  }
    where
      slot : (j : ℕ) → j < sc.base + sc.n → Dec (j < sc.base) → Slot heap (get_or slots j 0) m.top
      slot j h (yes l) = P.older.held j l
      slot j h (no l) =
          let z : j ≡ sc.base + (j - sc.base) = omega arith in
          rw (z, ← view_at slots sc.base (j - sc.base) (omega (arith, P.ready.binds.bound.few)))
          (P.ready.binds.bound.held.held (j - sc.base) (omega arith))

  module _ {count : ℕ} (C : Calls code t 0 count) {heap₁ slots₁ : List ℕ} {m₁ : Machine} {s : Result (Unit {0}) Refusal}
      (D : Gathers code heap heap₁ slots slots₁ m sc t room 0 count s m₁) where
    -- where the function that is called has its scope
    abbrev pub callee : Scope
    callee = record { base = sc.base + sc.n; q = count; n = count }

    few : count ≤ max_variables
    few = omega (arith, few-count scope-ready C)

    pub placed : status_of s ≡ Done → (i : ℕ) → i < count → get_or slots₁ (sc.base + sc.n + i) 0 < m₁.top
    placed e i l = D.held e i (omega arith) l

    -- the arguments, as a scope behind the caller's
    all_known : status_of s ≡ Done → Collected heap₁ (scope_view slots₁ callee) count m₁.top
    all_known e = record {
      binds = record {
        bound = view_bound heap₁ slots₁ (sc.base + sc.n) count m₁.top few (λ i l. right (left (placed e i l)));
        within = omega arith;
        ancillae = λ i l. rw (view_at slots₁ (sc.base + sc.n) i (omega (arith, few))) (placed e i l);
      };
      all = refl;
    }

    as_listed : (next : List Val → Run State) (st : Status)
        → listed_of heap₁ slots₁ (sc.base + sc.n + 0) (count - 0) m₁.fuel st (λ vs. next (scope vs [])) ≡ gathered_of heap₁
        (scope_view slots₁ callee) count m₁.fuel st next
    unfolding listed_of gathered_of
    as_listed next Done =
        ap (λ ρ. next ρ m₁.fuel)
        (ap₂ (λ i n. scope (values_at heap₁ slots₁ i n) []) (let z : sc.base + sc.n + 0 ≡ sc.base + sc.n = omega arith in z)
        (let z : count - 0 ≡ count = omega arith in z)
        ∙ arguments-ancillae heap₁ slots₁ (sc.base + sc.n) count ∙ sym (view_ancillae heap₁ slots₁ (sc.base + sc.n) count few))
    as_listed next (Refused why) = refl

    pub arguments_done : Arguments code heap heap₁ slots slots₁ m (scope_view slots sc) sc.q t room count (outcome_of s slots₁ m₁ callee)
    arguments_done = record {
      moves = D.moves;
      collected = all_known;
      answer = λ ys next.
          ap (λ c. run-each (forward fits (program_in code ys) (room - 1) (ancillae_of heap (scope_view slots sc) sc.q)
          (filled (state_of heap (scope_view slots sc)))) (tree_in code ys) code t 0 c m.fuel (λ vs. next (scope vs [])))
          (let z : count ≡ count - 0 = omega arith in z)
          ∙ ap₂ (λ a σ. run-each (forward fits (program_in code ys) (room - 1) a σ) (tree_in code ys) code t 0 (count - 0) m.fuel (λ vs. next (scope vs [])))
          (view_ancillae heap slots sc.base sc.q (few-ancillae P)) (ap filled (view_state heap slots sc.base sc.n P.ready.binds.bound.few))
          ∙ D.answer ys (λ vs. next (scope vs []))
          ∙ as_listed next (status_of s);
    }
