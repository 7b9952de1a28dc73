-- Variables leave a scope, in code: the newest is looked up, and a cell says that those from it on are not known.
use Prim.Native.Nat.{ℕ, ◌+◌, ◌≤◌, ◌<◌}
use native.Mathlib.Omega.{arith}
use mathlib.Core.Path.{◌≡◌, refl, sym, ap, ap₂, subst, ◌∙◌}
use mathlib.Core.List.{List}
use lib.ListN.{length, get_or}
use package.Rattle.rules.specs.Limits.{max_variables}
use package.Rattle.rules.specs.Run.{Res}
use package.Rattle.rules.specs.Machine.{State}
use package.Rattle.calls.specs.Entries.{TypeEntry}
use package.Rattle.valuegraph.specs.Nodes.{value_at, Heap}
use package.Rattle.valuegraph.proofs.Heaps.{value-kept}
use package.Rattle.scopes.specs.Slots.{unknown, slot_count, state_count, Machine, Scope, machine_of, slots_of, found, node_or, Slot}
use package.Rattle.scopes.specs.Cells.{Linked}
use package.Rattle.scopes.specs.Bindings.{View, Tells, bound, CellReady, Adds}
use package.Rattle.scopes.specs.declared.bindings.Bindings.{Bindings}
use package.Rattle.scopes.proofs.Marks.{found_later}
use package.Rattle.scopes.proofs.Views.{tells-left, told-dynamic}
use package.Rattle.forward.specs.Ready.{Graph}
use package.Rattle.forward.proofs.Making.{graph-grown}
use package.Rattle.backward.specs.Outcomes.{Done, status_of, inner_of, scope_view}
use package.Rattle.backward.specs.Ready.{Held, Moves, RanUnder, GoneUnder, Leavable}
use package.Rattle.backward.proofs.Runs.{left_done, follows_later, state_later, moves-then, moves_from, held_later, small_top}
use package.Rattle.backward.proofs.Stops.{is_done}
use Rattle.std.specs.Prelude.{Ok}
use package.Rattle.backward.specs.Outcomes.{Out}

----------------------------------------------------------------
-- A cell more

cell-moves : {heap heap' slots : List ℕ} {m : Machine} {x i h : ℕ} → Graph heap m.top → Linked heap heap' m.top x i h
    → Moves 1 heap heap' slots slots m (record { top = m.top + 1; fuel = m.fuel })
cell-moves G C = record {
  agree = C.made.grown.agree;
  graph = graph-grown G C.made.grown;
  lengths = refl;
  grows = omega arith;
  spends = omega arith;
  owes = omega arith;
}

-- a run under one variable more, and then a cell
module _ {heap heap₁ heap₂ slots : List ℕ} (slots₁ : List ℕ) {st : Machine} (m₁ : Machine) {b : View} (sc : Scope) (s : Out) {res : List TypeEntry → Res State} {x i h : ℕ}
    (d : RanUnder 0 heap heap₁ slots slots₁ st b (inner_of heap₁ s slots₁ m₁ sc) res) (done : status_of s ≡ Done)
    (S : Slot heap₁ (get_or slots₁ (sc.base + sc.n) 0) m₁.top) (small : m₁.top ≤ unknown) (C : Linked heap₁ heap₂ m₁.top x i h) where
  newest_later : node_or (found heap₁ (get_or slots₁ (sc.base + sc.n) 0)) ≡ node_or (found heap₂ (get_or slots₁ (sc.base + sc.n) 0))
  newest_later = ap node_or (found_later C.made.grown.agree S small)

  under_later : RanUnder 1 heap heap₂ slots slots₁ st b (inner_of heap₂ s slots₁ (record { top = m₁.top + 1; fuel = m₁.fuel }) sc) res
  under_later = record {
    moves = moves-then 1 (omega arith) d.moves (cell-moves d.moves.graph C);
    follows = λ q. follows_later (m₁.top + 1) (d.follows q) C.made.grown.agree (omega arith);
    there = λ q. rw (← newest_later) (omega (arith, d.there q));
    answer = λ ys next.
        d.answer ys next
        ∙ left_done heap₁ (scope_view slots₁ sc) (node_or (found heap₁ (get_or slots₁ (sc.base + sc.n) 0))) m₁.fuel next done
        ∙ ap₂ (λ v σ. next v σ m₁.fuel)
        (value-kept heap₁ heap₂ m₁.top d.moves.graph.right C.made.grown.agree _ (d.there done) ∙ ap (value_at heap₂) newest_later)
        (state_later d.moves.graph C.made.grown.agree (scope_view slots₁ sc) (d.follows done).bound small)
        ∙ sym (left_done heap₂ (scope_view slots₁ sc) (node_or (found heap₂ (get_or slots₁ (sc.base + sc.n) 0))) m₁.fuel next done);
  }

----------------------------------------------------------------
-- In code

-- the variables from `n` on have left
pub record LeftBehind (heap heap' slots slots' : List ℕ) (m m' : Machine) (b : Bindings) (n : ℕ) (c : Bindings) : Type 0 where
  pub linked : Linked heap heap' m.top unknown n b.head
  pub slots_are : slots' ≡ slots
  pub machine_is : m' ≡ record { top = m.top + 1; fuel = m.fuel }
  pub head : c.head ≡ m.top

pub left_behind : {heap heap' st st' : List ℕ} {b c : Bindings} {n : ℕ} → Adds heap heap' st st' b unknown n c
    → LeftBehind heap heap' (slots_of st) (slots_of st') (machine_of st) (machine_of st') b n c
left_behind A = record { linked = A.linked; slots_are = A.moved.slots; machine_is = A.moved.machine; head = A.head }

-- the program and the graph after a run under one variable more
pub held-under : {k : ℕ} {code heap slots : List ℕ} {m : Machine} {room : ℕ} → Held k code heap slots m room → {slots₀ : List ℕ}
    → length slots ≡ length slots₀ → {heap₁ slots₁ : List ℕ} {m₁ : Machine} {sc : Scope} {r : Out} {res : List TypeEntry → Res State}
    → GoneUnder heap heap₁ slots₀ slots₁ m m₁ sc r res → Held k code heap₁ slots₁ m₁ room
held-under {k = k} H from G = held_later H k (omega arith) (moves_from _ from G.ran.moves)

module _ {k : ℕ} {code heap₁ slots₁ : List ℕ} {m₁ : Machine} {room : ℕ} (H : Held k code heap₁ slots₁ m₁ room) {heap slots₀ : List ℕ} {m : Machine}
    {sc₁ : Scope} {r : Out} {res : List TypeEntry → Res State} (G : GoneUnder heap heap₁ slots₀ slots₁ m m₁ sc₁ r res) {bs : Bindings} (e : r ≡ Ok bs) where
  -- a variable of the inner scope can be looked up
  pub looked : (i : ℕ) → sc₁.q ≤ i → i ≤ sc₁.n → sc₁.base + i < slot_count → Slot heap₁ (get_or slots₁ (sc₁.base + i) 0) m₁.top → {sc₂ : Scope}
      → sc₂.base ≡ sc₁.base → sc₂.n ≡ i → Leavable heap₁ slots₁ bs sc₂ m₁.top
  looked i q l there S eb en = rw (eb, en) (record {
    there = there;
    looks = record { graph = G.ran.moves.graph.right; slot = S; small = small_top H; within = (G.tells _ e).within };
    told = told-dynamic (G.tells _ e) i q (omega arith) ∙ ap (found heap₁) ((G.tells _ e).index i q (omega arith));
  })

  -- the node that the state binds it to is the slot's
  pub in_slot : (i : ℕ) → sc₁.q ≤ i → i ≤ sc₁.n → {x : ℕ} → x ≡ node_or (bound heap₁ bs i)
      → x ≡ node_or (found heap₁ (get_or slots₁ (sc₁.base + i) 0))
  in_slot i q l e' = e' ∙ ap (λ s. node_or (found heap₁ s)) (sym ((G.tells _ e).index i q (omega arith)))

  -- a cell can be made
  pub cell-ready : {st₁ : List ℕ} → length st₁ ≡ state_count → machine_of st₁ ≡ m₁ → 0 < k → (n : ℕ) → n ≤ max_variables → CellReady heap₁ st₁ bs n
  cell-ready {st₁} full em some n few =
      let top_is : (machine_of st₁).top ≡ m₁.top = ap (λ (m : Machine). m.top) em in
      record {
        full = full;
        graph = subst (Heap heap₁) (sym top_is) G.ran.moves.graph.right;
        room = omega (arith, top_is, H.nodes);
        small = omega (arith, top_is, H.small);
        within = omega (arith, top_is, (G.tells _ e).within);
        few = few;
      }

  module _ {heap₂ slots₂ : List ℕ} {m₂ : Machine} {c : Bindings} {n : ℕ} (K : LeftBehind heap₁ heap₂ slots₁ slots₂ m₁ m₂ bs n c) where
    -- the run, and the variable that has left
    pub under_left : RanUnder 1 heap heap₂ slots₀ slots₂ m (scope_view slots₀ sc₁) (inner_of heap₂ r slots₂ m₂ sc₁) res
    under_left = rw (K.slots_are, K.machine_is) (under_later slots₁ m₁ sc₁ r G.ran (is_done e) (G.slot (is_done e)) (small_top H) K.linked)

    -- the node of a variable, as it was
    pub left-node : (i : ℕ) {x : ℕ} → Slot heap₁ (get_or slots₁ i 0) m₁.top → x ≡ node_or (found heap₁ (get_or slots₁ i 0))
        → x ≡ node_or (found heap₂ (get_or slots₂ i 0))
    left-node i S q =
        q ∙ ap node_or (found_later K.linked.made.grown.agree S (small_top H)) ∙ ap (λ (s : List ℕ). node_or (found heap₂ (get_or s i 0))) (sym K.slots_are)

    -- the index of the state that is left
    pub left-tells : 0 < k → n ≤ sc₁.n + 1 → Tells heap₂ slots₂ c sc₁.base sc₁.q n m₂.top
    left-tells some le = rw (K.slots_are, K.machine_is) (tells-left (G.tells _ e) le K.linked (omega (arith, H.small)) K.head)

    -- slots that were not written
    pub left_below : (j : ℕ) → get_or slots₁ j 0 ≡ get_or slots₂ j 0
    left_below j = ap (λ (s : List ℕ). get_or s j 0) (sym K.slots_are)
