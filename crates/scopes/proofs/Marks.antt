-- Laws of slots: what a slot's number says, which slot a variable has, and what stays where the heap has grown.
use Prim.Native.Nat.{ℕ, ◌+◌, ◌-◌, ◌<◌, ◌≤◌}
use native.Mathlib.Omega.{arith}
use mathlib.Core.Path.{◌≡◌, refl, sym, ap, ◌∙◌}
use mathlib.Core.Bool.{Bool, true, false}
use mathlib.Core.Logic.{⊎_elim, inl as left, inr as right}
use mathlib.Core.List.{List}
use lib.ListN.{get_or}
use lib.Dec.{eqb}
use borrow.Author.Tests.{eq-eqb, ne_eqb, eqb-true, eqb-false, lt-ltb, le-ltb}
use Rattle.std.specs.Prelude.{Option, Some, None}
use package.Rattle.valuegraph.specs.Nodes.{left_at, Room, Heap, Agree}
use package.Rattle.valuegraph.proofs.Places.{agree_left}
use package.Rattle.scopes.specs.Slots.{unknown, found, node_or, slot_at, Slot, Slots}

----------------------------------------------------------------
-- What a number says

pub found-mark : (heap : List ℕ) (s : ℕ) → s ≡ unknown → found heap s ≡ None
unfolding found
found-mark heap s e = rw (found, le-ltb s unknown (omega arith), eq-eqb s unknown e)

pub found-node : (heap : List ℕ) (s : ℕ) → s < unknown → found heap s ≡ Some s
unfolding found
found-node heap s l = rw (found, lt-ltb s unknown l)

pub found-cell : (heap : List ℕ) (s : ℕ) → unknown < s → found heap s ≡ Some (left_at heap (s - unknown))
unfolding found
found-cell heap s l = rw (found, le-ltb s unknown (omega arith), ne_eqb s unknown (λ e. omega arith))

-- a variable in scope has a node
pub slot_in : (heap slots : List ℕ) (base n i : ℕ) → i < n → slot_at heap slots base n i ≡ Some (node_or (found heap (get_or slots (base + i) 0)))
unfolding slot_at
slot_in heap slots base n i l = rw (slot_at, lt-ltb i n l)

pub slot-out : (heap slots : List ℕ) (base n i : ℕ) → n ≤ i → slot_at heap slots base n i ≡ None
unfolding slot_at
slot-out heap slots base n i l = rw (slot_at, le-ltb i n l)

-- a variable that is known has a node
pub found_below : {heap : List ℕ} {s top : ℕ} → Slot heap s top → top ≤ unknown → (s ≡ unknown → ⊥) → {P : Type 0}
    → ((node : ℕ) → node < top → found heap s ≡ Some node → P) → P
found_below {heap} {s} {top} S small d k =
    ⊎_elim
    (λ e. absurd (d e))
    (λ z. ⊎_elim (λ l. k s l (found-node heap s (omega arith))) (λ C. k (left_at heap (s - unknown)) C.node (found-cell heap s C.above)) z)
    S

pub node_or_lem : {f : Option ℕ} {node : ℕ} → f ≡ Some node → node_or f ≡ node
unfolding node_or
node_or_lem e = ap node_or e

pub node_none : {f : Option ℕ} → f ≡ None → node_or f ≡ 0
unfolding node_or
node_none e = ap node_or e

-- what a number says is a node below `top`, or node 0
pub found-low : {heap : List ℕ} {s top : ℕ} → Slot heap s top → top ≤ unknown → 0 < top → node_or (found heap s) < top
found-low {heap} {s} {top} S small some = go (eqb s unknown) refl
  where
    go : (y : Bool) → eqb s unknown ≡ y → node_or (found heap s) < top
    go true q = rw (node_none (found-mark heap s (eqb-true s unknown q))) some
    go false q = found_below S small (eqb-false s unknown q) λ node low e. rw (node_or_lem e) low

-- a cell that a slot names is there
pub cell_room : {heap : List ℕ} {s top : ℕ} → Heap heap top → Slot heap s top → unknown < s → Room heap (s - unknown + 1)
cell_room {s = s} {top = top} H S l =
    ⊎_elim (λ e. absurd (omega arith)) (λ z. ⊎_elim (λ m. omega (arith, H.held)) (λ C. omega (arith, H.held, C.there)) z) S

----------------------------------------------------------------
-- A heap that has grown

module _ {heap heap' : List ℕ} {top : ℕ} (A : Agree top heap heap') where
  pub slot_later : {s : ℕ} (top' : ℕ) → top ≤ top' → Slot heap s top → Slot heap' s top'
  slot_later {s} top' le S =
      ⊎_elim
      (λ e. left e)
      (λ z. right (⊎_elim (λ l. left (omega arith)) (λ C. right (record {
        above = C.above;
        there = omega (arith, C.there);
        node = rw (← agree_left A (s - unknown) C.there) (omega (arith, C.node));
      })) z))
      S

  pub slots_later : {slots : List ℕ} {m : ℕ} (top' : ℕ) → top ≤ top' → Slots heap slots m top → Slots heap' slots m top'
  slots_later top' le S = record { held = λ j l. slot_later top' le (S.held j l) }

  pub found_later : {s : ℕ} → Slot heap s top → top ≤ unknown → found heap s ≡ found heap' s
  found_later {s} S small =
      ⊎_elim
      (λ e. found-mark heap s e ∙ sym (found-mark heap' s e))
      (λ z. ⊎_elim
      (λ l. found-node heap s (omega arith) ∙ sym (found-node heap' s (omega arith)))
      (λ C. found-cell heap s C.above ∙ ap Some (agree_left A (s - unknown) C.there) ∙ sym (found-cell heap' s C.above))
      z)
      S
