-- Laws of the scope that slots hold: what is known of a variable, how a scope grows, and what leaves it as it is.
use Prim.Native.Nat.{ℕ, zero, suc, ◌+◌, ◌<◌, ◌≤◌}
use native.Mathlib.Omega.{arith}
use native.Mathlib.Decide.{dec_lt}
use mathlib.Core.Path.{◌≡◌, refl, sym, ap, ap₂, subst, ◌∙◌}
use mathlib.Core.Bool.{Bool, true, false}
use mathlib.Core.Option as maybe
use mathlib.Core.List.{List, ◌∷◌}
use lib.ListN.{length, get_or, set}
use lib.Dec.{eqb}
use lib.Seq.{get_or-set_same, get_or-set_other}
use borrow.Author.Tests.{eqb-true, eqb-false}
use Rattle.std.specs.Prelude.{Option, Some, None}
use package.Rattle.rules.specs.Val.{Val, unit}
use package.Rattle.rules.specs.Machine.{known, filled}
use package.Rattle.rules.proofs.Basics.{given}
use package.Rattle.rules.proofs.State.{length-filled, Read, filled-read}
use package.Rattle.rules.proofs.Known.{known-new, known_skip, known_none}
use package.Rattle.valuegraph.specs.Nodes.{value_at, Heap, Agree}
use package.Rattle.valuegraph.proofs.Heaps.{value-kept}
use package.Rattle.scopes.specs.Slots.{unknown, found, node_or, slot_at, meaning, state_at, Slot, Slots}
use package.Rattle.scopes.proofs.Marks.{found-mark, found_below, found_later, slot_in, slot-out}

----------------------------------------------------------------
-- What is known of a variable

pub length-state : (heap slots : List ℕ) (base n : ℕ) → length (state_at heap slots base n) ≡ n
unfolding state_at
length-state heap slots base zero = refl
length-state heap slots base (suc n) = ap suc (length-state heap slots base n)

-- the newest variable, and the others
pub state-front : (heap slots : List ℕ) (base n : ℕ) → state_at heap slots base (suc n) ≡ meaning heap (found heap (get_or slots (base + n) 0)) ∷ state_at heap slots base n
unfolding state_at
state-front heap slots base n = refl

known-within : (heap slots : List ℕ) (base n i : ℕ) → i < n → known (state_at heap slots base n) i ≡ meaning heap (found heap (get_or slots (base + i) 0))
unfolding state_at
known-within heap slots base zero i l = absurd (omega arith)
known-within heap slots base (suc n) i l = go (dec_lt i n) (λ l. known-within heap slots base n i l)
  where
    newer : maybe.Option Val
    newer = meaning heap (found heap (get_or slots (base + n) 0))

    go : Dec (i < n) → (i < n → known (state_at heap slots base n) i ≡ meaning heap (found heap (get_or slots (base + i) 0)))
        → known (newer ∷ state_at heap slots base n) i ≡ meaning heap (found heap (get_or slots (base + i) 0))
    go (yes x) s = known_skip newer _ i (let y : length (state_at heap slots base n) ≡ n = length-state heap slots base n in omega arith) ∙ s x
    go (no x) s = let e : n ≡ i = omega arith in
        ap (known (newer ∷ state_at heap slots base n)) (sym e ∙ sym (length-state heap slots base n)) ∙ known-new newer (state_at heap slots base n)
        ∙ ap (λ i. meaning heap (found heap (get_or slots (base + i) 0))) e

-- a variable that was not met is unit, and node 0 is one
read-node : (heap : List ℕ) → value_at heap 0 ≡ unit → (f : Option ℕ) {v : Val} → Read (meaning heap f) v → v ≡ value_at heap (node_or f)
unfolding node_or
read-node heap u (Some node) r = sym r
read-node heap u None r = sym r ∙ sym u

-- what a term that runs forward reads of a variable
pub known-filled : (heap slots : List ℕ) (base n i : ℕ) → value_at heap 0 ≡ unit
    → known (filled (state_at heap slots base n)) i ≡ meaning heap (slot_at heap slots base n i)
known-filled heap slots base n i u = go (dec_lt i n)
  where
    go : Dec (i < n) → known (filled (state_at heap slots base n)) i ≡ meaning heap (slot_at heap slots base n i)
    go (yes l) = given (filled-read (state_at heap slots base n) i (omega (arith, length-state heap slots base n))) λ (v, e, r).
        e ∙ ap maybe.some (read-node heap u (found heap (get_or slots (base + i) 0)) (subst (λ m. Read m v) (known-within heap slots base n i l) r))
        ∙ ap (meaning heap) (sym (slot_in heap slots base n i l))
    go (no l) = known_none _ i (omega (arith, length-filled (state_at heap slots base n), length-state heap slots base n))
        ∙ ap (meaning heap) (sym (slot-out heap slots base n i (omega arith)))

----------------------------------------------------------------
-- What leaves a scope as it is

-- slots that agree below the scope's end
pub state_same : (heap slots slots' : List ℕ) (base n : ℕ) → ((j : ℕ) → j < base + n → get_or slots j 0 ≡ get_or slots' j 0)
    → state_at heap slots base n ≡ state_at heap slots' base n
unfolding state_at
state_same heap slots slots' base zero s = refl
state_same heap slots slots' base (suc n) s =
    ap₂ ◌∷◌ (ap (λ k. meaning heap (found heap k)) (s (base + n) (omega arith))) (state_same heap slots slots' base n λ j l. s j (omega arith))

-- a slot's meaning, on a heap that has grown
pub meaning-kept : {heap heap' : List ℕ} {top s : ℕ} → Heap heap top → Agree top heap heap' → Slot heap s top → top ≤ unknown
    → meaning heap (found heap s) ≡ meaning heap' (found heap' s)
meaning-kept {heap} {heap'} {top} {s} H A S small = go (eqb s unknown) refl
  where
    go : (b : Bool) → eqb s unknown ≡ b → meaning heap (found heap s) ≡ meaning heap' (found heap' s)
    go true p =
        let e = eqb-true s unknown p in
        ap (meaning heap) (found-mark heap s e) ∙ sym (ap (meaning heap') (found-mark heap' s e))
    go false p = found_below S small (eqb-false s unknown p) λ node l e.
        ap (meaning heap) e ∙ ap maybe.some (value-kept heap heap' top H A node l) ∙ sym (ap (meaning heap') (sym (found_later A S small) ∙ e))

-- a heap that has grown
pub state-kept : (heap heap' slots : List ℕ) (base n top : ℕ) → Heap heap top → Agree top heap heap' → Slots heap slots (base + n) top → top ≤ unknown
    → state_at heap slots base n ≡ state_at heap' slots base n
unfolding state_at
state-kept heap heap' slots base zero top H A S small = refl
state-kept heap heap' slots base (suc n) top H A S small =
    ap₂ ◌∷◌ (meaning-kept H A (S.held (base + n) (omega arith)) small)
    (state-kept heap heap' slots base n top H A (record { held = λ j l. S.held j (omega arith) }) small)

----------------------------------------------------------------
-- A scope grows

-- a variable comes into scope
pub state_bind : (heap slots : List ℕ) (base n x : ℕ) → base + n < length slots
    → state_at heap (set slots (base + n) x) base (suc n) ≡ meaning heap (found heap x) ∷ state_at heap slots base n
unfolding state_at
state_bind heap slots base n x l =
    ap₂ ◌∷◌ (ap (λ k. meaning heap (found heap k)) (get_or-set_same slots (base + n) x 0 l))
    (state_same heap (set slots (base + n) x) slots base n λ j h. get_or-set_other slots (base + n) j x 0 (λ e. omega arith))

pub slots_bind : (heap slots : List ℕ) (m top x : ℕ) → m < length slots → Slots heap slots m top → Slot heap x top
    → Slots heap (set slots m x) (suc m) top
slots_bind heap slots m top x l S d = record { held = λ j h. go j (dec_lt j m) h }
  where
    go : (j : ℕ) → Dec (j < m) → j < suc m → Slot heap (get_or (set slots m x) j 0) top
    go j (yes y) h = rw (get_or-set_other slots m j x 0 (λ e. omega arith)) (S.held j y)
    go j (no y) h = let e : j ≡ m = omega arith in rw (e, get_or-set_same slots m x 0 l) d
