-- Older states: what a state says stays what it was, and is read as it was although slots have been written since, by newer states.
use Prim.Native.Nat.{ℕ, zero, suc, ◌+◌, ◌-◌, ◌<◌, ◌≤◌}
use native.Mathlib.Omega.{arith}
use native.Mathlib.Decide.{dec_lt}
use mathlib.Core.Path.{◌≡◌, refl, sym, ap, ap₂, ◌∙◌}
use mathlib.Core.Bool.{Bool, true, false}
use mathlib.Core.List.{List, ◌∷◌}
use mathlib.Core.Logic.{inl as left, inr as right}
use lib.ListN.{length, get_or, set}
use lib.Seq.{get_or-set_same, get_or-set_other}
use lib.Dec.{eqb}
use borrow.Author.Tests.{eqb-true, eqb-false, lt-ltb, le-ltb}
use Rattle.std.specs.Prelude.{Some}
use package.Rattle.valuegraph.specs.Nodes.{Heap, Agree}
use package.Rattle.valuegraph.proofs.Places.{agree_left}
use package.Rattle.scopes.specs.Slots.{unknown, found, meaning, Scope, Slot}
use package.Rattle.scopes.specs.Cells.{cell_at, number_in, state_with}
use package.Rattle.scopes.specs.Bindings.{state_in, Tells, seen}
use package.Rattle.scopes.proofs.Marks.{found-mark, found-node, found-cell}
use package.Rattle.scopes.proofs.Scopes.{meaning-kept}
use package.Rattle.scopes.proofs.Cells.{cell-le, cell-kept}
use package.Rattle.scopes.proofs.Views.{seen-found, seen-newer, told-dynamic}
use Rattle.scopes.specs.declared.bindings.Bindings.{Bindings}

-- The slots of the variables from `q` to `n` can be read in state `b`: what it sees in them is what it says.
pub record Reads (heap slots : List ℕ) (b : Bindings) (base q n : ℕ) : Type 0 where
  pub says : (i : ℕ) → q ≤ i → i < n → seen heap b (get_or slots (base + i) 0) ≡ found heap (unknown + cell_at heap b.head i)

pub reads-told : {heap slots : List ℕ} {b : Bindings} {base q n top : ℕ} → Tells heap slots b base q n top → Reads heap slots b base q n
reads-told {heap} T = record { says = λ i m l. told-dynamic T i m l ∙ ap (found heap) (T.index i m l) }

module _ {heap heap' : List ℕ} {top : ℕ} (A : Agree top heap heap') {b : Bindings} (within : b.head < top) where
  found-agree : (s : ℕ) → s ≤ unknown + b.head → found heap s ≡ found heap' s
  found-agree s le = go (dec_lt s unknown) (dec_lt unknown s)
    where
      go : Dec (s < unknown) → Dec (unknown < s) → found heap s ≡ found heap' s
      go (yes l) d = found-node heap s l ∙ sym (found-node heap' s l)
      go (no l) (yes m) = found-cell heap s m ∙ ap Some (agree_left A (s - unknown) (omega arith)) ∙ sym (found-cell heap' s m)
      go (no l) (no m) = let e : s ≡ unknown = omega arith in found-mark heap s e ∙ sym (found-mark heap' s e)

  seen-agree : (s : ℕ) → seen heap b s ≡ seen heap' b s
  seen-agree s = go (dec_lt (unknown + b.head) s)
    where
      go : Dec (unknown + b.head < s) → seen heap b s ≡ seen heap' b s
      go (yes l) = seen-newer heap b s l ∙ sym (seen-newer heap' b s l)
      go (no l) = seen-found heap b s (omega arith) ∙ found-agree s (omega arith) ∙ sym (seen-found heap' b s (omega arith))

  said-agree : (i : ℕ) → found heap (unknown + cell_at heap b.head i) ≡ found heap' (unknown + cell_at heap' b.head i)
  said-agree i =
      found-agree (unknown + cell_at heap b.head i) (omega (arith, cell-le heap i b.head))
      ∙ ap (λ c. found heap' (unknown + c)) (cell-kept A b.head i within)

  -- a variable that was not known is bound by a newer cell, in a newer state
  pub reads-met : {slots : List ℕ} {base q n : ℕ} → Reads heap slots b base q n → (i : ℕ) → base + i < length slots → get_or slots (base + i) 0 ≡ unknown
      → Reads heap' (set slots (base + i) (unknown + top)) b base q n
  reads-met {slots} {base} {q} {n} R i there u = record { says = λ j m l. go j m l (eqb j i) refl }
    where
      go : (j : ℕ) → q ≤ j → j < n → (y : Bool) → eqb j i ≡ y
          → seen heap' b (get_or (set slots (base + i) (unknown + top)) (base + j) 0) ≡ found heap' (unknown + cell_at heap' b.head j)
      go j m l true z =
          let e : j ≡ i = eqb-true j i z in
          ap (λ k. seen heap' b (get_or (set slots (base + i) (unknown + top)) (base + k) 0)) e
          ∙ ap (seen heap' b) (get_or-set_same slots (base + i) (unknown + top) 0 there)
          ∙ seen-newer heap' b (unknown + top) (omega arith)
          ∙ sym (ap (λ k. seen heap b (get_or slots (base + k) 0)) e ∙ ap (seen heap b) u ∙ seen-found heap b unknown (omega arith) ∙ found-mark heap unknown refl)
          ∙ R.says j m l ∙ said-agree j
      go j m l false z =
          let d = eqb-false j i z in
          ap (seen heap' b) (get_or-set_other slots (base + i) (base + j) (unknown + top) 0 (λ k. d (omega arith)))
          ∙ sym (seen-agree (get_or slots (base + j) 0)) ∙ R.says j m l ∙ said-agree j

-- An older state stays what it was, whatever the slots of its dynamic variables have become.
module _ {heap heap' : List ℕ} (slots slots' : List ℕ) {b : Bindings} (sc : Scope) {top : ℕ} (H : Heap heap top) (A : Agree top heap heap')
    (within : b.head < top) (small : top ≤ unknown)
    (ancillae : (i : ℕ) → i < sc.q → (get_or slots (sc.base + i) 0 < top) × (get_or slots (sc.base + i) 0 ≡ get_or slots' (sc.base + i) 0))
    (sound : (i : ℕ) → Slot heap (unknown + cell_at heap b.head i) top) where
  older-number : (i : ℕ) → Dec (i < sc.q) → meaning heap (found heap (number_in heap slots b.head sc i))
      ≡ meaning heap' (found heap' (number_in heap' slots' b.head sc i))
  older-number i (yes l) =
      rw (lt-ltb i sc.q l) (meaning-kept H A (right (left (ancillae i l).0)) small ∙ ap (λ s. meaning heap' (found heap' s)) (ancillae i l).1)
  older-number i (no l) =
      rw (le-ltb i sc.q (omega arith))
      (meaning-kept H A (sound i) small ∙ ap (λ c. meaning heap' (found heap' (unknown + c))) (cell-kept A b.head i within))

  older_with : (n : ℕ) → state_with heap slots b.head sc n ≡ state_with heap' slots' b.head sc n
  unfolding state_with
  older_with zero = refl
  older_with (suc n) = ap₂ ◌∷◌ (older-number n (dec_lt n sc.q)) (older_with n)

  pub older-state : state_in heap slots b sc ≡ state_in heap' slots' b sc
  older-state = older_with sc.n
