-- Laws of the ancilla values in slots: what each variable has, how they come into scope, and what leaves them as they are.
use Prim.Native.Nat.{ℕ, zero, suc, ◌+◌, ◌<◌, ◌≤◌}
use native.Mathlib.Omega.{arith}
use native.Mathlib.Decide.{dec_lt}
use mathlib.Core.Path.{◌≡◌, refl, sym, ap, ap₂, ◌∙◌}
use mathlib.Core.Bool.{Bool}
use mathlib.Core.Option.{Option, none, some}
use mathlib.Core.List.{List, ◌∷◌, map}
use lib.ListN.{length, get_or, set}
use lib.Seq.{get_or-set_same, get_or-set_other}
use package.Rattle.rules.specs.Val.{Val, same}
use package.Rattle.rules.specs.Term.{look}
use package.Rattle.rules.specs.Yield.{may_be}
use package.Rattle.rules.proofs.Scope.{look_skip, look_newest, look_none}
use package.Rattle.valuegraph.specs.Nodes.{value_at, Heap, Agree}
use package.Rattle.valuegraph.proofs.Heaps.{value-kept}
use package.Rattle.scopes.specs.Slots.{unknown, meaning, state_at}
use package.Rattle.scopes.proofs.Marks.{found-node}
use package.Rattle.yields.proofs.Judging.{judged_yes, judged_as}
use Rattle.yields.specs.declared.Answer.{Answer}
use Rattle.yields.specs.declared.Answer.TheVariants.{Yes}
use package.Rattle.yields.specs.Yields.{Judges, ancillae_at, Ancillae}

----------------------------------------------------------------
-- What each variable has

pub length-ancillae : (heap slots : List ℕ) (base q : ℕ) → length (ancillae_at heap slots base q) ≡ q
unfolding ancillae_at
length-ancillae heap slots base zero = refl
length-ancillae heap slots base (suc q) = ap suc (length-ancillae heap slots base q)

-- an ancilla parameter its own value
pub look_ancilla : (heap slots : List ℕ) (base q i : ℕ) → i < q → look (ancillae_at heap slots base q) i ≡ some (value_at heap (get_or slots (base + i) 0))
unfolding ancillae_at
look_ancilla heap slots base zero i l = absurd (omega arith)
look_ancilla heap slots base (suc q) i l = go (dec_lt i q) (λ l. look_ancilla heap slots base q i l)
  where
    newest : Val
    newest = value_at heap (get_or slots (base + q) 0)

    older : List Val
    older = ancillae_at heap slots base q

    own : ℕ → Option Val
    own i = some (value_at heap (get_or slots (base + i) 0))

    go : Dec (i < q) → (i < q → look older i ≡ own i) → look (newest ∷ older) i ≡ own i
    go (yes x) s = look_skip older newest i (let z : length older ≡ q = length-ancillae heap slots base q in omega arith) ∙ s x
    go (no x) s =
        let e : q ≡ i = omega arith in
        ap (look (newest ∷ older)) (sym e ∙ sym (length-ancillae heap slots base q)) ∙ look_newest newest older ∙ ap own e

-- and no other variable is one
pub look_other : (heap slots : List ℕ) (base q i : ℕ) → q ≤ i → look (ancillae_at heap slots base q) i ≡ none
look_other heap slots base q i l = look_none _ i (let z : length (ancillae_at heap slots base q) ≡ q = length-ancillae heap slots base q in omega arith)

----------------------------------------------------------------
-- What the slot of a variable says of it

-- an ancilla parameter yields its own value, another variable any
module _ (heap slots : List ℕ) (base q i : ℕ) (v : Val) where
  pub yields_own : i < q → {node : ℕ} {r : Answer} {exact : Bool} → node ≡ get_or slots (base + i) 0 → Judges exact r (same (value_at heap node) v)
      → Judges exact r (may_be (look (ancillae_at heap slots base q) i) v)
  unfolding may_be
  yields_own l e p = judged_as p (sym (ap (λ o. may_be o v) (look_ancilla heap slots base q i l ∙ ap (λ n. some (value_at heap n)) (sym e))))

  pub yields-any : q ≤ i → {exact : Bool} → Judges exact Yes (may_be (look (ancillae_at heap slots base q) i) v)
  unfolding may_be
  yields-any l = judged_yes (ap (λ o. may_be o v) (look_other heap slots base q i l))

----------------------------------------------------------------
-- Scopes

fewer : {slots : List ℕ} {base q top : ℕ} → Ancillae slots base (suc q) top → Ancillae slots base q top
fewer A = record { there = omega (arith, A.there); known = λ i l. A.known i (omega arith) }

-- the scope of the ancilla parameters alone: all is known
pub state-ancillae : (heap slots : List ℕ) (base q top : ℕ) → Ancillae slots base q top → top ≤ unknown
    → state_at heap slots base q ≡ map some (ancillae_at heap slots base q)
unfolding state_at ancillae_at
state-ancillae heap slots base zero top A small = refl
state-ancillae heap slots base (suc q) top A small =
    ap₂ ◌∷◌
    (ap (meaning heap) (found-node heap _ (let z : get_or slots (base + q) 0 < top = A.known q (omega arith) in omega arith)))
    (state-ancillae heap slots base q top (fewer A) small)

-- slots that agree below the parameters' end
pub ancillae-same : (heap slots slots' : List ℕ) (base q : ℕ) → ((j : ℕ) → j < base + q → get_or slots j 0 ≡ get_or slots' j 0)
    → ancillae_at heap slots base q ≡ ancillae_at heap slots' base q
unfolding ancillae_at
ancillae-same heap slots slots' base zero s = refl
ancillae-same heap slots slots' base (suc q) s =
    ap₂ ◌∷◌ (ap (value_at heap) (s (base + q) (omega arith))) (ancillae-same heap slots slots' base q λ j l. s j (omega arith))

-- a heap that has grown
pub ancillae-kept : (heap heap' slots : List ℕ) (base q top : ℕ) → Heap heap top → Agree top heap heap' → Ancillae slots base q top
    → ancillae_at heap slots base q ≡ ancillae_at heap' slots base q
unfolding ancillae_at
ancillae-kept heap heap' slots base zero top H G A = refl
ancillae-kept heap heap' slots base (suc q) top H G A =
    ap₂ ◌∷◌ (value-kept heap heap' top H G _ (A.known q (omega arith))) (ancillae-kept heap heap' slots base q top H G (fewer A))

-- one more parameter is bound
pub ancillae_bind : (heap slots : List ℕ) (base q node : ℕ) → base + q < length slots
    → ancillae_at heap (set slots (base + q) node) base (suc q) ≡ value_at heap node ∷ ancillae_at heap slots base q
unfolding ancillae_at
ancillae_bind heap slots base q node l =
    ap₂ ◌∷◌ (ap (value_at heap) (get_or-set_same slots (base + q) node 0 l))
    (ancillae-same heap (set slots (base + q) node) slots base q λ j h. get_or-set_other slots (base + q) j node 0 (λ e. omega arith))
