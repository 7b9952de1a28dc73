-- The stack of pending types: one taken, one more, and one more cell under it.
use Prim.Native.Nat.{ℕ, zero, suc, ◌+◌, ◌≤◌, ◌<◌}
use native.Mathlib.Omega.{arith}
use native.Mathlib.Decide.{dec_lt}
use mathlib.Core.Path.{◌≡◌, refl, sym, ap₂, subst, ◌∙◌}
use mathlib.Core.List.{List, ◌∷◌}
use lib.ListN.{get_or, set, length-set}
use lib.Seq.{get_or-set_same, get_or-set_other, take-set-le}
use package.Rattle.calls.specs.Fields.{kind_at}
use package.Rattle.calls.specs.Entries.{TypeEntry}
use package.Rattle.program.specs.Kinds.{recursive_kind}
use package.Rattle.valuebytes.specs.Scopes.{type_under}
use package.Rattle.valuebytes.specs.Typing.{entries_of, room, Bound}
use package.Rattle.valuebytes.specs.Stack.{pending_types, Stack}
use package.Rattle.valuebytes.proofs.Scopes.{Kept}
use package.Rattle.valuebytes.proofs.Cells.{under-kept, bound-kept, cells_push}

-- the last one is taken
pub pop : {xs os binders outer entries cells : List ℕ} {top n : ℕ} → Stack xs os binders outer entries cells top (suc n) → Stack xs os binders outer entries cells top n
pop S = record {
  table = S.table;
  cells_to = S.cells_to;
  bound = λ k l. S.bound k (omega arith);
  long_binders = S.long_binders;
  long_outer = S.long_outer;
  long_entries = S.long_entries;
  long_cells = S.long_cells;
}

----------------------------------------------------------------
-- One more

-- what is pending below place `p` is kept
pending-set : (ys : List TypeEntry) (binders outer entries cells : List ℕ) (p i e n : ℕ) → n ≤ p
    → pending_types ys binders outer (set entries p i) (set cells p e) n ≡ pending_types ys binders outer entries cells n
unfolding pending_types
pending-set ys binders outer entries cells p i e zero h = refl
pending-set ys binders outer entries cells p i e (suc n) h =
    ap₂ (λ a b. a ∷ b)
    (ap₂ (λ c j. type_under ys binders outer c j) (get_or-set_other cells p n e 0 (λ q. omega arith)) (get_or-set_other entries p n i 0 (λ q. omega arith)))
    (pending-set ys binders outer entries cells p i e n (omega arith))

module _ {xs os binders outer entries cells : List ℕ} {top n : ℕ} (S : Stack xs os binders outer entries cells top n) (e i : ℕ)
    (B : Bound xs os binders outer top e i) (h : n < room) where
  pub push : Stack xs os binders outer (set entries n i) (set cells n e) top (suc n)
  push = record {
    table = S.table;
    cells_to = S.cells_to;
    bound = λ k l. go k l (dec_lt k n);
    long_binders = S.long_binders;
    long_outer = S.long_outer;
    long_entries = length-set entries n i ∙ S.long_entries;
    long_cells = length-set cells n e ∙ S.long_cells;
  }
    where
      go : (k : ℕ) → k < suc n → Dec (k < n) → Bound xs os binders outer top (get_or (set cells n e) k 0) (get_or (set entries n i) k 0)
      go k l (yes p) =
          subst (λ c. Bound xs os binders outer top c (get_or (set entries n i) k 0)) (sym (get_or-set_other cells n k e 0 (λ q. omega arith)))
          (subst (Bound xs os binders outer top (get_or cells k 0)) (sym (get_or-set_other entries n k i 0 (λ q. omega arith))) (S.bound k p))
      go k l (no p) = subst (λ k. Bound xs os binders outer top (get_or (set cells n e) k 0) (get_or (set entries n i) k 0)) (let z : n ≡ k = omega arith in z)
          (subst (λ c. Bound xs os binders outer top c (get_or (set entries n i) n 0)) (sym (get_or-set_same cells n e 0 (omega (arith, S.long_cells))))
          (subst (Bound xs os binders outer top e) (sym (get_or-set_same entries n i 0 (omega (arith, S.long_entries)))) B))

  pub push-types : pending_types (entries_of xs os) binders outer (set entries n i) (set cells n e) (suc n)
      ≡ type_under (entries_of xs os) binders outer e i ∷ pending_types (entries_of xs os) binders outer entries cells n
  unfolding pending_types
  push-types =
      ap₂ (λ a b. a ∷ b)
      (ap₂ (λ c j. type_under (entries_of xs os) binders outer c j) (get_or-set_same cells n e 0 (omega (arith, S.long_cells))) (get_or-set_same entries n i 0 (omega (arith, S.long_entries))))
      (pending-set (entries_of xs os) binders outer entries cells n i e n (omega arith))

----------------------------------------------------------------
-- One more cell

widen : {xs os binders outer : List ℕ} {top e i : ℕ} → Bound xs os binders outer top e i → Bound xs os binders outer (top + 1) e i
widen {top = top} {e = e} B = record { known = B.known; within = let w : e ≤ top = B.within in omega arith; closes = B.closes }

module _ {xs os binders outer entries cells : List ℕ} {top n : ℕ} (S : Stack xs os binders outer entries cells top n) (e i : ℕ)
    (B : Bound xs os binders outer top e i) (k : kind_at xs (get_or os i 0) ≡ recursive_kind) (h : top + 1 < room) where
  kept_binders : Kept top binders (set binders (top + 1) i)
  kept_binders = take-set-le (suc top) binders (top + 1) i (omega arith)

  kept-outer : Kept top outer (set outer (top + 1) e)
  kept-outer = take-set-le (suc top) outer (top + 1) e (omega arith)

  pub enter : Stack xs os (set binders (top + 1) i) (set outer (top + 1) e) entries cells (top + 1) n
  enter = record {
    table = S.table;
    cells_to = cells_push xs os binders outer top e i S.cells_to B (omega (arith, S.long_binders)) (omega (arith, S.long_outer)) k;
    bound = λ m l. widen (bound-kept xs os binders outer (set binders (top + 1) i) (set outer (top + 1) e) top S.cells_to kept_binders kept-outer _ _ (S.bound m l));
    long_binders = length-set binders (top + 1) i ∙ S.long_binders;
    long_outer = length-set outer (top + 1) e ∙ S.long_outer;
    long_entries = S.long_entries;
    long_cells = S.long_cells;
  }

  pub enter_types : (m : ℕ) → m ≤ n → pending_types (entries_of xs os) (set binders (top + 1) i) (set outer (top + 1) e) entries cells m
      ≡ pending_types (entries_of xs os) binders outer entries cells m
  unfolding pending_types
  enter_types zero l = refl
  enter_types (suc m) l =
      ap₂ (λ a b. a ∷ b)
      (under-kept xs os binders outer (set binders (top + 1) i) (set outer (top + 1) e) top S.cells_to kept_binders kept-outer (get_or cells m 0) (get_or entries m 0)
      (S.bound m (omega arith)).within)
      (enter_types m (omega arith))
