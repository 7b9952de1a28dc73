-- The types that cells stand for: one cell more, cells that are kept, and what a variable names.
use Prim.Native.Nat.{ℕ, zero, suc, ◌≤◌, ◌<◌}
use native.Mathlib.Omega.{arith}
use mathlib.Core.Path.{◌≡◌, refl, sym, ap, ap₂, ◌∙◌}
use mathlib.Core.List.{List, ◌∷◌}
use lib.ListN.{get_or, take}
use lib.Seq.{get_or-take}
use package.Rattle.calls.specs.Entries.{TypeEntry, type_of}
use package.Rattle.calls.specs.Tested.{closed}
use package.Rattle.valuebytes.specs.Scopes.{plugs, scope_below, scope_of, type_under}
use package.Rattle.valuebytes.proofs.Plugs.{AllClosed, closed-plugs}

----------------------------------------------------------------
-- Closed

scope-closed-below : (n : ℕ) (ys : List TypeEntry) (binders outer : List ℕ) (e : ℕ) → AllClosed (scope_below n ys binders outer e)
unfolding scope_below closed
scope-closed-below zero ys binders outer e k = refl
scope-closed-below (suc n) ys binders outer zero k = refl
scope-closed-below (suc n) ys binders outer (suc e) zero = closed-plugs _ (scope-closed-below n ys binders outer (get_or outer (suc e) 0)) 0 (type_of ys (get_or binders (suc e) 0))
scope-closed-below (suc n) ys binders outer (suc e) (suc k) = scope-closed-below n ys binders outer (get_or outer (suc e) 0) k

pub scope-closed : (ys : List TypeEntry) (binders outer : List ℕ) (e : ℕ) → AllClosed (scope_of ys binders outer e)
unfolding scope_of
scope-closed ys binders outer e = scope-closed-below e ys binders outer e

----------------------------------------------------------------
-- Cells up to `top` whose outer cells are lower

-- the front of a list, cell `top` included, is kept
abbrev pub Kept : ℕ → List ℕ → List ℕ → Type 0
Kept top l l' = take (suc top) l' ≡ take (suc top) l

pub kept_at : (top : ℕ) (l l' : List ℕ) → Kept top l l' → (e : ℕ) → e ≤ top → get_or l' e 0 ≡ get_or l e 0
kept_at top l l' k e h =
    sym (get_or-take (suc top) l' e 0 (omega arith)) ∙ ap (λ l. get_or l e 0) k ∙ get_or-take (suc top) l e 0 (omega arith)

module _ (ys : List TypeEntry) (binders outer : List ℕ) (top : ℕ) (low : (e : ℕ) → 0 < e → e ≤ top → get_or outer e 0 < e) where
  -- neither the bound of the recursion nor what stands behind `top` matters
  scope-agrees : (binders' outer' : List ℕ) → Kept top binders binders' → Kept top outer outer' → (n m e : ℕ) → e ≤ n → e ≤ m → e ≤ top
      → scope_below n ys binders' outer' e ≡ scope_below m ys binders outer e
  unfolding scope_below
  scope-agrees binders' outer' kb ko zero zero e h h' l = refl
  scope-agrees binders' outer' kb ko zero (suc m) zero h h' l = refl
  scope-agrees binders' outer' kb ko zero (suc m) (suc e) h h' l = absurd (omega arith)
  scope-agrees binders' outer' kb ko (suc n) zero zero h h' l = refl
  scope-agrees binders' outer' kb ko (suc n) zero (suc e) h h' l = absurd (omega arith)
  scope-agrees binders' outer' kb ko (suc n) (suc m) zero h h' l = refl
  scope-agrees binders' outer' kb ko (suc n) (suc m) (suc e) h h' l =
      let p : get_or outer (suc e) 0 < suc e = low (suc e) (omega arith) l in
      ap₂ (λ b o. plugs 0 (scope_below n ys binders' outer' o) (type_of ys b) ∷ scope_below n ys binders' outer' o)
      (kept_at top binders binders' kb (suc e) l) (kept_at top outer outer' ko (suc e) l)
      ∙ ap (λ σ. plugs 0 σ (type_of ys (get_or binders (suc e) 0)) ∷ σ)
      (scope-agrees binders' outer' kb ko n m (get_or outer (suc e) 0) (omega arith) (omega arith) (omega arith))

  pub scope_kept : (binders' outer' : List ℕ) → Kept top binders binders' → Kept top outer outer' → (e : ℕ) → e ≤ top
      → scope_of ys binders' outer' e ≡ scope_of ys binders outer e
  unfolding scope_of
  scope_kept binders' outer' kb ko e l = scope-agrees binders' outer' kb ko e e e (omega arith) (omega arith) l

  -- the scope of a cell, from that of its outer cell
  pub scope-unfolds : (e : ℕ) → 0 < e → e ≤ top
      → scope_of ys binders outer e ≡ type_under ys binders outer (get_or outer e 0) (get_or binders e 0) ∷ scope_of ys binders outer (get_or outer e 0)
  unfolding scope_of scope_below type_under
  scope-unfolds zero pos l = absurd (omega arith)
  scope-unfolds (suc e) pos l =
      let p : get_or outer (suc e) 0 < suc e = low (suc e) pos l in
      ap (λ σ. plugs 0 σ (type_of ys (get_or binders (suc e) 0)) ∷ σ)
      (scope-agrees binders outer refl refl e (get_or outer (suc e) 0) (get_or outer (suc e) 0) (omega arith) (omega arith) (omega arith))
