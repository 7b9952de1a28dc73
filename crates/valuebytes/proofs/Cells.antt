-- Cells: what a variable names, cells that are kept, one cell more.
use Prim.Native.Nat.{ℕ, zero, suc, ◌+◌, ◌-◌, ◌≤◌, ◌<◌}
use native.Mathlib.Omega.{arith}
use native.Mathlib.Decide.{dec_lt}
use mathlib.Core.Path.{◌≡◌, refl, sym, ap, subst, ◌∙◌}
use mathlib.Core.Bool.{true}
use mathlib.Core.List.{List, [], ◌∷◌}
use lib.ListN.{length, get_or, set}
use lib.Seq.{get_or-set_same, take-set-le}
use borrow.Author.Tests.{ltb-true}
use package.Rattle.rules.specs.Ty.{Ty, one}
use package.Rattle.calls.specs.Fields.{kind_at}
use package.Rattle.calls.specs.Entries.{TypeEntry, type_of}
use package.Rattle.calls.specs.Tested.{closed}
use package.Rattle.program.specs.Parts.{variable}
use package.Rattle.program.specs.Kinds.{recursive_kind, type_variable_kind}
use package.Rattle.valuebytes.specs.declared.walk.Scoped.{Scoped}
use package.Rattle.valuebytes.specs.Scopes.{plugs, outward, scope_below, scope_of, type_under}
use package.Rattle.valuebytes.specs.Typing.{entries_of, TypesRead, Cell, Cells, Bound, Resolved}
use package.Rattle.program.specs.declared.kinds.TypeKind.{TypeKind}
use package.Rattle.program.specs.declared.kinds.TypeKind.TheVariants as K
use package.Rattle.program.specs.KindNumbers.{type_kind_number}
use package.Rattle.program.proofs.Rooms.{tyvar-room}
use package.Rattle.valuebytes.specs.Stack.{scoped, entries_in, cells_in}
use package.Rattle.valuebytes.proofs.ByteKinds.{no-variable-kind}
use package.Rattle.valuebytes.proofs.Columns.{scoped_at}
use package.Rattle.valuebytes.proofs.Plugs.{plugs-var}
use package.Rattle.valuebytes.proofs.Scopes.{Kept, kept_at, scope_kept, scope-unfolds}
use package.Rattle.valuebytes.proofs.Trees.{tree-var}

pub scope_none : (ys : List TypeEntry) (binders outer : List ℕ) → scope_of ys binders outer 0 ≡ []
unfolding scope_of scope_below
scope_none ys binders outer = refl

pub outward-start : (outer : List ℕ) (cell : ℕ) → cell ≡ outward 0 outer cell
unfolding outward
outward-start outer cell = refl

-- one cell outward
pub outward-turn : (n : ℕ) (outer : List ℕ) (cell e i : ℕ) → e ≡ outward n outer cell → i ≡ e → get_or outer i 0 ≡ outward (n + 1) outer cell
unfolding outward
outward-turn n outer cell e i p q = ap (λ i. get_or outer i 0) (q ∙ p) ∙ ap (λ m. outward m outer cell) (let z : suc n ≡ n + 1 = omega arith in z)

----------------------------------------------------------------
-- What a variable names

module _ (xs os binders outer : List ℕ) (cell : ℕ) (C : Cells xs os binders outer cell) where
  abbrev scope : ℕ → List Ty
  scope e = scope_of (entries_of xs os) binders outer e

  unfolds : (e : ℕ) → 0 < e → e ≤ cell → scope e ≡ type_under (entries_of xs os) binders outer (get_or outer e 0) (get_or binders e 0) ∷ scope (get_or outer e 0)
  unfolds = scope-unfolds (entries_of xs os) binders outer cell λ e p l. (C.cell e p l).lower

  -- cell `e`, with `n` cells still to be skipped, names what variable `k` does from `cell`
  pub record Skipping (k e n : ℕ) : Type 0 where
    pub within : e ≤ cell
    pub deep : n < length (scope e)
    pub named : get_or (scope cell) k one ≡ get_or (scope e) n one

  in_scope : (e n : ℕ) → n < length (scope e) → 0 < e
  in_scope zero n h = absurd (omega (arith, ap length (scope_none (entries_of xs os) binders outer)))
  in_scope (suc e) n h = omega arith

  -- one cell is skipped
  pub skip_turn : (k e n : ℕ) → Skipping k e n → 0 < n → Skipping k (get_or outer e 0) (n - 1)
  skip_turn k e zero S pos = absurd (omega arith)
  skip_turn k e (suc n) S pos =
      let p : 0 < e = in_scope e (suc n) S.deep in
      let m : suc n - 1 ≡ n = omega arith in
      let low : get_or outer e 0 < e = (C.cell e p S.within).lower in
      let deep : suc n < suc (length (scope (get_or outer e 0))) = subst (λ σ. suc n < length σ) (unfolds e p S.within) S.deep in
      let w : e ≤ cell = S.within in
      record {
        within = omega arith;
        deep = omega arith;
        named = S.named ∙ ap (λ σ. get_or σ (suc n) one) (unfolds e p S.within) ∙ ap (λ n. get_or (scope (get_or outer e 0)) n one) (sym m);
      }

  pub skipping : (k : ℕ) → k < length (scope cell) → (n : ℕ) → n ≤ k → Skipping k (outward n outer cell) (k - n)
  unfolding outward
  skipping k deep zero h =
      let m : k ≡ k - 0 = omega arith in
      record { within = omega arith; deep = omega arith; named = ap (λ n. get_or (scope cell) n one) m }
  skipping k deep (suc n) h = subst (λ m. Skipping k (get_or outer (outward n outer cell) 0) m) (let z : k - n - 1 ≡ k - suc n = omega arith in z)
      (skip_turn k (outward n outer cell) (k - n) (skipping k deep n (omega arith)) (omega arith))

  -- every cell on the way is within
  pub outward-within : (k : ℕ) → k < length (scope cell) → (n : ℕ) → n ≤ k → (0 < outward n outer cell) × (outward n outer cell ≤ cell)
  outward-within k deep n h = let S = skipping k deep n h in (in_scope _ (k - n) S.deep, S.within)

  -- what variable `k` names
  pub outward_named : (k : ℕ) → k < length (scope cell)
      → get_or (scope cell) k one ≡ type_under (entries_of xs os) binders outer (get_or outer (outward k outer cell) 0) (get_or binders (outward k outer cell) 0)
  outward_named k deep =
      let S = skipping k deep k (omega arith) in
      let w = outward-within k deep k (omega arith) in
      S.named ∙ ap (λ n. get_or (scope (outward k outer cell)) n one) (let z : k - k ≡ 0 = omega arith in z)
      ∙ ap (λ σ. get_or σ 0 one) (unfolds (outward k outer cell) w.0 w.1)

  -- a variable that is bound has its cell
  pub variable-deep : (i : ℕ) → TypesRead xs os → Bound xs os binders outer cell cell i → 4 ≤ kind_at xs (get_or os i 0)
      → variable xs (get_or os i 0) < length (scope cell)
  unfolding closed
  variable-deep i T B h = ltb-true _ _ (subst (λ c. closed (length (scope cell)) c ≡ true) (tree-var xs os T i B.known h) B.closes)

module _ (xs os binders outer : List ℕ) (t : Scoped) (T : TypesRead xs os) (C : Cells xs os binders outer t.cell)
    (B : Bound xs os binders outer t.cell t.cell t.entry) where
  variable-within : (k : ℕ) → k ≡ variable xs (get_or os t.entry 0) → 4 ≤ kind_at xs (get_or os t.entry 0)
      → (n : ℕ) → n ≤ k → (0 < outward n outer t.cell) × (outward n outer t.cell ≤ t.cell)
  variable-within k e h n l =
      let deep : variable xs (get_or os t.entry 0) < length (scope_of (entries_of xs os) binders outer t.cell) = variable-deep xs os binders outer t.cell C t.entry T B h in
      outward-within xs os binders outer t.cell C k (omega arith) n l

  resolved-shown : kind_at xs (get_or os t.entry 0) < type_variable_kind → Resolved xs os binders outer t t
  resolved-shown h = record { bound = B; shown = h; same = refl }

  -- the entry and the outer cell of the cell that a variable names
  resolved : 4 ≤ kind_at xs (get_or os t.entry 0) → (e : ℕ) → e ≡ outward (variable xs (get_or os t.entry 0)) outer t.cell
      → Resolved xs os binders outer t (record { entry = get_or binders e 0; cell = get_or outer e 0 })
  unfolding type_under
  resolved h e p =
      let σ = scope_of (entries_of xs os) binders outer t.cell in
      let k = variable xs (get_or os t.entry 0) in
      let deep = variable-deep xs os binders outer t.cell C t.entry T B h in
      let w : (0 < e) × (e ≤ t.cell) = subst (λ e. (0 < e) × (e ≤ t.cell)) (sym p) (outward-within xs os binders outer t.cell C k deep k (omega arith)) in
      let c = C.cell e w.0 w.1 in
      let low : get_or outer e 0 < e = c.lower in
      let kind : kind_at xs (get_or os (get_or binders e 0) 0) ≡ recursive_kind = c.recursive in
      record {
        bound = record { known = c.known; within = omega arith; closes = c.closes };
        shown = omega arith;
        same = sym (ap (plugs 0 σ) (tree-var xs os T t.entry B.known h) ∙ plugs-var σ k ∙ outward_named xs os binders outer t.cell C k deep
            ∙ ap (λ e. type_under (entries_of xs os) binders outer (get_or outer e 0) (get_or binders e 0)) (sym p));
      }

----------------------------------------------------------------
-- Cells that are kept

module _ (xs os binders outer binders' outer' : List ℕ) (top : ℕ) (C : Cells xs os binders outer top) (kb : Kept top binders binders') (ko : Kept top outer outer') where
  same-scope : (e : ℕ) → e ≤ top → scope_of (entries_of xs os) binders' outer' e ≡ scope_of (entries_of xs os) binders outer e
  same-scope = scope_kept (entries_of xs os) binders outer top (λ e p l. (C.cell e p l).lower) binders' outer' kb ko

  pub under-kept : (e i : ℕ) → e ≤ top → type_under (entries_of xs os) binders' outer' e i ≡ type_under (entries_of xs os) binders outer e i
  unfolding type_under
  under-kept e i l = ap (λ σ. plugs 0 σ (type_of (entries_of xs os) i)) (same-scope e l)

  pub bound-kept : (e i : ℕ) → Bound xs os binders outer top e i → Bound xs os binders' outer' top e i
  bound-kept e i B = record {
    known = B.known;
    within = B.within;
    closes = subst (λ σ. closed (length σ) (type_of (entries_of xs os) i) ≡ true) (sym (same-scope e B.within)) B.closes;
  }

  pub cells_kept : Cells xs os binders' outer' top
  cells_kept = record {
    cell = λ e p l.
        let c = C.cell e p l in
        let b : get_or binders e 0 ≡ get_or binders' e 0 = sym (kept_at top binders binders' kb e l) in
        let o : get_or outer e 0 ≡ get_or outer' e 0 = sym (kept_at top outer outer' ko e l) in
        let low : get_or outer e 0 < e = c.lower in
        record {
          lower = subst (λ n. n < e) o low;
          known = subst (λ n. n < length os) b c.known;
          recursive = subst (λ n. kind_at xs (get_or os n 0) ≡ recursive_kind) b c.recursive;
          closes = subst (λ n. closed (length (scope_of (entries_of xs os) binders' outer' n)) (type_of (entries_of xs os) (get_or binders' e 0)) ≡ true) o
              (subst (λ σ. closed (length σ) (type_of (entries_of xs os) (get_or binders' e 0)) ≡ true) (sym (same-scope (get_or outer e 0) (omega arith)))
              (subst (λ n. closed (length (scope_of (entries_of xs os) binders outer (get_or outer e 0))) (type_of (entries_of xs os) n) ≡ true) b c.closes));
        };
  }

----------------------------------------------------------------
-- One cell more

module _ (xs os binders outer : List ℕ) (top cell entry : ℕ) (C : Cells xs os binders outer top) (B : Bound xs os binders outer top cell entry)
    (long : top + 1 < length binders) (long' : top + 1 < length outer) where
  abbrev binders⁺ : List ℕ
  binders⁺ = set binders (top + 1) entry

  abbrev outer⁺ : List ℕ
  outer⁺ = set outer (top + 1) cell

  binders_push : Kept top binders binders⁺
  binders_push = take-set-le (suc top) binders (top + 1) entry (omega arith)

  outer-push : Kept top outer outer⁺
  outer-push = take-set-le (suc top) outer (top + 1) cell (omega arith)

  new_binder : get_or binders⁺ (top + 1) 0 ≡ entry
  new_binder = get_or-set_same binders (top + 1) entry 0 long

  new-outer : get_or outer⁺ (top + 1) 0 ≡ cell
  new-outer = get_or-set_same outer (top + 1) cell 0 long'

  old : Cells xs os binders⁺ outer⁺ top
  old = cells_kept xs os binders outer binders⁺ outer⁺ top C binders_push outer-push

  bound⁺ : Bound xs os binders⁺ outer⁺ top cell entry
  bound⁺ = bound-kept xs os binders outer binders⁺ outer⁺ top C binders_push outer-push cell entry B

  pub cells_push : kind_at xs (get_or os entry 0) ≡ recursive_kind → Cells xs os binders⁺ outer⁺ (top + 1)
  cells_push k = record { cell = λ e p l. go e p l (dec_lt top e) }
    where
      last : Cell xs os binders⁺ outer⁺ (top + 1)
      last =
          let w : cell ≤ top = B.within in
          record {
            lower = subst (λ n. n < top + 1) (sym new-outer) (omega arith);
            known = subst (λ n. n < length os) (sym new_binder) B.known;
            recursive = subst (λ n. kind_at xs (get_or os n 0) ≡ recursive_kind) (sym new_binder) k;
            closes = subst (λ n. closed (length (scope_of (entries_of xs os) binders⁺ outer⁺ n)) (type_of (entries_of xs os) (get_or binders⁺ (top + 1) 0)) ≡ true) (sym new-outer)
                (subst (λ n. closed (length (scope_of (entries_of xs os) binders⁺ outer⁺ cell)) (type_of (entries_of xs os) n) ≡ true) (sym new_binder) bound⁺.closes);
          }

      go : (e : ℕ) → 0 < e → e ≤ top + 1 → Dec (top < e) → Cell xs os binders⁺ outer⁺ e
      go e p l (no h) = old.cell e p (omega arith)
      go e p l (yes h) = subst (λ e. Cell xs os binders⁺ outer⁺ e) (let z : top + 1 ≡ e = omega arith in z) last

  -- the new cell's scope
  pub scope-push : kind_at xs (get_or os entry 0) ≡ recursive_kind
      → scope_of (entries_of xs os) binders⁺ outer⁺ (top + 1) ≡ type_under (entries_of xs os) binders outer cell entry ∷ scope_of (entries_of xs os) binders outer cell
  scope-push k =
      scope-unfolds (entries_of xs os) binders⁺ outer⁺ (top + 1) (λ e p l. ((cells_push k).cell e p l).lower) (top + 1) (omega arith) (omega arith)
      ∙ ap (λ e. type_under (entries_of xs os) binders⁺ outer⁺ e (get_or binders⁺ (top + 1) 0) ∷ scope_of (entries_of xs os) binders⁺ outer⁺ e) new-outer
      ∙ ap (λ i. type_under (entries_of xs os) binders⁺ outer⁺ cell i ∷ scope_of (entries_of xs os) binders⁺ outer⁺ cell) new_binder
      ∙ ap (λ c. c ∷ scope_of (entries_of xs os) binders⁺ outer⁺ cell) (under-kept xs os binders outer binders⁺ outer⁺ top C binders_push outer-push cell entry B.within)
      ∙ ap (λ σ. type_under (entries_of xs os) binders outer cell entry ∷ σ) (same-scope xs os binders outer binders⁺ outer⁺ top C binders_push outer-push cell B.within)

----------------------------------------------------------------
-- A variable, as the code finds it

module _ (xs os : List ℕ) (cells : List Scoped) (t : Scoped) (T : TypesRead xs os) (C : Cells xs os (entries_in cells) (cells_in cells) t.cell)
    (B : Bound xs os (entries_in cells) (cells_in cells) t.cell t.cell t.entry) where
  abbrev place : ℕ
  place = get_or os t.entry 0

  module _ {at : ℕ} (there : at ≡ place) where
    -- of a type that is no variable the entry stands for itself
    pub variable-not : {kind : TypeKind} → type_kind_number kind ≡ kind_at xs at → (kind ≡ K.Variable → ⊥) → Resolved xs os (entries_in cells) (cells_in cells) t t
    variable-not {kind} e n = resolved-shown xs os (entries_in cells) (cells_in cells) t T C B (omega (arith, no-variable-kind kind n, e ∙ ap (kind_at xs) there))

    module _ {kind : TypeKind} (e : type_kind_number kind ≡ kind_at xs at) (is : kind ≡ K.Variable) where
      shown : kind_at xs place ≡ type_variable_kind
      shown = sym (ap type_kind_number (sym is) ∙ e ∙ ap (kind_at xs) there)

      pub variable-room : at + 5 ≤ length xs
      variable-room = omega (arith, there, tyvar-room (T.field _ B.known) shown)

      module _ {k : ℕ} (number : k ≡ variable xs at) where
        number⁺ : k ≡ variable xs place
        number⁺ = number ∙ ap (variable xs) there

        pub variable-cells : (n : ℕ) → n ≤ k → (0 < outward n (cells_in cells) t.cell) × (outward n (cells_in cells) t.cell ≤ t.cell)
        variable-cells = variable-within xs os (entries_in cells) (cells_in cells) t T C B k number⁺ (omega (arith, shown))

        pub variable-is : {c e : ℕ} → e ≡ c → c ≡ outward k (cells_in cells) t.cell → Resolved xs os (entries_in cells) (cells_in cells) t (get_or cells e (scoped 0 0))
        variable-is {c} {e} f g =
            subst (Resolved xs os (entries_in cells) (cells_in cells) t) (sym (scoped_at cells e))
            (resolved xs os (entries_in cells) (cells_in cells) t T C B (omega (arith, shown)) e (f ∙ g ∙ ap (λ n. outward n (cells_in cells) t.cell) number⁺))
