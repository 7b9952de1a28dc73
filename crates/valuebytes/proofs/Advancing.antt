-- One byte of a value: what was pending last is taken, and the stack has its parts instead.
use Prim.Native.Nat.{ℕ, suc, ◌+◌, ◌-◌, ◌≤◌, ◌<◌}
use native.Mathlib.Omega.{arith}
use native.Mathlib.Nat.{le_refl}
use native.Mathlib.Numerals.{add-one}
use mathlib.Core.Path.{◌≡◌, sym, ap, subst, ◌∙◌}
use mathlib.Core.Option.{Option, none, some}
use mathlib.Core.List.{List, ◌∷◌}
use lib.ListN.{length, get_or, set}
use package.Rattle.rules.specs.Ty.{Ty, unfold_ty}
use package.Rattle.calls.specs.Entries.{type_at, type_of}
use package.Rattle.program.specs.Parts.{first}
use Rattle.std.specs.Prelude.{Option as Found, Some, None}
use package.Rattle.valuebytes.specs.declared.table.Parts.{Parts}
use package.Rattle.valuebytes.specs.declared.table.Parts.TheVariants as parts
use package.Rattle.valuebytes.specs.declared.walk.Scoped.{Scoped}
use package.Rattle.valuebytes.specs.declared.walk.Walk.{Walk}
use package.Rattle.valuebytes.specs.Scopes.{plugs, scope_of, type_under}
use package.Rattle.valuebytes.specs.Typing.{entries_of, room, Bound, Resolved}
use package.Rattle.valuebytes.specs.Stack.{part_types, parts_of, before, behind, pending_types, Stack, scoped, entries_in, cells_in, Stacked, pending_in, Advanced, TurnLeaves, on, off}
use package.Rattle.valuebytes.proofs.Stack.{pop, push, push-types, enter, enter_types}
use package.Rattle.valuebytes.proofs.Columns.{put_entries, put_cells, scoped_at}
use package.Rattle.valuebytes.proofs.Split.{Split, nothing, single, double, body, wrong, split, body-type, body-bound}

module _ {xs os binders outer entries cells : List ℕ} {top n : ℕ} (S : Stack xs os binders outer entries cells top (suc n)) where
  module _ {u : Scoped} (Z : Resolved xs os binders outer (scoped (get_or entries n 0) (get_or cells n 0)) u) (b : ℕ) where
    bound-there : Bound xs os binders outer top u.cell u.entry
    bound-there =
        let w : get_or cells n 0 ≤ top = (S.bound n (omega arith)).within in
        let w' : u.cell ≤ get_or cells n 0 = Z.bound.within in
        record { known = Z.bound.known; within = omega arith; closes = Z.bound.closes }

    parts-there : {p : Found Parts} → p ≡ parts_of b (type_at xs (get_or os u.entry 0)) → Split xs os binders outer top u.cell u.entry b p
    parts-there e = subst (Split xs os binders outer top u.cell u.entry b) (sym e) (split xs os binders outer top u.cell u.entry b S.table bound-there Z.shown)

    abbrev rest : List Ty
    rest = pending_types (entries_of xs os) binders outer entries cells n

    -- what is pending behind the byte, by the types of the parts
    parts-before : {o : Option (List Ty)} → part_types b (type_under (entries_of xs os) binders outer u.cell u.entry) ≡ o
        → behind b (pending_types (entries_of xs os) binders outer entries cells (suc n)) ≡ before o rest
    unfolding behind pending_types
    parts-before e = ap (λ o. before o rest) (ap (part_types b) (sym Z.same) ∙ e)

    off-wrong : Split xs os binders outer top u.cell u.entry b None
        → behind b (pending_types (entries_of xs os) binders outer entries cells (suc n)) ≡ none
    off-wrong (wrong e) = parts-before e

    on_nothing : Split xs os binders outer top u.cell u.entry b (Some parts.Nothing) → Advanced xs os binders outer entries cells binders outer entries cells top n b top n
    on_nothing (nothing e) = record { stack = pop S; says = parts-before e; few_cells = omega arith; few_pending = omega arith }

    on_one : {i : ℕ} → n < room → Split xs os binders outer top u.cell u.entry b (Some (parts.One i))
        → Advanced xs os binders outer entries cells binders outer (set entries n i) (set cells n u.cell) top n b top (n + 1)
    on_one {i} h (single e B) = rw (add-one n) record {
      stack = push (pop S) u.cell i B h;
      says = parts-before e ∙ ap some (sym (push-types (pop S) u.cell i B h));
      few_cells = omega arith;
      few_pending = omega arith;
    }

    on-two : {i j : ℕ} → n + 1 < room → Split xs os binders outer top u.cell u.entry b (Some (parts.Two i j))
        → Advanced xs os binders outer entries cells binders outer (set (set entries n j) (n + 1) i) (set (set cells n u.cell) (n + 1) u.cell) top n b top (n + 2)
    on-two {i} {j} h (double e B B') = rw (add-one n, let z : n + 2 ≡ suc (suc n) = omega arith in z) record {
      stack = push (push (pop S) u.cell j B' (omega arith)) u.cell i B (omega arith);
      says = parts-before e
          ∙ ap (λ cs. some (type_under (entries_of xs os) binders outer u.cell i ∷ cs)) (sym (push-types (pop S) u.cell j B' (omega arith)))
          ∙ ap some (sym (push-types (push (pop S) u.cell j B' (omega arith)) u.cell i B (omega arith)));
      few_cells = omega arith;
      few_pending = omega arith;
    }

    on-body : {i : ℕ} → n < room → top + 1 < room → Split xs os binders outer top u.cell u.entry b (Some (parts.Body i))
        → Advanced xs os binders outer entries cells (set binders (top + 1) u.entry) (set outer (top + 1) u.cell) (set entries n i) (set cells n (top + 1)) top n b
        (top + 1) (n + 1)
    on-body {i} h h' (body e k f) =
        let ys = entries_of xs os in
        let lb : top + 1 < length binders = omega (arith, S.long_binders) in
        let lo : top + 1 < length outer = omega (arith, S.long_outer) in
        let B = body-bound xs os binders outer top u.cell u.entry b S.table bound-there S.cells_to lb lo k in
        let N = enter (pop S) u.cell u.entry bound-there k h' in
        rw (add-one n, f) record {
          stack = push N (top + 1) _ B h;
          says = parts-before e
              ∙ ap (λ i. some (unfold_ty (plugs 1 (scope_of ys binders outer u.cell) (type_of ys i)) ∷ rest)) f
              ∙ ap (λ c. some (c ∷ rest)) (body-type xs os binders outer top u.cell u.entry b S.table bound-there S.cells_to lb lo k)
              ∙ ap (λ cs. some (type_under ys (set binders (top + 1) u.entry) (set outer (top + 1) u.cell) (top + 1) (first xs (get_or os u.entry 0)) ∷ cs))
              (sym (enter_types (pop S) u.cell u.entry bound-there k h' n (le_refl n)))
              ∙ ap some (sym (push-types N (top + 1) _ B h));
          few_cells = omega arith;
          few_pending = omega arith;
        }

----------------------------------------------------------------
-- As the code writes the arrays of a walk

module _ {xs os : List ℕ} (w : Walk) (S : Stacked xs os w w.count) (pos : 0 < w.count) where
  pub last⁺ : Stacked xs os w (suc (w.count - 1))
  last⁺ = subst (Stacked xs os w) (let z : w.count ≡ suc (w.count - 1) = omega arith in z) S

  module _ {u : Scoped} (Z : Resolved xs os (entries_in w.cells) (cells_in w.cells) (get_or w.pending (w.count - 1) (scoped 0 0)) u) (b : ℕ) where
    Z⁺ : Resolved xs os (entries_in w.cells) (cells_in w.cells) (scoped (get_or (entries_in w.pending) (w.count - 1) 0) (get_or (cells_in w.pending) (w.count - 1) 0)) u
    Z⁺ = subst (λ t. Resolved xs os (entries_in w.cells) (cells_in w.cells) t u) (scoped_at w.pending (w.count - 1)) Z

    abbrev Gives : Found Parts → Type 0
    Gives p = p ≡ parts_of b (type_at xs (get_or os u.entry 0))

    pub turned-wrong : Gives None → (w' : Walk) → TurnLeaves xs os w w' b None
    turned-wrong q w' = off (off-wrong last⁺ Z⁺ b (parts-there last⁺ Z⁺ b q))

    pub turned_nothing : Gives (Some parts.Nothing) → TurnLeaves xs os w (record { cells = w.cells; top = w.top; pending = w.pending; count = w.count - 1 }) b (Some tt)
    turned_nothing q = on (on_nothing last⁺ Z⁺ b (parts-there last⁺ Z⁺ b q))

    pub turned-one : {i : ℕ} {w' : Walk} → Gives (Some (parts.One i)) → w.count < room → w'.pending ≡ set w.pending (w.count - 1) (scoped i u.cell)
        → w'.count ≡ w.count - 1 + 1 → (w'.cells ≡ w.cells) × (w'.top ≡ w.top) → TurnLeaves xs os w w' b (Some tt)
    turned-one {i} {w'} q h p c s = on (rw (put_entries _ _ _ p, put_cells _ _ _ p, s.0, s.1, c) (on_one last⁺ Z⁺ b (omega arith) (parts-there last⁺ Z⁺ b q)))

    pub turned_two : {i j : ℕ} {w' w'' : Walk} → Gives (Some (parts.Two i j)) → w.count < room → w'.pending ≡ set w.pending (w.count - 1) (scoped j u.cell)
        → w'.count ≡ w.count - 1 + 1 → (w'.cells ≡ w.cells) × (w'.top ≡ w.top)
        → w''.pending ≡ set w'.pending w'.count (scoped i u.cell) → w''.count ≡ w'.count + 1 → (w''.cells ≡ w'.cells) × (w''.top ≡ w'.top)
        → TurnLeaves xs os w w'' b (Some tt)
    turned_two {i} {j} q h p c s p' c' s' =
        let z : w.count - 1 + 1 + 1 ≡ w.count - 1 + 2 = omega arith in
        on (rw (put_entries _ _ _ p', put_cells _ _ _ p', s'.0, s'.1, c', c, put_entries _ _ _ p, put_cells _ _ _ p, s.0, s.1, z) (on-two last⁺ Z⁺ b (omega arith) (parts-there last⁺ Z⁺ b q)))

    pub turned-body : {i : ℕ} {w' : Walk} → Gives (Some (parts.Body i)) → (w.top + 1 < room) × (w.count < room)
        → w'.pending ≡ set w.pending (w.count - 1) (scoped i (w.top + 1)) → w'.count ≡ w.count - 1 + 1
        → (w'.cells ≡ set w.cells (w.top + 1) u) × (w'.top ≡ w.top + 1) → TurnLeaves xs os w w' b (Some tt)
    turned-body {i} q h p c s =
        on (rw (put_entries _ _ _ p, put_cells _ _ _ p, put_entries _ _ _ s.0, put_cells _ _ _ s.0, s.1, c) (on-body last⁺ Z⁺ b (omega arith) h.0 (parts-there last⁺ Z⁺ b q)))

-- what a turn says, by its answer
module _ {xs os : List ℕ} {w w' : Walk} {b : ℕ} {r : Found (Unit {0})} (T : TurnLeaves xs os w w' b r) where
  pub turned_on : {u : Unit {0}} → r ≡ Some u → Advanced xs os (entries_in w.cells) (cells_in w.cells) (entries_in w.pending) (cells_in w.pending)
      (entries_in w'.cells) (cells_in w'.cells) (entries_in w'.pending) (cells_in w'.pending) w.top (w.count - 1) b w'.top w'.count
  turned_on e = go (subst (TurnLeaves xs os w w' b) e T)
    where
      go : TurnLeaves xs os w w' b (Some tt) → Advanced xs os (entries_in w.cells) (cells_in w.cells) (entries_in w.pending) (cells_in w.pending)
          (entries_in w'.cells) (cells_in w'.cells) (entries_in w'.pending) (cells_in w'.pending) w.top (w.count - 1) b w'.top w'.count
      go (on A) = A

  pub turned-off : r ≡ None → behind b (pending_in (entries_of xs os) w (suc (w.count - 1))) ≡ none
  turned-off e = go (subst (TurnLeaves xs os w w' b) e T)
    where
      go : TurnLeaves xs os w w' b None → behind b (pending_in (entries_of xs os) w (suc (w.count - 1))) ≡ none
      go (off q) = q
