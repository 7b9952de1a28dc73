-- The test as callers ask it: a closed entry under no cell, a value that is all of the bytes, and that the types of a program that was
-- read are such a table as is asked for.
use Prim.Native.Nat.{ℕ, zero, suc, ◌+◌, ◌<◌}
use native.Mathlib.Omega.{arith}
use mathlib.Core.Path.{◌≡◌, refl, sym, ap, ap₂, subst, ◌∙◌}
use mathlib.Core.Bool.{Bool, true, false, ◌&&◌}
use mathlib.Core.List.{List}
use lib.ListN.{length, get_or, set, replicate, length-set, length-replicate}
use package.Rattle.rules.specs.Val.{size}
use package.Rattle.rules.specs.Ty.{Ty}
use package.Rattle.rules.proofs.Basics.{given}
use package.Rattle.rules.specs.Limits.{max_value_bytes}
use package.Rattle.calls.specs.Answer.{accepted}
use package.Rattle.calls.specs.Fields.{Layout, layout}
use package.Rattle.calls.specs.Entries.{type_of}
use package.Rattle.calls.specs.Named.{plain, test_types}
use package.Rattle.calls.specs.Values.{value, has_ty}
use package.Rattle.calls.proofs.Entries.{lower, plain_iff}
use package.Rattle.calls.specs.Tested.{closed}
use package.Rattle.program.proofs.Inside.{formed}
use Rattle.std.specs.Prelude.{Option as Found, is_some as is_found}
use package.Rattle.valuebytes.specs.Ends.{first_of, is_value}
use package.Rattle.valuebytes.specs.Scopes.{plugs, type_under}
use package.Rattle.valuebytes.specs.Typing.{entries_of, TypesRead, room, Bound, value_has, next_if, next_of}
use package.Rattle.valuebytes.specs.declared.walk.Walk.{Walk}
use package.Rattle.valuebytes.specs.Stack.{Stack, scoped, entries_in, cells_in}
use package.Rattle.valuebytes.proofs.Whole.{whole, first_whole}
use package.Rattle.valuebytes.proofs.Plugs.{plugs_none}
use package.Rattle.valuebytes.proofs.Columns.{put_entries, put_cells, zero_entries, zero_cells}
use package.Rattle.valuebytes.proofs.Walking.{Walking, walking_start}
use package.Rattle.valuebytes.proofs.Cells.{scope_none}

-- the types of a program whose fields were read, and that name lower ones
pub table : (xs : List ℕ) (L : Layout) → layout xs ≡ accepted L → test_types L 0 (entries_of xs L.types) ≡ accepted tt → TypesRead xs L.types
table xs L e t = record { field = (formed xs e).types; lower = lower L (entries_of xs L.types) t }

----------------------------------------------------------------
-- Under no cell

module _ (xs os : List ℕ) (T : TypesRead xs os) (i : ℕ) (l : i < length os) (p : plain (entries_of xs os) i ≡ true) where
  closed-entry : closed 0 (type_of (entries_of xs os) i) ≡ true
  closed-entry = ((plain_iff (entries_of xs os) i).0 p).0

  -- the entry alone is written to both tables, which are zero
  module _ (binders outer : List ℕ) {entries cells : List ℕ} (we : entries ≡ set (replicate room 0) 0 i) (wc : cells ≡ set (replicate room 0) 0 0) where
    at-entries : get_or entries 0 0 ≡ i
    unfolding max_value_bytes
    at-entries = ap (λ l. get_or l 0 0) we

    at_cells : get_or cells 0 0 ≡ 0
    unfolding max_value_bytes
    at_cells = ap (λ l. get_or l 0 0) wc

    stack-start : length binders ≡ room → length outer ≡ room → Stack xs os binders outer entries cells 0 1
    stack-start b o = record {
      table = T;
      cells_to = record { cell = λ e p l. absurd (omega arith) };
      bound = λ k h. first k h;
      long_binders = b;
      long_outer = o;
      long_entries = ap length we ∙ length-set {A = ℕ} (replicate room 0) 0 i ∙ length-replicate {A = ℕ} room 0;
      long_cells = ap length wc ∙ length-set {A = ℕ} (replicate room 0) 0 0 ∙ length-replicate {A = ℕ} room 0;
    }
      where
        here : Bound xs os binders outer 0 0 i
        here = record {
          known = l;
          within = omega arith;
          closes = subst (λ σ. closed (length σ) (type_of (entries_of xs os) i) ≡ true) (sym (scope_none (entries_of xs os) binders outer)) closed-entry;
        }

        first : (k : ℕ) → k < 1 → Bound xs os binders outer 0 (get_or cells k 0) (get_or entries k 0)
        first zero h = subst (λ e. Bound xs os binders outer 0 e (get_or entries 0 0)) (sym at_cells) (subst (Bound xs os binders outer 0 0) (sym at-entries) here)
        first (suc k) h = absurd (omega arith)

    type-start : type_under (entries_of xs os) binders outer (get_or cells 0 0) (get_or entries 0 0) ≡ type_of (entries_of xs os) i
    unfolding type_under
    type-start =
        ap₂ (λ e i. type_under (entries_of xs os) binders outer e i) at_cells at-entries
        ∙ ap (λ σ. plugs 0 σ (type_of (entries_of xs os) i)) (scope_none (entries_of xs os) binders outer)
        ∙ plugs_none 0 (type_of (entries_of xs os) i) closed-entry

  -- as the code writes the arrays of a walk
  pub walk_starts : (w : Walk) → w.cells ≡ replicate room (scoped 0 0) → w.pending ≡ set (replicate room (scoped 0 0)) 0 (scoped i 0) → (w.top ≡ 0) × (w.count ≡ 1)
      → (s : List ℕ) (at : ℕ)
      → Walking xs os (entries_in w.cells) (cells_in w.cells) (entries_in w.pending) (cells_in w.pending) s at at w.top w.count (type_of (entries_of xs os) i)
  walk_starts w e p c s at = rw (c.0, c.1)
      (subst (Walking xs os (entries_in w.cells) (cells_in w.cells) (entries_in w.pending) (cells_in w.pending) s at at 0 1)
      (type-start (entries_in w.cells) (cells_in w.cells) ew cw)
      (walking_start s at (stack-start (entries_in w.cells) (cells_in w.cells) ew cw el cl)))
    where
      ew : entries_in w.pending ≡ set (replicate room 0) 0 i
      ew = put_entries _ 0 (scoped i 0) p ∙ ap (λ l. set l 0 i) (zero_entries room)

      cw : cells_in w.pending ≡ set (replicate room 0) 0 0
      cw = put_cells _ 0 (scoped i 0) p ∙ ap (λ l. set l 0 0) (zero_cells room)

      el : length (entries_in w.cells) ≡ room
      el = ap (λ l. length (entries_in l)) e ∙ ap length (zero_entries room) ∙ length-replicate {A = ℕ} room 0

      cl : length (cells_in w.cells) ≡ room
      cl = ap (λ l. length (cells_in l)) e ∙ ap length (zero_cells room) ∙ length-replicate {A = ℕ} room 0

----------------------------------------------------------------
-- All of the bytes

module _ (s : List ℕ) (e : is_value s ≡ true) (c : Ty) where
  all_by : (P : Found ℕ → Bool → Type 0) → ((b : Bool) (n : ℕ) → P (next_if b n) b) → P (next_of 0 (first_of s) c) (value_has (value s) c)
  unfolding next_of value_has
  all_by P f = given (whole s e) λ (v, w).
      subst (λ o. P (next_of 0 (first_of s) c) (value_has o c)) (sym w.is)
      (subst (λ r. P (next_of 0 r c) (has_ty v c)) (sym (first_whole w))
      (subst (λ b. P (next_if (b && has_ty v c) (0 + size v)) (has_ty v c)) (sym w.small) (f (has_ty v c) (0 + size v))))

  pub all-found : is_found (next_of 0 (first_of s) c) ≡ value_has (value s) c
  all-found = all_by (λ r b. is_found r ≡ b) go
    where
      go : (b : Bool) (m : ℕ) → is_found (next_if b m) ≡ b
      go true m = refl
      go false m = refl
