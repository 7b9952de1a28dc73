-- One entry more has its figures: how the number of the new entry goes by the entry that has its key, and what stays of the others.
use Prim.Native.Nat.{ℕ, suc, ◌+◌, ◌*◌, ◌<◌, ◌≤◌, min}
use native.Mathlib.Omega.{arith}
use native.Mathlib.Nat.{eq-or-lt_of_le}
use mathlib.Core.Path.{◌≡◌, refl, sym, ap, ap₂, subst, ◌∙◌}
use mathlib.Core.Logic.{⊎_elim}
use mathlib.Core.Bool.{Bool, true, false}
use mathlib.Core.List.{List, map}
use lib.ListN.{length, get_or, set, length-set}
use lib.Seq.{get_or-set_same, get_or-set_other}
use lib.Dec.{eqb}
use borrow.Author.Tests.{eqb-true, eqb-false, eq-eqb}
use borrow.Author.Rules.{rules}
use Rattle.std.specs.Prelude.{Option, Some, None, IsSome}
use package.Rattle.rules.specs.Limits.{max_types}
use package.Rattle.rules.proofs.Basics.{given}
use package.Rattle.rules.proofs.Typing.Tests.{same_ty_refl, same_ty_eq}
use package.Rattle.rules.specs.Ty.{Ty, same_ty}
use package.Rattle.calls.specs.Entries.{TypeEntry, y_unit, y_prod, y_sum, y_mu, y_var, type_at, type_tree, type_of}
use package.Rattle.calls.specs.Named.{below, types_of_type}
use package.Rattle.calls.proofs.Entries.{below-head, below_wider, type-unfolds}
use package.Rattle.types.specs.Layout.{figure_bytes, figures_from, typing_bytes}
use package.Rattle.calls.specs.Figures.{ceiling, free}
use package.Rattle.types.specs.Figures.{outer, number_at, free_at, outer_at, stand_at, Alias, Figured}
use package.Rattle.types.specs.Codes.{Readable}
use package.Rattle.types.specs.declared.numbering.Figure.{Figure}
use package.Rattle.types.specs.Numbering.{packed, figure_of, number_from, put_figures, slots, slot_of, Finds, Numbered}
use package.Rattle.types.proofs.Figuring.{number_same, figured-same, length-figures, figures-other, number_put, free-put, outer-put, stand_put, alias-kept}
use package.Rattle.program.specs.Parts.{TypeField}
use package.Rattle.types.proofs.Outer.{at_place}
use package.Rattle.types.specs.Growth.{Noted}
use package.Rattle.types.proofs.Hinting.{noted-figured}
use package.Rattle.types.proofs.Keys.{key-same, figure_free, figure_outer}

----------------------------------------------------------------
-- The beginning

----------------------------------------------------------------
-- What stays

-- keys go by the numbers of lower entries
key-kept : (heap heap' : List ℕ) {n : ℕ} → ((i : ℕ) → i < n → number_at heap i ≡ number_at heap' i) → (y : TypeEntry) → below n (types_of_type y) ≡ true
    → (figure_of heap y).key ≡ (figure_of heap' y).key
unfolding figure_of types_of_type
key-kept heap heap' s y_unit l = refl
key-kept heap heap' {n} s (y_prod a b) l = given (below-head n a _ l) λ (i, l₁). given (below-head n b _ l₁) λ (j, l₂). ap₂ (packed 1) (s a i) (s b j)
key-kept heap heap' {n} s (y_sum a b) l = given (below-head n a _ l) λ (i, l₁). given (below-head n b _ l₁) λ (j, l₂). ap₂ (packed 2) (s a i) (s b j)
key-kept heap heap' {n} s (y_mu a) l = given (below-head n a _ l) λ (i, l₁). ap (λ a. packed 3 a 0) (s a i)
key-kept heap heap' s (y_var k) l = refl

-- and so do numbered entries where a hint is put
numbered-noted : {xs types heap heap' keys : List ℕ} {index : List (Option ℕ)} {n : ℕ} → Readable xs types → n ≤ length types
    → Numbered xs types heap keys index n
    → Noted heap heap' → Numbered xs types heap' keys index n
numbered-noted {xs} {types} {heap} {heap'} {keys} {index} {n} R le N H = record {
  figured = noted-figured (omega (arith, R.few)) N.figured H;
  keys_held = N.keys_held;
  index_held = N.index_held;
  key = λ i l. N.key i l ∙ key-kept heap heap' numbers _ (below_wider i n _ (omega arith) (R.lower i));
  taken = N.taken;
}
  where
    numbers : (i : ℕ) → i < n → number_at heap i ≡ number_at heap' i
    numbers = number_same heap heap' λ j g h. H.same j (omega (arith, R.few))

----------------------------------------------------------------
-- The new entry

module _ {xs types heap keys : List ℕ} {index : List (Option ℕ)} {i : ℕ} (R : Readable xs types) (l : i < length types)
    (N : Numbered xs types heap keys index i) where
  abbrev ys : List TypeEntry
  ys = map (type_at xs) types

  abbrev y : ℕ → TypeEntry
  y j = get_or ys j y_unit

  T : ℕ → Ty
  T = type_of ys

  F : Figured ys heap i
  F = N.figured

  place : {at : ℕ} → at ≡ get_or types i 0 → type_at xs at ≡ y i
  place e = ap (type_at xs) e ∙ sym (at_place xs types i l)

  -- what reading the entry asks
  pub entry-asked : {at : ℕ} → at ≡ get_or types i 0
      → (TypeField xs at × (typing_bytes ≤ length heap)) × (below max_types (types_of_type (type_at xs at)) ≡ true)
  entry-asked e = (
    (subst (TypeField xs) (sym e) (R.field i l), F.held),
    subst (λ y. below max_types (types_of_type y) ≡ true) (sym (place e))
        (below_wider i max_types (types_of_type (y i)) (omega (arith, R.few)) (R.lower i)),
  )

  few : i ≤ max_types
  few = omega (arith, R.few)

  lower : (j : ℕ) → j ≤ i → below i (types_of_type (y j)) ≡ true
  lower j h = below_wider j i (types_of_type (y j)) h (R.lower j)

  unfolds : (j : ℕ) → T j ≡ type_tree T (y j)
  unfolding T
  unfolds j = type-unfolds ys R.lower j

  -- the tests on keys and on trees are the same
  by_key : (j : ℕ) → j < i → eqb (get_or keys j 0) (figure_of heap (y i)).key ≡ same_ty (T j) (T i)
  unfolding T
  by_key j h =
      ap (λ k. eqb k (figure_of heap (y i)).key) (N.key j h) ∙ key-same F few (y j) (y i) (lower j (omega arith)) (lower i (omega arith))
      ∙ sym (ap₂ same_ty (unfolds j) (unfolds i))

  module _ {f : Figure} {at : ℕ} (a : at ≡ get_or types i 0) (r : f ≡ figure_of heap (type_at xs at)) {k : Option ℕ} (D : Finds keys i f.key k) where
    e : f ≡ figure_of heap (y i)
    e = r ∙ ap (figure_of heap) (place a)

    -- the entry that is found has the same tree
    found-tree : {m : ℕ} → k ≡ Some m → T m ≡ T i
    found-tree {m} q =
        same_ty_eq (T m) (T i) (sym (by_key m (D.there m q).0) ∙ eq-eqb _ _ ((D.there m q).1 ∙ ap (λ (f : Figure). f.key) e))

    -- if none is found, no lower entry has it
    none_tree : k ≡ None → (j : ℕ) → j < i → ¬ (T j ≡ T i)
    none_tree q j h t =
        D.none q j h (eqb-true _ _ (by_key j h ∙ ap (λ t. same_ty t (T i)) t ∙ same_ty_refl (T i)) ∙ sym (ap (λ (f : Figure). f.key) e))

    own-lower : number_from heap i k ≤ i
    own-lower = by k refl
      where
        by : (r : Option ℕ) → k ≡ r → number_from heap i r ≤ i
        by None q = omega arith
        by (Some m) q = let low : number_at heap m ≤ i = omega (arith, F.number_lower m (D.there m q).0, (D.there m q).0) in low

    own-tree : T (number_from heap i k) ≡ T i
    unfolding T
    own-tree = by k refl
      where
        by : (r : Option ℕ) → k ≡ r → type_of ys (number_from heap i r) ≡ type_of ys i
        by None q = refl
        by (Some m) q = F.number_tree m (D.there m q).0 ∙ found-tree q

    own-one : (j : ℕ) → j < i → T j ≡ T i → number_at heap j ≡ number_from heap i k
    unfolding T
    own-one j h t = by k refl
      where
        by : (r : Option ℕ) → k ≡ r → number_at heap j ≡ number_from heap i r
        by None q = absurd (none_tree q j h t)
        by (Some m) q = F.number_one j m h (D.there m q).0 (t ∙ sym (found-tree q))

    module _ {own : ℕ} (o : own ≡ number_from heap i k) {heap' : List ℕ} (w : heap' ≡ put_figures heap i own f.free f.outer)
        (free-fits : f.free < 65536) (outer-fits : f.outer < 65536) where
      room : figures_from + figure_bytes * i + figure_bytes ≤ length heap
      room = omega (arith, F.held, R.few)

      lengths : length heap ≡ length heap'
      lengths = sym (ap length w ∙ length-figures heap i own f.free f.outer)

      same : (j : ℕ) → figures_from ≤ j → j < figures_from + figure_bytes * i → get_or heap j 0 ≡ get_or heap' j 0
      same j g h = sym (ap (λ heap. get_or heap j 0) w ∙ figures-other heap i own f.free f.outer j h)

      numbers : (j : ℕ) → j < i → number_at heap j ≡ number_at heap' j
      numbers = number_same heap heap' same

      older : Figured ys heap' i
      older = figured-same F lengths same

      new-number : number_at heap' i ≡ number_from heap i k
      new-number = ap (λ heap. number_at heap i) w ∙ number_put heap i own f.free f.outer room (omega (arith, o, own-lower, R.few)) ∙ o

      -- for the older entries and for the new one
      each : (P : ℕ → Type 0) → ((j : ℕ) → j < i → P j) → P i → (j : ℕ) → j < i + 1 → P j
      each P p q j h = ⊎_elim (λ e. subst P (sym e) q) (p j) (eq-or-lt_of_le (let le : j ≤ i = omega arith in le))

      one-new : (j : ℕ) → j < i → T j ≡ T i → number_at heap' j ≡ number_at heap' i
      one-new j h t = sym (numbers j h) ∙ own-one j h t ∙ sym new-number

      figured-more : Figured ys heap' (i + 1)
      unfolding T
      figured-more = record {
        held = older.held;
        number_lower = each (λ j. number_at heap' j ≤ j) older.number_lower (subst (λ n. n ≤ i) (sym new-number) own-lower);
        number_tree = each (λ j. type_of ys (number_at heap' j) ≡ type_of ys j) older.number_tree (ap (type_of ys) new-number ∙ own-tree);
        number_one = λ j m h h'. each (λ j. type_of ys j ≡ type_of ys m → number_at heap' j ≡ number_at heap' m)
            (λ j h. each (λ m. type_of ys j ≡ type_of ys m → number_at heap' j ≡ number_at heap' m) (λ m h'. older.number_one j m h h') (one-new j h) m h')
            (each (λ m. type_of ys i ≡ type_of ys m → number_at heap' i ≡ number_at heap' m) (λ m h' t. sym (one-new m h' (sym t))) (λ t. refl) m h') j h;
        free_is = each (λ j. free_at heap' j ≡ free (type_of ys j)) older.free_is
            (ap (λ heap. free_at heap i) w ∙ free-put heap i own f.free f.outer room free-fits ∙ ap (λ (f : Figure). f.free) e
            ∙ figure_free F few (y i) (lower i (omega arith)) ∙ ap free (sym (unfolds i)));
        outer_is = each (λ j. outer_at heap' j ≡ min ceiling (outer (type_of ys j))) older.outer_is
            (ap (λ heap. outer_at heap i) w ∙ outer-put heap i own f.free f.outer room outer-fits ∙ ap (λ (f : Figure). f.outer) e
            ∙ figure_outer F few (y i) (lower i (omega arith)) ∙ ap (λ t. min ceiling (outer t)) (sym (unfolds i)));
        alias_is = λ j m h. each (λ j. stand_at heap' j ≡ suc m → Alias ys heap' (i + 1) j m)
            (λ j h t. alias-kept (omega arith) refl (older.alias_is j m h t))
            (λ t. absurd (omega (arith, t, ap (λ heap. stand_at heap i) w, stand_put heap i own f.free f.outer room))) j h;
      }

      ----------------------------------------------------------------
      -- Keys and slots

      module _ {s : ℕ} (p : s ≡ slot_of f.key) (inside : s < slots) where
        keys' : List ℕ
        keys' = set keys i f.key

        index' : List (Option ℕ)
        index' = set index s (Some i)

        here : get_or keys' i 0 ≡ f.key
        unfolding keys'
        here = get_or-set_same keys i f.key 0 (omega (arith, N.keys_held, R.few))

        kept : (j : ℕ) → j < i → get_or keys' j 0 ≡ get_or keys j 0
        unfolding keys'
        kept j h = get_or-set_other keys i j f.key 0 (λ e. omega arith)

        now-taken : IsSome (get_or index' s None)
        unfolding index'
        now-taken = subst IsSome (sym (get_or-set_same index s (Some i) None (omega (arith, N.index_held)))) (search rules)

        still-taken : (t : ℕ) → IsSome (get_or index t None) → IsSome (get_or index' t None)
        unfolding index'
        still-taken t h = go (eqb t s) refl
          where
            go : (b : Bool) → eqb t s ≡ b → IsSome (get_or (set index s (Some i)) t None)
            go true q = subst (λ t. IsSome (get_or (set index s (Some i)) t None)) (sym (eqb-true t s q)) now-taken
            go false q = subst IsSome (sym (get_or-set_other index s t (Some i) None (eqb-false t s q))) h

        numbered-put : Numbered xs types heap' (set keys i f.key) (set index s (Some i)) (i + 1)
        unfolding keys' index'
        numbered-put = record {
          figured = figured-more;
          keys_held = length-set keys i f.key ∙ N.keys_held;
          index_held = length-set index s (Some i) ∙ N.index_held;
          key = each (λ j. get_or keys' j 0 ≡ (figure_of heap' (y j)).key)
              (λ j h. kept j h ∙ N.key j h ∙ key-kept heap heap' numbers (y j) (lower j (omega arith)))
              (here ∙ ap (λ (f : Figure). f.key) e ∙ key-kept heap heap' numbers (y i) (lower i (omega arith)));
          taken = each (λ j. IsSome (get_or index' (slot_of (get_or keys' j 0)) None))
              (λ j h. subst (λ k. IsSome (get_or index' (slot_of k) None)) (sym (kept j h)) (still-taken _ (N.taken j h)))
              (subst (λ t. IsSome (get_or index' t None)) (p ∙ ap slot_of (sym here)) now-taken);
        }

        -- with a hint at the new entry, or none
        pub numbered_more : {heap'' : List ℕ} → Noted heap' heap'' → Numbered xs types heap'' (set keys i f.key) (set index s (Some i)) (i + 1)
        numbered_more H = numbered-noted R (omega arith) numbered-put H
