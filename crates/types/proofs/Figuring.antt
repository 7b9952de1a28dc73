-- The figures of entries in lent bytes: bytes that agree have the same, and what is put is there.
use Prim.Native.Nat.{ℕ, suc, ◌+◌, ◌*◌, ◌<◌, ◌≤◌}
use native.Mathlib.Omega.{arith}
use native.Mathlib.Decide.{dec_lt}
use mathlib.Core.Path.{◌≡◌, refl, sym, ap, ap₂, subst, ◌∙◌}
use mathlib.Core.Logic.{◌⊎◌, ⊎_elim, inl as left, inr as right}
use mathlib.Core.Bool.{Bool, true, false}
use mathlib.Core.List.{List}
use lib.ListN.{length, get_or}
use lib.Dec.{eqb}
use borrow.Author.Tests.{eqb-true, eqb-false}
use package.Rattle.rules.specs.Limits.{max_types}
use package.Rattle.octets.specs.Numbers.{get16, put16}
use package.Rattle.octets.proofs.Puts.{length-put16, put16-other, get16-put16}
use package.Rattle.calls.specs.Entries.{TypeEntry, type_of}
use package.Rattle.types.specs.Layout.{figure_bytes, figures_from}
use package.Rattle.types.specs.Figures.{closed_by, number_at, free_at, outer_at, stand_at, alias_at, Alias, Figured}
use package.Rattle.types.specs.Numbering.{put_figures, put_alias}

get16-bytes : (xs ys : List ℕ) (i : ℕ) → get_or xs i 0 ≡ get_or ys i 0 → get_or xs (i + 1) 0 ≡ get_or ys (i + 1) 0 → get16 xs i ≡ get16 ys i
unfolding get16
get16-bytes xs ys i p q = ap₂ (λ a b. a * 256 + b) p q

----------------------------------------------------------------
-- Bytes that agree, from the figures on and below those of entry `n`

module _ (heap heap' : List ℕ) {n : ℕ} (same : (j : ℕ) → figures_from ≤ j → j < figures_from + figure_bytes * n → get_or heap j 0 ≡ get_or heap' j 0)
    (i : ℕ) (l : i < n) where
  pub number_same : number_at heap i ≡ number_at heap' i
  unfolding number_at
  number_same = get16-bytes heap heap' _ (same _ (omega arith) (omega arith)) (same _ (omega arith) (omega arith))

  pub free-same : free_at heap i ≡ free_at heap' i
  unfolding free_at
  free-same = get16-bytes heap heap' _ (same _ (omega arith) (omega arith)) (same _ (omega arith) (omega arith))

  pub outer_same : outer_at heap i ≡ outer_at heap' i
  unfolding outer_at
  outer_same = get16-bytes heap heap' _ (same _ (omega arith) (omega arith)) (same _ (omega arith) (omega arith))

  pub stand_same : stand_at heap i ≡ stand_at heap' i
  unfolding stand_at
  stand_same = get16-bytes heap heap' _ (same _ (omega arith) (omega arith)) (same _ (omega arith) (omega arith))

  pub alias-same : alias_at heap i ≡ alias_at heap' i
  unfolding alias_at
  alias-same = get16-bytes heap heap' _ (same _ (omega arith) (omega arith)) (same _ (omega arith) (omega arith))

-- an alias in bytes that have the same
pub alias-kept : {ys : List TypeEntry} {heap heap' : List ℕ} {n m i j : ℕ} → n ≤ m → alias_at heap i ≡ alias_at heap' i → Alias ys heap n i j
    → Alias ys heap' m i j
alias-kept {ys} h e A = record { stands = omega (arith, A.stands); there = omega (arith, e, A.there); tree = ap (type_of ys) (sym e) ∙ A.tree }

pub figured-same : {ys : List TypeEntry} {heap heap' : List ℕ} {n : ℕ} → Figured ys heap n → length heap ≡ length heap'
    → ((j : ℕ) → figures_from ≤ j → j < figures_from + figure_bytes * n → get_or heap j 0 ≡ get_or heap' j 0) → Figured ys heap' n
figured-same {ys} {heap} {heap'} {n} F e same = record {
  held = omega (arith, e, F.held);
  number_lower = λ i l. subst (λ k. k ≤ i) (number i l) (F.number_lower i l);
  number_tree = λ i l. ap (type_of ys) (sym (number i l)) ∙ F.number_tree i l;
  number_one = λ i j l m t. sym (number i l) ∙ F.number_one i j l m t ∙ number j m;
  free_is = λ i l. sym (free-same heap heap' same i l) ∙ F.free_is i l;
  outer_is = λ i l. sym (outer_same heap heap' same i l) ∙ F.outer_is i l;
  alias_is = λ i j l e. alias-kept (omega arith) (alias-same heap heap' same i l) (F.alias_is i j l (stand_same heap heap' same i l ∙ e));
}
  where
    number : (i : ℕ) → i < n → number_at heap i ≡ number_at heap' i
    number = number_same heap heap' same

----------------------------------------------------------------
-- Figures that are put

module _ (heap : List ℕ) (i number free outer : ℕ) where
  abbrev from : ℕ
  from = figures_from + figure_bytes * i

  abbrev one-put : List ℕ
  one-put = put16 heap from number

  abbrev two-put : List ℕ
  two-put = put16 one-put (from + 2) free

  abbrev three-put : List ℕ
  three-put = put16 two-put (from + 4) outer

  pub length-figures : length (put_figures heap i number free outer) ≡ length heap
  unfolding put_figures
  length-figures = simp length-put16

  -- what is before stays
  pub figures-other : (j : ℕ) → j < from → get_or (put_figures heap i number free outer) j 0 ≡ get_or heap j 0
  unfolding put_figures
  figures-other j h =
      put16-other three-put (from + 6) 0 j (λ e. omega arith) (λ e. omega arith)
      ∙ put16-other two-put (from + 4) outer j (λ e. omega arith) (λ e. omega arith)
      ∙ put16-other one-put (from + 2) free j (λ e. omega arith) (λ e. omega arith)
      ∙ put16-other heap from number j (λ e. omega arith) (λ e. omega arith)

  module _ (room : from + figure_bytes ≤ length heap) where
    last-kept : (j : ℕ) → j < from + 6 → get_or (put16 three-put (from + 6) 0) j 0 ≡ get_or three-put j 0
    last-kept j h = put16-other three-put (from + 6) 0 j (λ e. omega arith) (λ e. omega arith)

    third-kept : (j : ℕ) → j < from + 4 → get_or (put16 three-put (from + 6) 0) j 0 ≡ get_or two-put j 0
    third-kept j h = last-kept j (omega arith) ∙ put16-other two-put (from + 4) outer j (λ e. omega arith) (λ e. omega arith)

    second-kept : (j : ℕ) → j < from + 2 → get_or (put16 three-put (from + 6) 0) j 0 ≡ get_or one-put j 0
    second-kept j h = third-kept j (omega arith) ∙ put16-other one-put (from + 2) free j (λ e. omega arith) (λ e. omega arith)

    pub number_put : number < 65536 → number_at (put_figures heap i number free outer) i ≡ number
    unfolding number_at put_figures
    number_put small =
        get16-bytes _ one-put from (second-kept from (omega arith)) (second-kept (from + 1) (omega arith))
        ∙ get16-put16 heap from number (omega arith) small

    pub free-put : free < 65536 → free_at (put_figures heap i number free outer) i ≡ free
    unfolding free_at put_figures
    free-put small =
        get16-bytes _ two-put (from + 2) (third-kept (from + 2) (omega arith)) (third-kept (from + 2 + 1) (omega arith))
        ∙ get16-put16 one-put (from + 2) free (simp length-put16 (omega arith)) small

    pub outer-put : outer < 65536 → outer_at (put_figures heap i number free outer) i ≡ outer
    unfolding outer_at put_figures
    outer-put small =
        get16-bytes _ three-put (from + 4) (last-kept (from + 4) (omega arith)) (last-kept (from + 4 + 1) (omega arith))
        ∙ get16-put16 two-put (from + 4) outer (simp length-put16 (omega arith)) small

    pub stand_put : stand_at (put_figures heap i number free outer) i ≡ 0
    unfolding stand_at put_figures
    stand_put = get16-put16 three-put (from + 6) 0 (simp length-put16 (omega arith)) (omega arith)

----------------------------------------------------------------
-- An alias that is put

module _ (heap : List ℕ) (i j alias : ℕ) where
  abbrev base : ℕ
  base = figures_from + figure_bytes * i

  pub length-alias : length (put_alias heap i j alias) ≡ length heap
  unfolding put_alias
  length-alias = simp length-put16

  -- all else stays
  alias-other : (k : ℕ) → (k < base + 6) ⊎ (base + 10 ≤ k) → get_or (put_alias heap i j alias) k 0 ≡ get_or heap k 0
  unfolding put_alias
  alias-other k s =
      put16-other (put16 heap (base + 6) (j + 1)) (base + 8) alias k (λ e. ⊎_elim (λ l. omega arith) (λ l. omega arith) s)
      (λ e. ⊎_elim (λ l. omega arith) (λ l. omega arith) s)
      ∙ put16-other heap (base + 6) (j + 1) k (λ e. ⊎_elim (λ l. omega arith) (λ l. omega arith) s)
      (λ e. ⊎_elim (λ l. omega arith) (λ l. omega arith) s)

  -- the first figures of every entry, and all of another
  beside : (m o : ℕ) → (o < 6) ⊎ ((o < 10) × ¬ (m ≡ i))
      → get_or (put_alias heap i j alias) (figures_from + figure_bytes * m + o) 0 ≡ get_or heap (figures_from + figure_bytes * m + o) 0
  beside m o s = alias-other _ (go (dec_lt m i) (dec_lt i m))
    where
      go : Dec (m < i) → Dec (i < m) → (figures_from + figure_bytes * m + o < base + 6) ⊎ (base + 10 ≤ figures_from + figure_bytes * m + o)
      go (yes l) d = left (⊎_elim (λ h. omega arith) (λ h. omega arith) s)
      go (no l) (yes g) = right (omega arith)
      go (no l) (no g) = left (⊎_elim (λ h. omega arith) (λ h. absurd (h.1 (omega arith))) s)

  above : (m o : ℕ) → (o + 1 < 6) ⊎ ((o + 1 < 10) × ¬ (m ≡ i))
      → get_or (put_alias heap i j alias) (figures_from + figure_bytes * m + o + 1) 0 ≡ get_or heap (figures_from + figure_bytes * m + o + 1) 0
  above m o s = subst (λ k. get_or (put_alias heap i j alias) k 0 ≡ get_or heap k 0)
      (let z : figures_from + figure_bytes * m + (o + 1) ≡ figures_from + figure_bytes * m + o + 1 = omega arith in z) (beside m (o + 1) s)

  number-beside : (m : ℕ) → number_at (put_alias heap i j alias) m ≡ number_at heap m
  unfolding number_at
  number-beside m = get16-bytes _ heap _
      (subst (λ k. get_or (put_alias heap i j alias) k 0 ≡ get_or heap k 0)
      (let z : figures_from + figure_bytes * m + 0 ≡ figures_from + figure_bytes * m = omega arith in z) (beside m 0 (left (omega arith))))
      (beside m 1 (left (omega arith)))

  free-beside : (m : ℕ) → free_at (put_alias heap i j alias) m ≡ free_at heap m
  unfolding free_at
  free-beside m = get16-bytes _ heap _ (beside m 2 (left (omega arith))) (above m 2 (left (omega arith)))

  outer-beside : (m : ℕ) → outer_at (put_alias heap i j alias) m ≡ outer_at heap m
  unfolding outer_at
  outer-beside m = get16-bytes _ heap _ (beside m 4 (left (omega arith))) (above m 4 (left (omega arith)))

  module _ (m : ℕ) (n : ¬ (m ≡ i)) where
    stand_beside : stand_at (put_alias heap i j alias) m ≡ stand_at heap m
    unfolding stand_at
    stand_beside = get16-bytes _ heap _ (beside m 6 (right (omega arith, n))) (above m 6 (right (omega arith, n)))

    alias-beside : alias_at (put_alias heap i j alias) m ≡ alias_at heap m
    unfolding alias_at
    alias-beside = get16-bytes _ heap _ (beside m 8 (right (omega arith, n))) (above m 8 (right (omega arith, n)))

  module _ (room : base + figure_bytes ≤ length heap) where
    stand_here : j < 65535 → stand_at (put_alias heap i j alias) i ≡ j + 1
    unfolding stand_at put_alias
    stand_here small =
        get16-bytes _ (put16 heap (base + 6) (j + 1)) (base + 6) (kept (base + 6) (omega arith)) (kept (base + 6 + 1) (omega arith))
        ∙ get16-put16 heap (base + 6) (j + 1) (omega arith) (omega arith)
      where
        kept : (k : ℕ) → k < base + 8 → get_or (put16 (put16 heap (base + 6) (j + 1)) (base + 8) alias) k 0 ≡ get_or (put16 heap (base + 6) (j + 1)) k 0
        kept k h = put16-other (put16 heap (base + 6) (j + 1)) (base + 8) alias k (λ e. omega arith) (λ e. omega arith)

    alias-here : alias < 65536 → alias_at (put_alias heap i j alias) i ≡ alias
    unfolding alias_at put_alias
    alias-here small = get16-put16 (put16 heap (base + 6) (j + 1)) (base + 8) alias (simp length-put16 (omega arith)) small

-- an alias that is right may be kept
pub alias-more : {ys : List TypeEntry} {heap : List ℕ} {n i j k : ℕ} → Figured ys heap n → n ≤ max_types → i < n → j < n → k < n
    → type_of ys k ≡ closed_by (type_of ys j) (type_of ys i) → Figured ys (put_alias heap i j k) n
alias-more {ys} {heap} {n} {i} {j} {k} F few li lj lk t = record {
  held = omega (arith, length-alias heap i j k, F.held);
  number_lower = λ m l. subst (λ x. x ≤ m) (sym (number-beside heap i j k m)) (F.number_lower m l);
  number_tree = λ m l. ap (type_of ys) (number-beside heap i j k m) ∙ F.number_tree m l;
  number_one = λ m o l h e. number-beside heap i j k m ∙ F.number_one m o l h e ∙ sym (number-beside heap i j k o);
  free_is = λ m l. free-beside heap i j k m ∙ F.free_is m l;
  outer_is = λ m l. outer-beside heap i j k m ∙ F.outer_is m l;
  alias_is = λ m o l e. new_or_old m o l e (eqb m i) refl;
}
  where
    room : figures_from + figure_bytes * i + figure_bytes ≤ length heap
    room = omega (arith, F.held)

    new : (o : ℕ) → stand_at (put_alias heap i j k) i ≡ suc o → Alias ys (put_alias heap i j k) n i o
    new o e =
        let here : alias_at (put_alias heap i j k) i ≡ k = alias-here heap i j k room (omega arith) in
        let same : j ≡ o = omega (arith, e, stand_here heap i j k room (omega arith)) in
        record { stands = omega arith; there = omega (arith, here); tree = ap (type_of ys) here ∙ t ∙ ap (λ j. closed_by (type_of ys j) (type_of ys i)) same }

    new_or_old : (m o : ℕ) → m < n → stand_at (put_alias heap i j k) m ≡ suc o → (b : Bool) → eqb m i ≡ b → Alias ys (put_alias heap i j k) n m o
    new_or_old m o l e true q =
        let same : m ≡ i = eqb-true m i q in
        subst (λ m. Alias ys (put_alias heap i j k) n m o) (sym same) (new o (ap (stand_at (put_alias heap i j k)) (sym same) ∙ e))
    new_or_old m o l e false q =
        let apart : ¬ (m ≡ i) = eqb-false m i q in
        alias-kept (omega arith) (sym (alias-beside heap i j k m apart)) (F.alias_is m o l (sym (stand_beside heap i j k m apart) ∙ e))
