-- The tally of counts (02, F-4): what a count does to it, what the counts of the first entries mean, and which types have one.
use Prim.Native.Nat.{ℕ, zero, suc, ◌+◌, ◌≤◌, ◌<◌, min}
use native.Mathlib.Omega.{arith}
use native.Mathlib.Decide.{dec_lt}
use mathlib.Core.Path.{◌≡◌, refl, sym, ap, ap₂, subst, ◌∙◌}
use mathlib.Core.Bool.{true}
use mathlib.Core.List.{List, [], ◌∷◌, map}
use lib.ListN.{length, get_or, set, take, replicate, length-set, length-replicate, length-take, length-map, get_or-eq_default}
use lib.Seq.{get_or-set_other, get_or-take}
use package.Rattle.rules.specs.Limits.{max_types}
use package.Rattle.rules.specs.Ty.{Ty, one, prod, sum, mu, tyvar, nodes}
use package.Rattle.rules.proofs.Basics.{given}
use package.Rattle.calls.specs.Entries.{TypeEntry, y_unit, y_prod, y_sum, y_mu, y_var, type_at, type_tree, type_below, type_of, Entries}
use package.Rattle.calls.specs.Named.{types_of_type, below}
use package.Rattle.calls.specs.Figures.{ceiling, nodes_of, figures}
use package.Rattle.calls.specs.Closed.{Lower}
use package.Rattle.calls.specs.Tested.{Good}
use package.Rattle.calls.proofs.Entries.{below-head, nodes_figure}
use package.Rattle.calls.proofs.Refusals.{member_below}
use package.Rattle.entries.specs.Tally.{HasCount, kept, no_counts, TallyOf, Uncounted, CountMade, count_of, Tallied, NamedCounted}
use package.Rattle.entries.specs.declared.measures.Tally.{Tally}

----------------------------------------------------------------
-- The number of kept counts

kept-zeros : (n : ℕ) → kept (replicate n 0) ≡ 0
unfolding kept
kept-zeros zero = refl
kept-zeros (suc n) = kept-zeros n

pub kept-few : (counts : List ℕ) → kept counts ≤ length counts
unfolding kept
kept-few [] = omega arith
kept-few (zero ∷ ns) = omega (arith, kept-few ns)
kept-few (suc n ∷ ns) = omega (arith, kept-few ns)

-- one more, where there was none
kept_more : (counts : List ℕ) (i m : ℕ) → i < length counts → get_or counts i 0 ≡ 0 → 0 < m → kept (set counts i m) ≡ suc (kept counts)
unfolding kept
kept_more [] i m l e h = absurd (omega arith)
kept_more (n ∷ ns) i zero l e h = absurd (omega arith)
kept_more (zero ∷ ns) zero (suc m) l e h = refl
kept_more (suc n ∷ ns) zero (suc m) l e h = absurd (omega arith)
kept_more (zero ∷ ns) (suc i) (suc m) l e h = kept_more ns i (suc m) (omega arith) e h
kept_more (suc n ∷ ns) (suc i) (suc m) l e h = ap suc (kept_more ns i (suc m) (omega arith) e h)

-- one fewer than there are places, where there is none
kept-fewer : (counts : List ℕ) (i : ℕ) → i < length counts → get_or counts i 0 ≡ 0 → kept counts < length counts
kept-fewer counts i l e = omega (arith, kept_more counts i 1 l e (omega arith), kept-few (set counts i 1), length-set counts i 1)

-- exactly the first `n` have one
kept-front : (counts : List ℕ) (n : ℕ) → ((i : ℕ) → i < n → HasCount counts i) → ((i : ℕ) → HasCount counts i → i < n) → kept counts ≡ n
unfolding kept
kept-front [] zero each only = refl
kept-front [] (suc n) each only = absurd (omega (arith, each 0 (omega arith)))
kept-front (zero ∷ ns) zero each only = kept-front ns zero (λ i l. absurd (omega arith)) λ i h. absurd (omega (arith, only (suc i) h))
kept-front (zero ∷ ns) (suc n) each only = absurd (omega (arith, each 0 (omega arith)))
kept-front (suc m ∷ ns) zero each only = absurd (omega (arith, only 0 (omega arith)))
kept-front (suc m ∷ ns) (suc n) each only =
    ap suc (kept-front ns n (λ i l. each (suc i) (omega arith)) λ i h. omega (arith, only (suc i) h))

-- every type has a node
pub nodes_some : (counts : List ℕ) (y : TypeEntry) → 0 < nodes_of counts y
unfolding nodes_of ceiling
nodes_some counts y_unit = omega arith
nodes_some counts (y_prod a b) = omega arith
nodes_some counts (y_sum a b) = omega arith
nodes_some counts (y_mu a) = omega arith
nodes_some counts (y_var k) = omega arith

----------------------------------------------------------------
-- One count

module _ {counts : List ℕ} {t : Tally} (T : TallyOf counts t) {i : ℕ} (U : Uncounted counts i) where
  -- the tally can be raised
  pub tally-room : t.counted < max_types
  tally-room = omega (arith, T.equals, T.sized, kept-fewer counts i U.place U.none)

  pub count-made : (xs : List ℕ) (at m : ℕ) (t' : Tally) → m ≡ nodes_of counts (type_at xs at) → t'.counted ≡ suc t.counted
      → CountMade xs at i counts (set counts i m) t t'
  count-made xs at m t' e r = record {
    keeps = ap (set counts i) e;
    raises = r;
    tally = record {
      equals = r ∙ ap suc T.equals ∙ sym (kept_more counts i m U.place U.none (subst (λ m. 0 < m) (sym e) (nodes_some counts (type_at xs at))));
      sized = length-set counts i m ∙ T.sized;
    };
  }

----------------------------------------------------------------
-- The tree of an entry goes by the entries up to it

-- it goes by the trees of the entries that it names
tree_named : (go go' : ℕ → Ty) (y : TypeEntry) → map go (types_of_type y) ≡ map go' (types_of_type y) → type_tree go y ≡ type_tree go' y
unfolding type_tree types_of_type
tree_named go go' y_unit e = refl
tree_named go go' (y_prod a b) e = cc
tree_named go go' (y_sum a b) e = cc
tree_named go go' (y_mu a) e = cc
tree_named go go' (y_var k) e = refl

same-below : (go go' : ℕ → Ty) (n : ℕ) (is : List ℕ) → below n is ≡ true → ((i : ℕ) → i < n → go i ≡ go' i) → map go is ≡ map go' is
same-below go go' n [] e s = refl
same-below go go' n (i ∷ is) e s = given (below-head n i is e) λ (l, e₁). ap₂ ◌∷◌ (s i l) (same-below go go' n is e₁ s)

module _ (k : ℕ) (ys : List TypeEntry) (low : Lower (take k ys)) where
  front_below : (n j : ℕ) → j < k → type_below n (take k ys) j ≡ type_below n ys j
  unfolding type_below
  front_below zero j l = refl
  front_below (suc n) j l =
      tree_named (type_below n (take k ys)) (type_below n ys) (get_or (take k ys) j y_unit)
      (same-below (type_below n (take k ys)) (type_below n ys) j (types_of_type (get_or (take k ys) j y_unit)) (low j) λ i h. front_below n i (omega arith))
      ∙ ap (type_tree (type_below n ys)) (get_or-take k ys j y_unit l)

  pub front-tree : (j : ℕ) → j < k → type_of (take k ys) j ≡ type_of ys j
  unfolding type_of
  front-tree j l = front_below (suc j) j l

-- of the first entries alone
front-lower : (k : ℕ) (ys : List TypeEntry) → ((j : ℕ) → j < k → below j (types_of_type (get_or ys j y_unit)) ≡ true) → Lower (take k ys)
unfolding types_of_type below
front-lower k ys low j = go (dec_lt j k)
  where
    go : Dec (j < k) → below j (types_of_type (get_or (take k ys) j y_unit)) ≡ true
    go (yes l) = rw (get_or-take k ys j y_unit l) (low j l)
    go (no l) = rw (get_or-eq_default (take k ys) y_unit {n = j} (let z : length (take k ys) ≤ j = omega (arith, length-take k ys) in z)) refl

----------------------------------------------------------------
-- The counts of the first entries

-- the first `i` entries name lower ones, and no other has a count
pub record CountsSo (xs types : List ℕ) (i : ℕ) (counts : List ℕ) (t : Tally) : Type 0 where
  pub tally : TallyOf counts t
  pub lower : (j : ℕ) → j < i → below j (types_of_type (get_or (map (type_at xs) types) j y_unit)) ≡ true
  pub others : (j : ℕ) → i ≤ j → get_or counts j 0 ≡ 0

-- an entry that is there, whatever stands for one that is not
get_d_entry : (f : ℕ → TypeEntry) (offsets : List ℕ) (i : ℕ) → i < length offsets → get_or (map f offsets) i y_unit ≡ f (get_or offsets i 0)
get_d_entry f [] i l = absurd (omega arith)
get_d_entry f (x ∷ offsets) zero l = refl
get_d_entry f (x ∷ offsets) (suc i) l = get_d_entry f offsets i (omega arith)

get_d_zeros : (n j : ℕ) → ◌≡◌ {A = ℕ} (get_or (replicate n 0) j 0) 0
get_d_zeros zero j = refl
get_d_zeros (suc n) zero = refl
get_d_zeros (suc n) (suc j) = get_d_zeros n j

pub no-counts-sized : {counts : List ℕ} → counts ≡ no_counts → length counts ≡ max_types
no-counts-sized e = ap length e ∙ length-replicate {A = ℕ} max_types 0

module _ (xs types : List ℕ) where
  abbrev ys : List TypeEntry
  ys = map (type_at xs) types

  pub counts_start : (counts : List ℕ) (t : Tally) → counts ≡ no_counts → t.counted ≡ 0 → CountsSo xs types 0 counts t
  counts_start counts t e z = record {
    tally = record { equals = z ∙ sym (ap kept e ∙ kept-zeros max_types); sized = no-counts-sized e };
    lower = λ j l. absurd (omega arith);
    others = λ j l. ap (λ ns. get_or ns j 0) e ∙ get_d_zeros max_types j;
  }

  -- the entry that comes next is not counted yet
  pub counts-next : (i : ℕ) (counts : List ℕ) (t : Tally) → i < length counts → CountsSo xs types i counts t → Uncounted counts i
  counts-next i counts t l S = record { place = l; none = S.others i (omega arith) }

  module _ (i at : ℕ) (l : i < length types) (e : at ≡ get_or types i 0) {counts counts' : List ℕ} {t t' : Tally} (S : CountsSo xs types i counts t) where
    pub counts-more : below i (types_of_type (type_at xs at)) ≡ true → CountMade xs at i counts counts' t t' → CountsSo xs types (i + 1) counts' t'
    counts-more b C = record { tally = C.tally; lower = λ j h. lower-so j h (dec_lt j i); others = others-so }
      where
        here : type_at xs at ≡ get_or ys i y_unit
        here = ap (type_at xs) e ∙ sym (get_d_entry (type_at xs) types i l)

        lower-so : (j : ℕ) → j < i + 1 → Dec (j < i) → below j (types_of_type (get_or ys j y_unit)) ≡ true
        lower-so j h (yes m) = S.lower j m
        lower-so j h (no m) =
            subst (λ j. below j (types_of_type (get_or ys j y_unit)) ≡ true) (let z : i ≡ j = omega arith in z) (subst (λ y. below i (types_of_type y) ≡ true) here b)

        others-so : (j : ℕ) → i + 1 ≤ j → get_or counts' j 0 ≡ 0
        others-so j h = ap (λ ns. get_or ns j 0) C.keeps ∙ get_or-set_other counts i j _ 0 (λ z. omega arith) ∙ S.others j (omega arith)

  -- each count is that of the entry's tree
  pub counts-tallied : (i : ℕ) (counts : List ℕ) (t : Tally) → i ≤ length types → take i counts ≡ figures nodes_of [] (take i (map (type_at xs) types))
      → CountsSo xs types i counts t → Tallied xs types counts t
  unfolding count_of
  counts-tallied i counts t l e S = record { equals = S.tally.equals; right = λ j k. right_so j k (dec_lt j i) }
    where
      low : Lower (take i ys)
      low = front-lower i ys S.lower

      right_so : (j : ℕ) → HasCount counts j → Dec (j < i) → (j < length types) × (get_or counts j 0 ≡ count_of (type_of ys j))
      right_so j k (no h) = absurd (omega (arith, S.others j (omega arith)))
      right_so j k (yes h) = (
        omega arith,
        sym (get_or-take i counts j 0 h) ∙ ap (λ ns. get_or ns j 0) e
            ∙ nodes_figure (take i ys) low j (omega (arith, length-take i ys, length-map types (type_at xs))) ∙ ap count_of (front-tree i ys low j h),
      )

  -- so where no count is made
  pub tallied_none : (counts : List ℕ) (t : Tally) → counts ≡ no_counts → t.counted ≡ 0 → Tallied xs types counts t
  unfolding figures
  tallied_none counts t e z = counts-tallied 0 counts t (omega arith) refl (counts_start counts t e z)

----------------------------------------------------------------
-- The types that a program names

nodes-one : (τ : Ty) → 0 < nodes τ
unfolding nodes
nodes-one one = omega arith
nodes-one (prod a b) = omega arith
nodes-one (sum a b) = omega arith
nodes-one (mu a) = omega arith
nodes-one (tyvar k) = omega arith

pub named_counted : (E : Entries) (counts : List ℕ) → Good E → take (length E.types) counts ≡ figures nodes_of [] E.types → NamedCounted E counts
unfolding ceiling
named_counted E counts G e = record {
  each = each-one;
  by_type = λ i l j m. each-one j (omega (arith, member_below j i _ (G.types_lower i) m));
  by_term = λ k l j m. each-one j (member_below j (length E.types) _ (G.term k l).types_there m);
  by_function = λ g h q j m. each-one j (member_below j (length E.types) _ (G.function g h q).types_there m);
}
  where
    each-one : (i : ℕ) → i < length E.types → HasCount counts i
    each-one i l =
        let so : get_or counts i 0 ≡ min ceiling (nodes (type_of E.types i)) = sym (get_or-take (length E.types) counts i 0 l)
        ∙ ap (λ ns. get_or ns i 0) e ∙ nodes_figure E.types G.types_lower i l in
        omega (arith, nodes-one (type_of E.types i))

-- so the tally of an accepted program is the number of its type entries
pub named_tally : {xs types counts : List ℕ} {t : Tally} (E : Entries) → E.types ≡ map (type_at xs) types → Tallied xs types counts t
    → NamedCounted E counts → t.counted ≡ length types
named_tally {xs} {types} {counts} E e T N =
    T.equals ∙ kept-front counts (length types) (λ i l. N.each i (omega (arith, ap length e, length-map types (type_at xs)))) λ i h. (T.right i h).0
