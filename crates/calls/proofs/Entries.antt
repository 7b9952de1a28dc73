-- What the counting of Figures means: of type entries that each name lower ones, the figures are those of the trees. So whether a type
-- entry is plain (section 1) can be told by its figures.
use Prim.Native.Nat.{ℕ, zero, suc, ◌+◌, ◌≤◌, ◌<◌, pred, min, max}
use native.Mathlib.Omega.{arith}
use native.Mathlib.Decide.{dec_lt}
use mathlib.Core.Path.{◌≡◌, refl, sym, ap, ap₂, subst, ◌∙◌}
use mathlib.Core.Bool.{Bool, true, false, ◌&&◌, ◌||◌, cond, and-eq-true_iff}
use mathlib.Core.List.{List, [], ◌∷◌, ◌++◌}
use mathlib.Core.Logic.{◌↔◌}
use lib.ListN.{length, get_or, length-append, get_or-append}
use lib.Dec.{eqb, ltb, leb, ltb→lt, lt→ltb}
use borrow.Author.Tests.{ltb-true, lt-ltb}
use package.Rattle.rules.specs.Limits.{max_nodes}
use package.Rattle.rules.specs.Ty.{Ty, one, prod, sum, mu, tyvar, plug, nodes}
use package.Rattle.rules.proofs.Basics.{given, and_both, eqb-sound, eqb_no, T_true}
use package.Rattle.rules.proofs.Typing.Tests.{leb_yes, leb-sound}
use package.Rattle.calls.specs.Answer.{accepted}
use package.Rattle.calls.specs.Fields.{Layout}
use package.Rattle.calls.specs.Entries.{TypeEntry, y_unit, y_prod, y_sum, y_mu, y_var, type_tree, type_below, type_of}
use package.Rattle.calls.specs.Named.{plain, types_of_type, below, member, test_types}
use package.Rattle.calls.specs.Figures.{ceiling, free, nodes_of, free_of, figures}
use package.Rattle.calls.specs.Closed.{closed, Lower}
pub use package.Rattle.calls.specs.Closed.{Plain}
use package.Rattle.calls.proofs.Answer.{unbind, required}

----------------------------------------------------------------
-- Closed types

-- tests that hold alike are the same
same_truth : (a b : Bool) → (a ≡ true) ↔ (b ≡ true) → a ≡ b
same_truth true b (f, g) = sym (f refl)
same_truth false true (f, g) = g refl
same_truth false false (f, g) = refl

both-closed : (n : ℕ) (b c : Bool) (l r : ℕ) → (b ≡ true) ↔ (l ≤ n) → (c ≡ true) ↔ (r ≤ n) → ((b && c) ≡ true) ↔ (max l r ≤ n)
both-closed n b c l r p q = (
  λ e. given (and_both b c e) λ (x, y). omega (arith, p.0 x, q.0 y),
  λ h. rw (p.1 (omega arith), q.1 (omega arith)),
)

under_one : (l n : ℕ) → (l ≤ suc n) ↔ (pred l ≤ n)
under_one l n = (λ h. omega arith, λ h. omega arith)

pub closed_iff_free : (n : ℕ) (c : Ty) → (closed n c ≡ true) ↔ (free c ≤ n)
unfolding closed free
closed_iff_free n one = (λ e. omega arith, λ h. refl)
closed_iff_free n (prod a b) = both-closed n (closed n a) (closed n b) (free a) (free b) (closed_iff_free n a) (closed_iff_free n b)
closed_iff_free n (sum a b) = both-closed n (closed n a) (closed n b) (free a) (free b) (closed_iff_free n a) (closed_iff_free n b)
closed_iff_free n (mu a) = (λ e. (under_one (free a) n).0 ((closed_iff_free (suc n) a).0 e), λ h. (closed_iff_free (suc n) a).1 ((under_one (free a) n).1 h))
closed_iff_free n (tyvar k) = (λ e. ltb→lt k n (rw e tt), λ h. T_true (lt→ltb k n h))

-- nothing is put into a type that has no such variable
pub plug-closed : (c : Ty) (n : ℕ) (a : Ty) → closed n a ≡ true → plug c n a ≡ a
unfolding plug closed
plug-closed c n one e = refl
plug-closed c n (prod a b) e = given (and_both (closed n a) (closed n b) e) λ (x, y). ap₂ prod (plug-closed c n a x) (plug-closed c n b y)
plug-closed c n (sum a b) e = given (and_both (closed n a) (closed n b) e) λ (x, y). ap₂ sum (plug-closed c n a x) (plug-closed c n b y)
plug-closed c n (mu a) e = ap mu (plug-closed c (suc n) a e)
plug-closed c n (tyvar k) e = ap (λ b. cond b c (tyvar k)) (eqb_no k n (ltb-true k n e))

----------------------------------------------------------------
-- Entries that name lower ones

pub below-head : (n i : ℕ) (is : List ℕ) → below n (i ∷ is) ≡ true → (i < n) × (below n is ≡ true)
unfolding below
below-head n i is e = given (and_both (ltb i n) (below n is) e) λ (x, y). (ltb→lt i n (rw x tt), y)

pub below_wider : (n m : ℕ) (is : List ℕ) → n ≤ m → below n is ≡ true → below m is ≡ true
unfolding below
below_wider n m [] l e = refl
below_wider n m (i ∷ is) l e = given (below-head n i is e) λ (h, e₁). (and-eq-true_iff (ltb i m) (below m is)).1 (lt-ltb i m (omega arith), below_wider n m is l e₁)

pub below_at : (n : ℕ) (is : List ℕ) (i : ℕ) → below n is ≡ true → i < length is → get_or is i 0 < n
below_at n [] i e l = absurd (omega arith)
below_at n (x ∷ is) zero e l = (below-head n x is e).0
below_at n (x ∷ is) (suc i) e l = below_at n is i (below-head n x is e).1 (omega arith)

-- an element in the middle is as good as in front
pub member-middle : (k t : ℕ) (ts us : List ℕ) → member k (ts ++ (t ∷ us)) ≡ (eqb k t || member k (ts ++ us))
unfolding member
member-middle k t [] us = refl
member-middle k t (s ∷ ts) us = ap (λ b. eqb k s || b) (member-middle k t ts us) ∙ swap (eqb k s) (eqb k t) (member k (ts ++ us))
  where
    swap : (a b c : Bool) → (a || (b || c)) ≡ (b || (a || c))
    swap true true c = refl
    swap true false c = refl
    swap false b c = refl

lower_from : (L : Layout) (k : ℕ) (ys : List TypeEntry) → test_types L k ys ≡ accepted tt → (i : ℕ) → below (k + i) (types_of_type (get_or ys i y_unit)) ≡ true
unfolding test_types below types_of_type
lower_from L k [] e i = refl
lower_from L k (y ∷ ys) e zero = given (unbind _ _ e) λ (lower, p, q). rw (let z : k + 0 ≡ k = omega arith in z) (required _ 4 _ p)
lower_from L k (y ∷ ys) e (suc i) = given (unbind _ _ e) λ (lower, p, q). rw (let z : k + suc i ≡ suc k + i = omega arith in z) (lower_from L (suc k) ys q i)

pub lower : (L : Layout) (ys : List TypeEntry) → test_types L 0 ys ≡ accepted tt → Lower ys
lower L ys e i = subst (λ n. below n (types_of_type (get_or ys i y_unit)) ≡ true) (let z : 0 + i ≡ i = omega arith in z) (lower_from L 0 ys e i)

-- trees of an entry agree if those of the entries that it names do
tree-agrees : (go go' : ℕ → Ty) (n : ℕ) (y : TypeEntry) → below n (types_of_type y) ≡ true → ((i : ℕ) → i < n → go i ≡ go' i) → type_tree go y ≡ type_tree go' y
unfolding type_tree types_of_type
tree-agrees go go' n y_unit e s = refl
tree-agrees go go' n (y_prod a b) e s = given (below-head n a _ e) λ (l, e₁). given (below-head n b _ e₁) λ (l', e₂). ap₂ prod (s a l) (s b l')
tree-agrees go go' n (y_sum a b) e s = given (below-head n a _ e) λ (l, e₁). given (below-head n b _ e₁) λ (l', e₂). ap₂ sum (s a l) (s b l')
tree-agrees go go' n (y_mu a) e s = given (below-head n a _ e) λ (l, e₁). ap mu (s a l)
tree-agrees go go' n (y_var k) e s = refl

module _ (ys : List TypeEntry) (low : Lower ys) where
  -- the bound of the recursion does not matter
  bound-agrees : (n m i : ℕ) → i < n → i < m → type_below n ys i ≡ type_below m ys i
  unfolding type_below
  bound-agrees zero m i l l' = absurd (omega arith)
  bound-agrees (suc n) zero i l l' = absurd (omega arith)
  bound-agrees (suc n) (suc m) i l l' =
      tree-agrees (type_below n ys) (type_below m ys) i (get_or ys i y_unit) (low i) λ j h. bound-agrees n m j (omega arith) (omega arith)

  -- the tree of an entry, from the trees of the entries that it names
  pub type-unfolds : (i : ℕ) → type_of ys i ≡ type_tree (type_of ys) (get_or ys i y_unit)
  unfolding type_of type_below
  type-unfolds i = tree-agrees (type_below i ys) (type_of ys) i (get_or ys i y_unit) (low i) λ j h. bound-agrees i (suc j) j h (omega arith)

----------------------------------------------------------------
-- Figures

-- counting that stops at `c`
stops-one : (c : ℕ) {m : ℕ} (a : ℕ) → m ≡ min c a → min c (suc m) ≡ min c (suc a)
stops-one c a p = omega arith

stops-two : (c : ℕ) {m n : ℕ} (a b : ℕ) → m ≡ min c a → n ≡ min c b → min c (suc (m + n)) ≡ min c (suc (a + b))
stops-two c a b p q = omega arith

get_d_last : {A : Type 0} (xs : List A) (x d : A) → get_or (xs ++ (x ∷ [])) (length xs) d ≡ x
get_d_last [] x d = refl
get_d_last (y ∷ xs) x d = get_d_last xs x d

module _ (ys : List TypeEntry) (low : Lower ys) where
  -- the figures of the first entries are those of their trees
  abbrev Right : (Ty → ℕ) → List ℕ → Type 0
  Right measure ns = (i : ℕ) → i < length ns → get_or ns i 0 ≡ measure (type_of ys i)

  -- `of` gives an entry the figure of its tree, if the lower figures are those of their trees
  abbrev Measures : (List ℕ → TypeEntry → ℕ) → (Ty → ℕ) → Type 0
  Measures of measure = (ns : List ℕ) (y : TypeEntry) → below (length ns) (types_of_type y) ≡ true → Right measure ns → of ns y ≡ measure (type_tree (type_of ys) y)

  module _ (of : List ℕ → TypeEntry → ℕ) (measure : Ty → ℕ) (m : Measures of measure) where
    -- one more entry
    right-more : (ns : List ℕ) → Right measure ns → Right measure (ns ++ (of ns (get_or ys (length ns) y_unit) ∷ []))
    right-more ns r i l = go (dec_lt i (length ns))
      where
        x : ℕ
        x = of ns (get_or ys (length ns) y_unit)

        go : Dec (i < length ns) → get_or (ns ++ (x ∷ [])) i 0 ≡ measure (type_of ys i)
        go (yes h) = get_or-append ns (x ∷ []) 0 i h ∙ r i h
        go (no h) = ap (λ i. get_or (ns ++ (x ∷ [])) i 0) last ∙ get_d_last ns x 0 ∙ m ns _ (low (length ns)) r
            ∙ ap measure (sym (type-unfolds ys low (length ns)) ∙ ap (type_of ys) (sym last))
          where
            last : i ≡ length ns
            last = omega (arith, length-append ns (x ∷ []))

    figures-right : (ns : List ℕ) (zs : List TypeEntry) → ((i : ℕ) → get_or zs i y_unit ≡ get_or ys (length ns + i) y_unit) → Right measure ns
        → (length (figures of ns zs) ≡ length ns + length zs) × Right measure (figures of ns zs)
    unfolding figures
    figures-right ns [] s r = (omega arith, r)
    figures-right ns (z ∷ zs) s r = given (figures-right (ns ++ (of ns z ∷ [])) zs after right) λ (l, q). (omega (arith, longer), q)
      where
        longer : length (ns ++ (of ns z ∷ [])) ≡ length ns + 1
        longer = length-append ns (of ns z ∷ [])

        here : z ≡ get_or ys (length ns) y_unit
        here = s 0 ∙ ap (λ n. get_or ys n y_unit) (let e : length ns + 0 ≡ length ns = omega arith in e)

        after : (i : ℕ) → get_or zs i y_unit ≡ get_or ys (length (ns ++ (of ns z ∷ [])) + i) y_unit
        after i = s (suc i) ∙ ap (λ n. get_or ys n y_unit) (let e : length ns + suc i ≡ length (ns ++ (of ns z ∷ [])) + i = omega (arith, longer) in e)

        right : Right measure (ns ++ (of ns z ∷ []))
        right = subst (λ z. Right measure (ns ++ (of ns z ∷ []))) (sym here) (right-more ns r)

    figure_is_lem : (i : ℕ) → i < length ys → get_or (figures of [] ys) i 0 ≡ measure (type_of ys i)
    figure_is_lem i l = given (figures-right [] ys (λ i. ap (λ n. get_or ys n y_unit) (let e : i ≡ 0 + i = omega arith in e)) λ i l. absurd (omega arith)) λ (e, r).
        r i (omega arith)

  -- the figure of an entry that is named, and of two
  one_right : (measure : Ty → ℕ) (ns : List ℕ) (a : ℕ) → below (length ns) (a ∷ []) ≡ true → Right measure ns → get_or ns a 0 ≡ measure (type_of ys a)
  one_right measure ns a e r = given (below-head (length ns) a [] e) λ (l, e₁). r a l

  two-right : (measure : Ty → ℕ) (ns : List ℕ) (a b : ℕ) → below (length ns) (a ∷ b ∷ []) ≡ true → Right measure ns
      → (get_or ns a 0 ≡ measure (type_of ys a)) × (get_or ns b 0 ≡ measure (type_of ys b))
  two-right measure ns a b e r = given (below-head (length ns) a (b ∷ []) e) λ (l, e₁). (r a l, one_right measure ns b e₁ r)

  nodes_measures : Measures nodes_of λ c. min ceiling (nodes c)
  unfolding nodes_of ceiling nodes type_tree types_of_type
  nodes_measures ns y_unit e r = refl
  nodes_measures ns (y_prod a b) e r = given (two-right (λ c. min ceiling (nodes c)) ns a b e r) λ (p, q). stops-two ceiling _ _ p q
  nodes_measures ns (y_sum a b) e r = given (two-right (λ c. min ceiling (nodes c)) ns a b e r) λ (p, q). stops-two ceiling _ _ p q
  nodes_measures ns (y_mu a) e r = stops-one ceiling _ (one_right (λ c. min ceiling (nodes c)) ns a e r)
  nodes_measures ns (y_var k) e r = refl

  free_measures : Measures free_of free
  unfolding free_of free type_tree types_of_type
  free_measures ns y_unit e r = refl
  free_measures ns (y_prod a b) e r = given (two-right free ns a b e r) λ (p, q). ap₂ max p q
  free_measures ns (y_sum a b) e r = given (two-right free ns a b e r) λ (p, q). ap₂ max p q
  free_measures ns (y_mu a) e r = ap pred (one_right free ns a e r)
  free_measures ns (y_var k) e r = refl

  ----------------------------------------------------------------
  -- What the figures say

  -- the smaller of `ceiling` and the nodes of the tree
  pub nodes_figure : (i : ℕ) → i < length ys → get_or (figures nodes_of [] ys) i 0 ≡ min ceiling (nodes (type_of ys i))
  nodes_figure = figure_is_lem nodes_of (λ c. min ceiling (nodes c)) nodes_measures

  -- how many recursive types must still enclose the tree
  pub free_figure : (i : ℕ) → i < length ys → get_or (figures free_of [] ys) i 0 ≡ free (type_of ys i)
  free_figure = figure_is_lem free_of free free_measures

  pub free_figure_zero : (i : ℕ) → i < length ys → (get_or (figures free_of [] ys) i 0 ≡ 0) ↔ (closed 0 (type_of ys i) ≡ true)
  free_figure_zero i l = (
    λ e. (closed_iff_free 0 (type_of ys i)).1 (omega (arith, free_figure i l)),
    λ c. let h : free (type_of ys i) ≤ 0 = (closed_iff_free 0 (type_of ys i)).0 c in omega (arith, free_figure i l),
  )

  -- so an entry is plain exactly if its figures are within the limits
  pub plain-figures : (i : ℕ) → i < length ys
      → plain ys i ≡ (eqb (get_or (figures free_of [] ys) i 0) 0 && leb (get_or (figures nodes_of [] ys) i 0) max_nodes)
  unfolding plain ceiling
  plain-figures i l = ap₂ (λ c n. c && n) closed-so nodes-so
    where
      τ : Ty
      τ = type_of ys i

      closed-so : closed 0 τ ≡ eqb (get_or (figures free_of [] ys) i 0) 0
      closed-so = same_truth _ _ (λ c. rw ((free_figure_zero i l).1 c), λ e. (free_figure_zero i l).0 (eqb-sound _ 0 e))

      few-counted : leb (nodes τ) max_nodes ≡ true → leb (get_or (figures nodes_of [] ys) i 0) max_nodes ≡ true
      few-counted e = rw (nodes_figure i l) (leb_yes (min ceiling (nodes τ)) max_nodes (omega (arith, leb-sound (nodes τ) max_nodes e)))

      few : leb (get_or (figures nodes_of [] ys) i 0) max_nodes ≡ true → leb (nodes τ) max_nodes ≡ true
      few e =
          let h : min ceiling (nodes τ) ≤ max_nodes = subst (λ n. n ≤ max_nodes) (nodes_figure i l) (leb-sound _ max_nodes e) in
          leb_yes (nodes τ) max_nodes (omega arith)

      nodes-so : leb (nodes τ) max_nodes ≡ leb (get_or (figures nodes_of [] ys) i 0) max_nodes
      nodes-so = same_truth _ _ (few-counted, few)

----------------------------------------------------------------
-- The test as propositions

pub plain_iff : (ys : List TypeEntry) (i : ℕ) → (plain ys i ≡ true) ↔ Plain (type_of ys i)
unfolding plain
plain_iff ys i = (
  λ e. given (and_both (closed 0 (type_of ys i)) _ e) λ (c, n). (c, leb-sound (nodes (type_of ys i)) max_nodes n),
  λ (c, s). rw (c, leb_yes (nodes (type_of ys i)) max_nodes s),
)
