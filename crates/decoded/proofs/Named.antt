-- Which variables a tree names (02, F-3): by its parts, whatever the types are, and as a set, which decides whether a case chooses by an ancilla.
use Prim.Native.Nat.{ℕ, zero, suc, ◌<◌}
use native.Mathlib.Omega.{arith}
use mathlib.Core.Path.{◌≡◌, refl, sym, ap, ap₂, ◌∙◌}
use mathlib.Core.Bool.{Bool, true, false, not, ◌&&◌, ◌||◌, and-eq-true_iff}
use mathlib.Core.List.{List, [], ◌∷◌, ◌++◌}
use lib.ListN.{get_or}
use lib.Dec.{eqb, ltb}
use borrow.Author.Tests.{ltb-true}
use package.Rattle.octets.specs.Runs.{Decides}
use package.Rattle.rules.specs.Limits.{max_variables}
use package.Rattle.rules.specs.Ty.{Ty}
use package.Rattle.rules.specs.Term.{Term, Terms, var, tunit, tinl, tinr, tpair, tlet, tletp, tcase, tcall, troll, tunroll, end, more, within}
use package.Rattle.rules.specs.Term.{within_all, inside, by_ancilla}
use package.Rattle.rules.proofs.Basics.{given, and_both, eqb_yes, eqb-sound}
use package.Rattle.calls.specs.Entries.{TypeEntry, type_of, TermEntry, n_var, n_unit, n_inl, n_inr, n_roll, n_unroll, n_pair, n_let, n_letp, n_case}
use package.Rattle.calls.specs.Entries.{n_call, term_trees, term_tree, term_below, term_of}
use package.Rattle.calls.specs.Named.{terms_of_term, below}
use package.Rattle.calls.proofs.Entries.{below-head}
use package.Rattle.varsets.specs.declared.Uses.{Uses}
use package.Rattle.varsets.specs.Sets.{has, Holds, AllInside}
use package.Rattle.decoded.specs.Rows.{named}
use package.Rattle.decoded.specs.Naming.{any_of, named_by}

----------------------------------------------------------------
-- Booleans

pub both : {b c : Bool} → b ≡ true → c ≡ true → (b && c) ≡ true
both {b} {c} p q = (and-eq-true_iff b c).1 (p, q)

true_differs : {b : Bool} → b ≡ true → b ≡ false → ⊥
true_differs p q = let z : ◌≡◌ {A = ℕ} 0 1 = cc in omega arith

not_both : (b c : Bool) → not (b && c) ≡ (not b || not c)
not_both true c = refl
not_both false c = refl

pub or_none_lem : (b : Bool) → (b || false) ≡ b
or_none_lem true = refl
or_none_lem false = refl

pub or_assoc : (a b c : Bool) → ((a || b) || c) ≡ (a || (b || c))
or_assoc true b c = refl
or_assoc false b c = refl

-- the first of two that fails
first_false : {C : Type 0} (b c : Bool) → (b && c) ≡ false → (b ≡ false → C) → (c ≡ false → C) → C
first_false true c e f g = g e
first_false false c e f g = f refl

and_false_left : {b : Bool} (c : Bool) → b ≡ false → (b && c) ≡ false
and_false_left c e = ap (λ b. b && c) e

and_false_right : (b : Bool) {c : Bool} → c ≡ false → (b && c) ≡ false
and_false_right true e = e
and_false_right false e = refl

----------------------------------------------------------------
-- More variables allowed

module _ (A B : ℕ → Bool) (wider : (i : ℕ) → A i ≡ true → B i ≡ true) where
  mutual
    unfolding within

    pub within_wider : (e : Term) → within A e ≡ true → within B e ≡ true
    within_wider (var k i) h = wider i h
    within_wider (tunit k) h = refl
    within_wider (tinl k c e) h = within_wider e h
    within_wider (tinr k c e) h = within_wider e h
    within_wider (tpair k e e') h = given (and_both _ _ h) λ (a, b). both (within_wider e a) (within_wider e' b)
    within_wider (tlet k e e') h = given (and_both _ _ h) λ (a, b). both (within_wider e a) (within_wider e' b)
    within_wider (tletp k e e') h = given (and_both _ _ h) λ (a, b). both (within_wider e a) (within_wider e' b)
    within_wider (tcase k e e' e'') h =
        given (and_both _ _ h) λ (a, r). given (and_both _ _ r) λ (b, c). both (within_wider e a) (both (within_wider e' b) (within_wider e'' c))
    within_wider (tcall k g ts e) h = given (and_both _ _ h) λ (a, b). both (all-wider ts a) (within_wider e b)
    within_wider (troll k c e) h = within_wider e h
    within_wider (tunroll k c e) h = within_wider e h

    all-wider : (ts : Terms) → within_all A ts ≡ true → within_all B ts ≡ true
    all-wider end h = refl
    all-wider (more t ts) h = given (and_both _ _ h) λ (a, b). both (within_wider t a) (all-wider ts b)

----------------------------------------------------------------
-- A variable that is named

-- every variable but `i`
abbrev but_one : ℕ → ℕ → Bool
but_one i j = not (eqb i j)

-- a variable that the term names is one that is allowed
pub named_allowed : (A : ℕ → Bool) (i : ℕ) (e : Term) → within A e ≡ true → named i e ≡ true → A i ≡ true
named_allowed A i e h m = go (A i) refl
  where
    apart : A i ≡ false → (j : ℕ) → A j ≡ true → but_one i j ≡ true
    apart f j p = other (eqb i j) refl
      where
        other : (b : Bool) → eqb i j ≡ b → not b ≡ true
        other true q = absurd (true_differs (ap A (eqb-sound i j q) ∙ p) f)
        other false q = refl

    go : (b : Bool) → A i ≡ b → A i ≡ true
    go true q = q
    go false q = absurd (true_differs m (ap not (within_wider A (but_one i) (apart q) e h)))

-- a variable of the term that is not allowed, if one is
module _ (A : ℕ → Bool) where
  -- it is named where `w` looks
  abbrev Barred : ((ℕ → Bool) → Bool) → Type 0
  Barred w = (i : ℕ) × (A i ≡ false) × (w (but_one i) ≡ false)

  barred-two : (w w' : (ℕ → Bool) → Bool) → (w A ≡ false → Barred w) → (w' A ≡ false → Barred w') → (w A && w' A) ≡ false
      → Barred (λ A. w A && w' A)
  barred-two w w' f g h = first_false (w A) (w' A) h
      (λ e. given (f e) λ (i, a, m). (i, a, and_false_left (w' (but_one i)) m))
      (λ e. given (g e) λ (i, a, m). (i, a, and_false_right (w (but_one i)) m))

  mutual
    unfolding within

    pub one-barred : (e : Term) → within A e ≡ false → Barred (λ A. within A e)
    one-barred (var k i) h = (i, h, ap not (eqb_yes i))
    one-barred (tunit k) h = absurd (true_differs refl h)
    one-barred (tinl k c e) h = one-barred e h
    one-barred (tinr k c e) h = one-barred e h
    one-barred (tpair k e e') h = barred-two (λ A. within A e) (λ A. within A e') (one-barred e) (one-barred e') h
    one-barred (tlet k e e') h = barred-two (λ A. within A e) (λ A. within A e') (one-barred e) (one-barred e') h
    one-barred (tletp k e e') h = barred-two (λ A. within A e) (λ A. within A e') (one-barred e) (one-barred e') h
    one-barred (tcase k e e' e'') h =
        barred-two (λ A. within A e) (λ A. within A e' && within A e'') (one-barred e)
        (barred-two (λ A. within A e') (λ A. within A e'') (one-barred e') (one-barred e'')) h
    one-barred (tcall k g ts e) h = barred-two (λ A. within_all A ts) (λ A. within A e) (λ h. one_of_all ts h) (one-barred e) h
    one-barred (troll k c e) h = one-barred e h
    one-barred (tunroll k c e) h = one-barred e h

    one_of_all : (ts : Terms) → within_all A ts ≡ false → Barred (λ A. within_all A ts)
    one_of_all end h = absurd (true_differs refl h)
    one_of_all (more t ts) h = barred-two (λ A. within A t) (λ A. within_all A ts) (λ h. one-barred t h) (one_of_all ts) h

----------------------------------------------------------------
-- The test by a set

-- the set of the variables that a scrutinee names decides whether its case chooses by an ancilla
pub set-decides : {u : Uses} (q n : ℕ) (e : Term) {r : Bool} → Holds u (λ i. named i e) → within (λ i. ltb i max_variables) e ≡ true
    → Decides r (AllInside u q n) → r ≡ by_ancilla q n e
unfolding by_ancilla
set-decides {u} q n e {r} H small D = go r (within (inside q n) e) refl D
  where
    found : {i : ℕ} → within (but_one i) e ≡ false → (i < max_variables) × (has u i ≡ true)
    found {i} m =
        let l : i < max_variables = ltb-true i max_variables (named_allowed (λ i. ltb i max_variables) i e small (ap not m)) in
        (l, H.each i l ∙ ap not m)

    go : (r b : Bool) → within (inside q n) e ≡ b → Decides r (AllInside u q n) → r ≡ b
    go true true p A = refl
    go true false p A =
        given (one-barred (inside q n) e p) λ (i, f, m). given (found m) λ (l, x). absurd (true_differs (A i l x) f)
    go false true p A = absurd (A (λ i l x. named_allowed (inside q n) i e p (sym (H.each i l) ∙ x)))
    go false false p A = refl

----------------------------------------------------------------
-- By the parts

module _ (S : ℕ → ℕ → Bool) (i : ℕ) (go : ℕ → Term) (n : ℕ) (same : (u : ℕ) → u < n → S u i ≡ named i (go u)) where
  named_all : (ts : List ℕ) (e : ℕ) → below n (ts ++ (e ∷ [])) ≡ true
      → any_of S (ts ++ (e ∷ [])) i ≡ not (within_all (but_one i) (term_trees go ts) && within (but_one i) (go e))
  unfolding any_of term_trees within
  named_all [] e b = or_none_lem (S e i) ∙ same e (below-head n e [] b).0
  named_all (t ∷ ts) e b =
      given (below-head n t (ts ++ (e ∷ [])) b) λ (l, b₁).
      ap₂ ◌||◌ (same t l) (named_all ts e b₁)
      ∙ folded (within (but_one i) (go t)) (within_all (but_one i) (term_trees go ts)) (within (but_one i) (go e))
    where
      folded : (a b c : Bool) → (not a || not (b && c)) ≡ not ((a && b) && c)
      folded true b c = refl
      folded false b c = refl

  named_one : (e : ℕ) → below n (e ∷ []) ≡ true → any_of S (e ∷ []) i ≡ named i (go e)
  unfolding any_of
  named_one e b = or_none_lem (S e i) ∙ same e (below-head n e [] b).0

  named_two : (e e' : ℕ) → below n (e ∷ e' ∷ []) ≡ true → any_of S (e ∷ e' ∷ []) i ≡ not (within (but_one i) (go e) && within (but_one i) (go e'))
  unfolding any_of
  named_two e e' b =
      given (below-head n e (e' ∷ []) b) λ (l, b₁).
      ap₂ ◌||◌ (same e l) (named_one e' b₁) ∙ sym (not_both (within (but_one i) (go e)) (within (but_one i) (go e')))

  named_three : (e e' e'' : ℕ) → below n (e ∷ e' ∷ e'' ∷ []) ≡ true
      → any_of S (e ∷ e' ∷ e'' ∷ []) i ≡ not (within (but_one i) (go e) && (within (but_one i) (go e') && within (but_one i) (go e'')))
  unfolding any_of
  named_three e e' e'' b = given (below-head n e (e' ∷ e'' ∷ []) b) λ (l, b₁).
      ap₂ ◌||◌ (same e l) (named_two e' e'' b₁) ∙ sym (not_both (within (but_one i) (go e)) (within (but_one i) (go e') && within (but_one i) (go e'')))

  pub named_tree : (ty : ℕ → Ty) (k : ℕ) (x : TermEntry) → below n (terms_of_term x) ≡ true → named_by S x i ≡ named i (term_tree ty go k x)
  unfolding named_by term_tree within terms_of_term
  named_tree ty k (n_var j) b = twice (eqb i j)
    where
      twice : (b : Bool) → b ≡ not (not b)
      twice true = refl
      twice false = refl
  named_tree ty k n_unit b = refl
  named_tree ty k (n_inl c e) b = named_one e b
  named_tree ty k (n_inr c e) b = named_one e b
  named_tree ty k (n_roll c e) b = named_one e b
  named_tree ty k (n_unroll c e) b = named_one e b
  named_tree ty k (n_pair e e') b = named_two e e' b
  named_tree ty k (n_let e e') b = named_two e e' b
  named_tree ty k (n_letp e e') b = named_two e e' b
  named_tree ty k (n_case e e' e'') b = named_three e e' e'' b
  named_tree ty k (n_call g ts e) b = named_all ts e b

----------------------------------------------------------------
-- Trees of entries

module _ (A : ℕ → Bool) where
  within-trees : (go go' : ℕ → Term) → ((i : ℕ) → within A (go i) ≡ within A (go' i)) → (ts : List ℕ)
      → within_all A (term_trees go ts) ≡ within_all A (term_trees go' ts)
  unfolding term_trees within
  within-trees go go' same [] = refl
  within-trees go go' same (t ∷ ts) = ap₂ ◌&&◌ (same t) (within-trees go go' same ts)

  within-tree : (ty ty' : ℕ → Ty) (go go' : ℕ → Term) → ((i : ℕ) → within A (go i) ≡ within A (go' i)) → (k : ℕ) (x : TermEntry)
      → within A (term_tree ty go k x) ≡ within A (term_tree ty' go' k x)
  unfolding term_tree within
  within-tree ty ty' go go' same k (n_var i) = refl
  within-tree ty ty' go go' same k n_unit = refl
  within-tree ty ty' go go' same k (n_inl c e) = same e
  within-tree ty ty' go go' same k (n_inr c e) = same e
  within-tree ty ty' go go' same k (n_roll c e) = same e
  within-tree ty ty' go go' same k (n_unroll c e) = same e
  within-tree ty ty' go go' same k (n_pair e e') = ap₂ ◌&&◌ (same e) (same e')
  within-tree ty ty' go go' same k (n_let e e') = ap₂ ◌&&◌ (same e) (same e')
  within-tree ty ty' go go' same k (n_letp e e') = ap₂ ◌&&◌ (same e) (same e')
  within-tree ty ty' go go' same k (n_case e e' e'') = ap₂ ◌&&◌ (same e) (ap₂ ◌&&◌ (same e') (same e''))
  within-tree ty ty' go go' same k (n_call g ts e) = ap₂ ◌&&◌ (within-trees go go' same ts) (same e)

  within-below : (ys ys' : List TypeEntry) (ts : List TermEntry) (m k : ℕ) → within A (term_below m ys ts k) ≡ within A (term_below m ys' ts k)
  unfolding term_below
  within-below ys ys' ts zero k = refl
  within-below ys ys' ts (suc m) k =
      within-tree (type_of ys) (type_of ys') (term_below m ys ts) (term_below m ys' ts) (within-below ys ys' ts m) k (get_or ts k n_unit)

  -- the types do not matter
  pub within-any : (ys ys' : List TypeEntry) (ts : List TermEntry) (k : ℕ) → within A (term_of ys ts k) ≡ within A (term_of ys' ts k)
  unfolding term_of
  within-any ys ys' ts k = within-below ys ys' ts (suc k) k

  -- a tree is within what allows the variables of all entries
  module _ (ys : List TypeEntry) (ts : List TermEntry) (allowed : (k i : ℕ) → get_or ts k n_unit ≡ n_var i → A i ≡ true) where
    all-within : (go : ℕ → Term) → ((k : ℕ) → within A (go k) ≡ true) → (is : List ℕ) → within_all A (term_trees go is) ≡ true
    unfolding term_trees within
    all-within go f [] = refl
    all-within go f (i ∷ is) = both (f i) (all-within go f is)

    tree-within : (ty : ℕ → Ty) (go : ℕ → Term) → ((k : ℕ) → within A (go k) ≡ true) → (k : ℕ) (x : TermEntry) → ((i : ℕ) → x ≡ n_var i → A i ≡ true)
        → within A (term_tree ty go k x) ≡ true
    unfolding term_tree within
    tree-within ty go f k (n_var i) a = a i refl
    tree-within ty go f k n_unit a = refl
    tree-within ty go f k (n_inl c e) a = f e
    tree-within ty go f k (n_inr c e) a = f e
    tree-within ty go f k (n_roll c e) a = f e
    tree-within ty go f k (n_unroll c e) a = f e
    tree-within ty go f k (n_pair e e') a = both (f e) (f e')
    tree-within ty go f k (n_let e e') a = both (f e) (f e')
    tree-within ty go f k (n_letp e e') a = both (f e) (f e')
    tree-within ty go f k (n_case e e' e'') a = both (f e) (both (f e') (f e''))
    tree-within ty go f k (n_call g is e) a = both (all-within go f is) (f e)

    below-within : (m k : ℕ) → within A (term_below m ys ts k) ≡ true
    unfolding term_below within
    below-within zero k = refl
    below-within (suc m) k = tree-within (type_of ys) (term_below m ys ts) (below-within m) k (get_or ts k n_unit) (allowed k)

    pub entries-within : (k : ℕ) → within A (term_of ys ts k) ≡ true
    unfolding term_of
    entries-within k = below-within (suc k) k
