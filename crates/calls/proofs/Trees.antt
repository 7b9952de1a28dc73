-- What accepted entries are: every reference is in range and every term names lower ones, so the tree of a term is found from the trees of
-- the terms that it names, whatever the bound of the recursion.
use Prim.Native.Nat.{ℕ, zero, suc, ◌+◌, ◌≤◌, ◌<◌}
use native.Mathlib.Omega.{arith}
use native.Mathlib.Decide.{dec_lt}
use mathlib.Core.Path.{◌≡◌, refl, ap, ap₂, subst}
use mathlib.Core.Bool.{true, and-eq-true_iff}
use mathlib.Core.Option.{some}
use mathlib.Core.List.{List, [], ◌∷◌, ◌++◌}
use lib.ListN.{length, get_or, get_or-eq_default}
use lib.Dec.{ltb}
use package.Rattle.rules.specs.Ty.{Ty}
use package.Rattle.rules.specs.Term.{Term, tinl, tinr, tpair, tlet, tletp, tcase, tcall, troll, tunroll, more, nth}
use package.Rattle.calls.specs.Answer.{accepted}
use package.Rattle.calls.specs.Entries.{TypeEntry, type_of, TermEntry, n_var, n_unit, n_inl, n_inr, n_roll, n_unroll, n_pair, n_let, n_letp, n_case, n_call, term_trees, term_tree, term_below, term_of, FunctionEntry, Entries}
use package.Rattle.calls.specs.Fields.{Layout}
use package.Rattle.calls.specs.Named.{terms_of_term, below, test_types, test_terms, test_functions, test_entries}
use package.Rattle.calls.proofs.Answer.{unbind, required}
use package.Rattle.calls.specs.Tested.{TermGood, FunctionGood, Good, LowerTerms}
use package.Rattle.calls.proofs.Entries.{below-head, lower}
use package.Rattle.rules.proofs.Basics.{given, none≢some, some_inj, and_both}

----------------------------------------------------------------
-- Tests passed, entry by entry

module _ (L : Layout) (E : Entries) where
  terms-good : (k : ℕ) (used : List ℕ) (ts : List TermEntry) {more : List ℕ} → test_terms L E k used ts ≡ accepted more
      → (i : ℕ) → i < length ts → TermGood E (k + i) (get_or ts i n_unit)
  unfolding test_terms
  terms-good k used [] e i l = absurd (omega arith)
  terms-good k used (t ∷ ts) e zero l =
      given (unbind _ _ e) λ (u, p, e₁). given (unbind _ _ e₁) λ (u', p', e₂).
      given (and_both _ _ (required _ 4 _ p)) λ (x, fresh-ones). given (and_both _ _ x) λ (y, fs). given (and_both _ _ y) λ (tys, ls).
      subst (λ n. TermGood E n t) (let z : k ≡ k + 0 = omega arith in z)
      (record { types_there = tys; terms_lower = ls; functions_there = fs; types_plain = required _ 5 _ p' })
  terms-good k used (t ∷ ts) e (suc i) l =
      given (unbind _ _ e) λ (u, p, e₁). given (unbind _ _ e₁) λ (u', p', e₂).
      subst (λ n. TermGood E n (get_or ts i n_unit)) (let z : suc k + i ≡ k + suc i = omega arith in z) (terms-good (suc k) (terms_of_term t ++ used) ts e₂ i (omega arith))

  functions-good : (g : ℕ) (used : List ℕ) (hs : List FunctionEntry) {more : List ℕ} → test_functions L E g used hs ≡ accepted more
      → (i : ℕ) (h : FunctionEntry) → nth hs i ≡ some h → FunctionGood E h
  unfolding test_functions nth
  functions-good g used [] e i h q = absurd (none≢some q)
  functions-good g used (x ∷ hs) e zero h q =
      given (unbind _ _ e) λ (u, p, e₁). given (unbind _ _ e₁) λ (u', p', e₂).
      given (and_both _ _ (required _ 4 _ p)) λ (y, fresh-one). given (and_both _ _ y) λ (tys, b).
      subst (FunctionGood E) (some_inj q) (record { types_there = tys; body_there = (below-head (length E.terms) x.body [] b).0; types_plain = required _ 5 _ p' })
  functions-good g used (x ∷ hs) e (suc i) h q =
      given (unbind _ _ e) λ (u, p, e₁). given (unbind _ _ e₁) λ (u', p', e₂). functions-good (suc g) (x.body ∷ used) hs e₂ i h q

  pub entries-good : test_entries L E ≡ accepted tt → Good E
  unfolding test_entries
  entries-good e =
      given (unbind (test_types L 0 E.types) _ e) λ (u, p, e₁).
      given (unbind (test_terms L E 0 [] E.terms) _ e₁) λ (inTerms, p₂, e₂).
      given (unbind (test_functions L E 0 inTerms E.functions) _ e₂) λ (inAll, p₃, e₃).
      record {
        types_lower = lower L E.types p;
        term = λ k l. subst (λ n. TermGood E n (get_or E.terms k n_unit)) (let z : 0 + k ≡ k = omega arith in z) (terms-good 0 [] E.terms p₂ k l);
        function = functions-good 0 inTerms E.functions p₃;
      }

----------------------------------------------------------------
-- The tree of a term

pub good-lower : {E : Entries} → Good E → LowerTerms E.terms
unfolding terms_of_term below
good-lower {E} G k = go (dec_lt k (length E.terms))
  where
    go : Dec (k < length E.terms) → below k (terms_of_term (get_or E.terms k n_unit)) ≡ true
    go (yes l) = (G.term k l).terms_lower
    go (no l) = rw (get_or-eq_default E.terms n_unit {n = k} (let z : length E.terms ≤ k = omega arith in z)) refl

trees-agree : (go go' : ℕ → Term) (n : ℕ) (ks : List ℕ) → below n ks ≡ true → ((i : ℕ) → i < n → go i ≡ go' i) → term_trees go ks ≡ term_trees go' ks
unfolding term_trees
trees-agree go go' n [] e s = refl
trees-agree go go' n (k ∷ ks) e s = given (below-head n k ks e) λ (l, e₁). ap₂ more (s k l) (trees-agree go go' n ks e₁ s)

-- a list whose last element is apart
below_split : (n : ℕ) (ks : List ℕ) (k : ℕ) → below n (ks ++ (k ∷ [])) ≡ true → (below n ks ≡ true) × (k < n)
unfolding below
below_split n [] k e = given (below-head n k [] e) λ (l, e₁). (refl, l)
below_split n (x ∷ ks) k e = given (and_both (ltb x n) (below n (ks ++ (k ∷ []))) e) λ (a, e₁). given (below_split n ks k e₁) λ (b, l). ((and-eq-true_iff (ltb x n) (below n ks)).1 (a, b), l)

tree-agrees : (ty : ℕ → Ty) (go go' : ℕ → Term) (n k : ℕ) (t : TermEntry) → below n (terms_of_term t) ≡ true → ((i : ℕ) → i < n → go i ≡ go' i)
    → term_tree ty go k t ≡ term_tree ty go' k t
unfolding term_tree terms_of_term
tree-agrees ty go go' n k (n_var i) e s = refl
tree-agrees ty go go' n k n_unit e s = refl
tree-agrees ty go go' n k (n_inl c a) e s = ap (tinl k (ty c)) (s a (below-head n a [] e).0)
tree-agrees ty go go' n k (n_inr c a) e s = ap (tinr k (ty c)) (s a (below-head n a [] e).0)
tree-agrees ty go go' n k (n_roll c a) e s = ap (troll k (ty c)) (s a (below-head n a [] e).0)
tree-agrees ty go go' n k (n_unroll c a) e s = ap (tunroll k (ty c)) (s a (below-head n a [] e).0)
tree-agrees ty go go' n k (n_pair a b) e s = given (below-head n a _ e) λ (l, e₁). ap₂ (tpair k) (s a l) (s b (below-head n b [] e₁).0)
tree-agrees ty go go' n k (n_let a b) e s = given (below-head n a _ e) λ (l, e₁). ap₂ (tlet k) (s a l) (s b (below-head n b [] e₁).0)
tree-agrees ty go go' n k (n_letp a b) e s = given (below-head n a _ e) λ (l, e₁). ap₂ (tletp k) (s a l) (s b (below-head n b [] e₁).0)
tree-agrees ty go go' n k (n_case a b c) e s =
    given (below-head n a _ e) λ (l, e₁). given (below-head n b _ e₁) λ (l₁, e₂).
    ap₂ (λ x (f : Term → Term). f x) (s a l) (ap₂ (λ y z x. tcase k x y z) (s b l₁) (s c (below-head n c [] e₂).0))
tree-agrees ty go go' n k (n_call g ks a) e s = given (below_split n ks a e) λ (e₁, l). ap₂ (tcall k g) (trees-agree go go' n ks e₁ s) (s a l)

module _ (ys : List TypeEntry) (ts : List TermEntry) (low : LowerTerms ts) where
  -- the bound of the recursion does not matter
  bound-agrees : (n m k : ℕ) → k < n → k < m → term_below n ys ts k ≡ term_below m ys ts k
  unfolding term_below
  bound-agrees zero m k l l' = absurd (omega arith)
  bound-agrees (suc n) zero k l l' = absurd (omega arith)
  bound-agrees (suc n) (suc m) k l l' =
      tree-agrees (type_of ys) (term_below n ys ts) (term_below m ys ts) k k (get_or ts k n_unit) (low k) λ j h. bound-agrees n m j (omega arith) (omega arith)

  -- the tree of an entry, from the trees of the entries that it names
  pub term-unfolds : (k : ℕ) → term_of ys ts k ≡ term_tree (type_of ys) (term_of ys ts) k (get_or ts k n_unit)
  unfolding term_of term_below
  term-unfolds k =
      tree-agrees (type_of ys) (term_below k ys ts) (term_of ys ts) k k (get_or ts k n_unit) (low k) λ j h. bound-agrees k (suc j) j h (omega arith)
