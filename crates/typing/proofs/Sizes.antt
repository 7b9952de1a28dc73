-- A function has at most as many terms as the program has term entries, since each entry is used once (section 1). Of the entries below
-- `k` those that no other one uses weigh as many terms as their trees have: together `k`, at each point of the tests on entries.
use Prim.Native.Nat.{ℕ, zero, suc, ◌+◌, ◌<◌, ◌≤◌}
use native.Mathlib.Omega.{arith}
use native.Mathlib.Decide.{dec_lt}
use mathlib.Core.Path.{◌≡◌, refl, sym, ap, ap₂, subst, ◌∙◌}
use mathlib.Core.Bool.{Bool, true, false, not, ◌&&◌, ◌||◌, cond}
use mathlib.Core.Option.{some}
use mathlib.Core.List.{List, [], ◌∷◌, ◌++◌}
use lib.ListN.{length, get_or}
use lib.Dec.{eqb, ltb}
use borrow.Author.Tests.{lt-ltb}
use package.Rattle.rules.specs.Ty.{Ty}
use package.Rattle.rules.specs.Term.{Term, nth}
use package.Rattle.rules.proofs.Basics.{given, none≢some, some_inj, not-true, and_both, eqb_yes, eqb_no, eqb-differs}
use package.Rattle.calls.specs.Answer.{accepted}
use package.Rattle.calls.specs.Fields.{Layout}
use package.Rattle.calls.specs.Entries.{type_of, TermEntry, n_var, n_unit, n_inl, n_inr, n_roll, n_unroll, n_pair, n_let, n_letp, n_case, n_call, term_trees}
use package.Rattle.calls.specs.Entries.{term_tree, term_of, FunctionEntry, Entries}
use package.Rattle.calls.specs.Named.{types_of_term, terms_of_term, functions_of_term, types_of_function, below, member, fresh, test_types}
use package.Rattle.calls.specs.Named.{test_terms, test_functions}
use package.Rattle.calls.specs.Named.{test_entries}
use package.Rattle.calls.proofs.Answer.{accepted_inj, unbind, required}
use package.Rattle.calls.proofs.Entries.{below-head, member-middle}
use package.Rattle.calls.proofs.Trees.{entries-good, good-lower, term-unfolds}
use package.Rattle.calls.specs.Tested.{Good}
use package.Rattle.typing.specs.Sizes.{terms_in, terms_in_all}

----------------------------------------------------------------
-- Members

or_false : (a b : Bool) → (a || b) ≡ false → b ≡ false
or_false true b e = absurd (let z : ◌≡◌ {A = ℕ} 0 1 = cc in omega arith)
or_false false b e = e

-- what is not below is no member
not_member : (k j : ℕ) (is : List ℕ) → below k is ≡ true → k ≤ j → member j is ≡ false
unfolding member
not_member k j [] e l = refl
not_member k j (i ∷ is) e l =
    given (below-head k i is e) λ (h, e₁).
    ap₂ ◌||◌ (eqb-differs j i λ p. let z : j ≡ i = p in omega arith) (not_member k j is e₁ l)

below_both : (k : ℕ) (is js : List ℕ) → below k is ≡ true → below k js ≡ true → below k (is ++ js) ≡ true
unfolding below
below_both k [] js e e' = e'
below_both k (i ∷ is) js e e' = given (and_both (ltb i k) (below k is) e) λ (x, e₁). ap₂ ◌&&◌ x (below_both k is js e₁ e')

below_up : (k : ℕ) (is : List ℕ) → below k is ≡ true → below (suc k) is ≡ true
unfolding below
below_up k [] e = refl
below_up k (i ∷ is) e = given (below-head k i is e) λ (l, e₁). ap₂ ◌&&◌ (lt-ltb i (suc k) (omega arith)) (below_up k is e₁)

----------------------------------------------------------------
-- Weights

module _ (size : ℕ → ℕ) where
  -- the sizes of entries, together
  unfoldable sizes : List ℕ → ℕ
  sizes [] = 0
  sizes (t ∷ ts) = size t + sizes ts

  -- the sizes of the entries below `k` that are not used
  unfoldable weight : List ℕ → ℕ → ℕ
  weight used zero = 0
  weight used (suc k) = cond (member k used) 0 (size k) + weight used k

  weight-same : (used used' : List ℕ) (k : ℕ) → ((j : ℕ) → j < k → member j used ≡ member j used') → weight used k ≡ weight used' k
  unfolding weight
  weight-same used used' zero s = refl
  weight-same used used' (suc k) s =
      ap₂ ◌+◌ (ap (λ b. cond b 0 (size k)) (s k (omega arith))) (weight-same used used' k λ j l. s j (omega arith))

  -- an entry that is used now weighs nothing any more
  weight-one : (t : ℕ) (used : List ℕ) (k : ℕ) → t < k → member t used ≡ false → weight (t ∷ used) k + size t ≡ weight used k
  unfolding weight member
  weight-one t used zero l m = absurd (omega arith)
  weight-one t used (suc k) l m = go (dec_lt t k) (λ l. weight-one t used k l m)
    where
      newest : (j : ℕ) → j < t → member j (t ∷ used) ≡ member j used
      newest j h = ap (λ b. b || member j used) (eqb_no j t h)

      go : Dec (t < k) → (t < k → weight (t ∷ used) k + size t ≡ weight used k)
          → cond (member k (t ∷ used)) 0 (size k) + weight (t ∷ used) k + size t ≡ cond (member k used) 0 (size k) + weight used k
      go (yes h) s =
          let e : member k (t ∷ used) ≡ member k used = ap (λ b. b || member k used) (eqb-differs k t λ p. let z : k ≡ t = p in omega arith) in
          let f : cond (member k (t ∷ used)) 0 (size k) ≡ cond (member k used) 0 (size k) = ap (λ b. cond b 0 (size k)) e in
          omega (arith, s h, f)
      go (no h) s =
          let p : t ≡ k = omega arith in
          let here : cond (member k (t ∷ used)) 0 (size k) ≡ 0 = ap (λ b. cond (b || member k used) 0 (size k)) (ap (eqb k) p ∙ eqb_yes k) in
          let gone : cond (member k used) 0 (size k) ≡ size k = ap (λ b. cond b 0 (size k)) (ap (λ t. member t used) (sym p) ∙ m) in
          let rest : weight (t ∷ used) k ≡ weight used k = weight-same (t ∷ used) used k (λ j l. newest j (omega arith)) in
          let same : size t ≡ size k = ap size p in
          omega arith

  weight-all : (ts used : List ℕ) (k : ℕ) → below k ts ≡ true → fresh used ts ≡ true → weight (ts ++ used) k + sizes ts ≡ weight used k
  unfolding sizes fresh member
  weight-all [] used k b f = omega arith
  weight-all (t ∷ ts) used k b f =
      given (below-head k t ts b) λ (l, b₁). given (and_both _ (fresh (t ∷ used) ts) f) λ (m, f₁).
      let first : weight (t ∷ used) k + size t ≡ weight used k = weight-one t used k l (not-true m) in
      let rest : weight (ts ++ (t ∷ used)) k + sizes ts ≡ weight (t ∷ used) k = weight-all ts (t ∷ used) k b₁ f₁ in
      let same : weight (t ∷ (ts ++ used)) k ≡ weight (ts ++ (t ∷ used)) k = moved in
      omega arith
    where
      moved : weight (t ∷ (ts ++ used)) k ≡ weight (ts ++ (t ∷ used)) k
      moved = weight-same (t ∷ (ts ++ used)) (ts ++ (t ∷ used)) k λ j l. sym (member-middle j t ts used)

  -- one entry more, whose parts are lower and fresh: its size is one more than theirs
  weight-next : (k : ℕ) (ts used : List ℕ) → below k ts ≡ true → below k used ≡ true → fresh used ts ≡ true → size k ≡ suc (sizes ts)
      → weight used k ≡ k → weight (ts ++ used) (suc k) ≡ suc k
  unfolding weight
  weight-next k ts used b b' f s w =
      let all : weight (ts ++ used) k + sizes ts ≡ weight used k = weight-all ts used k b f in
      let here : cond (member k (ts ++ used)) 0 (size k) ≡ size k =
      ap (λ b. cond b 0 (size k)) (not_member k k (ts ++ used) (below_both k ts used b b') (omega arith)) in
      omega arith

----------------------------------------------------------------
-- The size of a tree, by the sizes of its parts

sizes-two : (size : ℕ → ℕ) (ts : List ℕ) (t : ℕ) → sizes size (ts ++ (t ∷ [])) ≡ sizes size ts + size t
unfolding sizes
sizes-two size [] t = omega arith
sizes-two size (x ∷ ts) t = omega (arith, sizes-two size ts t)

all-sizes : (go : ℕ → Term) (ts : List ℕ) → terms_in_all (term_trees go ts) ≡ sizes (λ j. terms_in (go j)) ts
unfolding sizes terms_in_all term_trees
all-sizes go [] = refl
all-sizes go (t ∷ ts) = ap (λ n. terms_in (go t) + n) (all-sizes go ts)

tree-size : (ty : ℕ → Ty) (go : ℕ → Term) (k : ℕ) (t : TermEntry) → terms_in (term_tree ty go k t) ≡ suc (sizes (λ j. terms_in (go j)) (terms_of_term t))
unfolding sizes terms_in term_tree terms_of_term
tree-size ty go k (n_var i) = refl
tree-size ty go k n_unit = refl
tree-size ty go k (n_inl c e) = omega arith
tree-size ty go k (n_inr c e) = omega arith
tree-size ty go k (n_roll c e) = omega arith
tree-size ty go k (n_unroll c e) = omega arith
tree-size ty go k (n_pair e e') = omega arith
tree-size ty go k (n_let e b) = omega arith
tree-size ty go k (n_letp e b) = omega arith
tree-size ty go k (n_case e b b') = omega arith
tree-size ty go k (n_call g ts e) = omega (arith, all-sizes go ts, sizes-two (λ j. terms_in (go j)) ts e)

----------------------------------------------------------------
-- The tests on entries

module _ (L : Layout) (E : Entries) where
  -- the terms of the tree of an entry
  abbrev size : ℕ → ℕ
  size k = terms_in (term_of E.types E.terms k)

  good-size : Good E → (k : ℕ) → size k ≡ suc (sizes size (terms_of_term (get_or E.terms k n_unit)))
  good-size G k = ap terms_in (term-unfolds E.types E.terms (good-lower G) k)
      ∙ tree-size (type_of E.types) (term_of E.types E.terms) k (get_or E.terms k n_unit)

  -- the entries from `k` on, `used` being the terms that those below use
  weight_from : Good E → (k : ℕ) (used : List ℕ) (ts : List TermEntry) {all : List ℕ} → test_terms L E k used ts ≡ accepted all
      → ((i : ℕ) → get_or ts i n_unit ≡ get_or E.terms (k + i) n_unit) → below k used ≡ true → weight size used k ≡ k
      → (weight size all (k + length ts) ≡ k + length ts)
  unfolding test_terms
  weight_from G k used [] {all} e s b w = subst (λ n. weight size all n ≡ n) (let z : k ≡ k + 0 = omega arith in z)
      (subst (λ a. weight size a k ≡ k) (accepted_inj e) w)
  weight_from G k used (t ∷ ts) {all} e s b w =
      given (unbind _ _ e) λ (u, p, e₁). given (unbind _ _ e₁) λ (u', p', e₂).
      given (here (s 0)) λ (n, ls).
      given (and_both (below (length E.types) (types_of_term t) && below k (terms_of_term t) && below (length E.functions) (functions_of_term t))
      (fresh used (terms_of_term t))
      (required _ 4 _ p)) λ (x, f).
      subst (λ n. weight size all n ≡ n) (let z : suc k + length ts ≡ k + suc (length ts) = omega arith in z)
      (weight_from G (suc k) (terms_of_term t ++ used) ts e₂
      (λ i. s (suc i) ∙ ap (λ n. get_or E.terms n n_unit) (let z : k + suc i ≡ suc k + i = omega arith in z))
      (below_up k (terms_of_term t ++ used) (below_both k (terms_of_term t) used ls b))
      (weight-next size k (terms_of_term t) used ls b f n w))
    where
      here : t ≡ get_or E.terms (k + 0) n_unit → (size k ≡ suc (sizes size (terms_of_term t))) × (below k (terms_of_term t) ≡ true)
      here q = subst (λ t. (size k ≡ suc (sizes size (terms_of_term t))) × (below k (terms_of_term t) ≡ true))
          (ap (λ n. get_or E.terms n n_unit) (let z : k ≡ k + 0 = omega arith in z) ∙ sym q) (good-size G k, good-lower G k)

  -- bodies are not used in terms
  bodies-fresh : (g : ℕ) (used : List ℕ) (hs : List FunctionEntry) {all : List ℕ} → test_functions L E g used hs ≡ accepted all
      → (i : ℕ) (h : FunctionEntry) → nth hs i ≡ some h → member h.body used ≡ false
  unfolding test_functions nth fresh member
  bodies-fresh g used [] e i h q = absurd (none≢some q)
  bodies-fresh g used (x ∷ hs) e zero h q =
      given (unbind _ _ e) λ (u, p, e₁).
      given (and_both (below (length E.types) (types_of_function x) && below (length E.terms) (x.body ∷ [])) (fresh used (x.body ∷ []))
      (required _ 4 _ p)) λ (y, f).
      subst (λ h. member h.body used ≡ false) (some_inj q) (not-true (and_both (not (member x.body used)) true f).0)
  bodies-fresh g used (x ∷ hs) e (suc i) h q =
      given (unbind _ _ e) λ (u, p, e₁). given (unbind _ _ e₁) λ (u', p', e₂).
      or_false (eqb h.body x.body) (member h.body used) (bodies-fresh (suc g) (x.body ∷ used) hs e₂ i h q)

  -- a function has at most as many terms as there are term entries
  pub body-size : test_entries L E ≡ accepted tt → (g : ℕ) (h : FunctionEntry) → nth E.functions g ≡ some h
      → terms_in (term_of E.types E.terms h.body) ≤ length E.terms
  unfolding test_entries weight below
  body-size e g h q =
      given (entries-good L E e) λ G.
      given (unbind (test_types L 0 E.types) _ e) λ (u, p, e₁).
      given (unbind (test_terms L E 0 [] E.terms) _ e₁) λ (inTerms, p₂, e₂).
      given (unbind (test_functions L E 0 inTerms E.functions) _ e₂) λ (inAll, p₃, e₃).
      given (weight_from G 0 [] E.terms p₂ (λ i. ap (λ n. get_or E.terms n n_unit) (let z : i ≡ 0 + i = omega arith in z)) refl refl) λ w.
      given (weight-one size h.body inTerms (length E.terms) (G.function g h q).body_there (bodies-fresh 0 inTerms E.functions p₃ g h q)) λ v.
      let whole : weight size inTerms (length E.terms) ≡ length E.terms =
      subst (λ n. weight size inTerms n ≡ n) (let z : 0 + length E.terms ≡ length E.terms = omega arith in z) w in
      omega arith
