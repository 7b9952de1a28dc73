-- Every term entry of an accepted program is used, by a higher term entry or as a body. So what holds of all bodies, and of the parts of
-- each entry of which it holds, holds of every term entry.
use Prim.Native.Nat.{ℕ, zero, suc, ◌+◌, ◌≤◌, ◌<◌}
use native.Mathlib.Omega.{arith}
use mathlib.Core.Path.{◌≡◌, refl, sym, subst}
use mathlib.Core.Bool.{true}
use mathlib.Core.Option.{some}
use mathlib.Core.List.{List, [], ◌∷◌, ◌++◌}
use lib.ListN.{length, get_or}
use lib.Dec.{eqb}
use package.Rattle.rules.specs.Term.{nth}
use package.Rattle.rules.proofs.Basics.{given, or_left, or_right, or_elim, eqb_yes, eqb-sound}
use package.Rattle.calls.specs.Answer.{accepted}
use package.Rattle.calls.specs.Fields.{Layout}
use package.Rattle.calls.specs.Entries.{TermEntry, n_unit, FunctionEntry, Entries}
use package.Rattle.calls.specs.Named.{terms_of_term, below, member, test_types, test_terms, test_functions, test_used, test_entries}
use package.Rattle.calls.proofs.Answer.{accepted_inj, unbind, required}
use package.Rattle.calls.proofs.Entries.{below-head}
use package.Rattle.calls.proofs.Trees.{entries-good}

----------------------------------------------------------------
-- Members

-- `P` holds of every member
abbrev pub All : (ℕ → Type 0) → List ℕ → Type 0
All P is = (j : ℕ) → member j is ≡ true → P j

module _ (P : ℕ → Type 0) where
  pub all_none : All P []
  unfolding member
  all_none j e = absurd (let z : ◌≡◌ {A = ℕ} 0 1 = cc in omega arith)

  pub all_more : (i : ℕ) (is : List ℕ) → P i → All P is → All P (i ∷ is)
  unfolding member
  all_more i is here rest j e = or_elim (eqb j i) (member j is) (λ q. subst P (sym (eqb-sound j i q)) here) (rest j) e

  -- of two lists, one behind the other
  pub all_both : (is js : List ℕ) → All P is → All P js → All P (is ++ js)
  unfolding member
  all_both [] js f g = g
  all_both (i ∷ is) js f g =
      all_more i (is ++ js) (f i (or_left (member i is) (eqb_yes i))) (all_both is js (λ j e. f j (or_right (eqb j i) e)) g)

below_all : (n : ℕ) (is : List ℕ) → below n is ≡ true → All (λ j. j < n) is
below_all n [] e = all_none (λ j. j < n)
below_all n (i ∷ is) e = given (below-head n i is e) λ (l, e₁). all_more (λ j. j < n) i is l (below_all n is e₁)

----------------------------------------------------------------
-- What the tests on entries collect

module _ (L : Layout) (E : Entries) where
  module _ (P : ℕ → Type 0) where
    terms_collect : (k : ℕ) (used : List ℕ) (ts : List TermEntry) {more : List ℕ} → test_terms L E k used ts ≡ accepted more → All P used
        → ((i : ℕ) → i < length ts → All P (terms_of_term (get_or ts i n_unit))) → All P more
    unfolding test_terms
    terms_collect k used [] e f g = subst (All P) (accepted_inj e) f
    terms_collect k used (t ∷ ts) e f g =
        given (unbind _ _ e) λ (u, p, e₁). given (unbind _ _ e₁) λ (u', p', e₂).
        terms_collect (suc k) (terms_of_term t ++ used) ts e₂ (all_both P (terms_of_term t) used (g 0 (omega arith)) f) (λ i l. g (suc i) (omega arith))

    functions_collect : (g : ℕ) (used : List ℕ) (hs : List FunctionEntry) {more : List ℕ} → test_functions L E g used hs ≡ accepted more → All P used
        → ((i : ℕ) (h : FunctionEntry) → nth hs i ≡ some h → P h.body) → All P more
    unfolding test_functions nth
    functions_collect g used [] e f b = subst (All P) (accepted_inj e) f
    functions_collect g used (h ∷ hs) e f b =
        given (unbind _ _ e) λ (u, p, e₁). given (unbind _ _ e₁) λ (u', p', e₂).
        functions_collect (suc g) (h.body ∷ used) hs e₂ (all_more P h.body used (b 0 h refl) f) (λ i. b (suc i))

  all-used : (k : ℕ) (used : List ℕ) (ts : List TermEntry) → test_used L E k used ts ≡ accepted tt → (i : ℕ) → i < length ts → member (k + i) used ≡ true
  unfolding test_used
  all-used k used [] e i l = absurd (omega arith)
  all-used k used (t ∷ ts) e zero l =
      given (unbind _ _ e) λ (u, p, e₁). rw (let z : k + 0 ≡ k = omega arith in z) (required _ 4 _ p)
  all-used k used (t ∷ ts) e (suc i) l =
      given (unbind _ _ e) λ (u, p, e₁). rw (let z : k + suc i ≡ suc k + i = omega arith in z) (all-used (suc k) used ts e₁ i (omega arith))

  -- what holds of all that term entries name and of all bodies, holds of every term entry
  used_by : (P : ℕ → Type 0) → test_entries L E ≡ accepted tt → ((u : ℕ) → u < length E.terms → All P (terms_of_term (get_or E.terms u n_unit)))
      → ((g : ℕ) (h : FunctionEntry) → nth E.functions g ≡ some h → P h.body) → (k : ℕ) → k < length E.terms → P k
  unfolding test_entries
  used_by P e named bodies k l =
      given (unbind (test_types L 0 E.types) _ e) λ (u, p, e₁).
      given (unbind (test_terms L E 0 [] E.terms) _ e₁) λ (inTerms, p₂, e₂).
      given (unbind (test_functions L E 0 inTerms E.functions) _ e₂) λ (inAll, p₃, e₃).
      functions_collect P 0 inTerms E.functions p₃ (terms_collect P 0 [] E.terms p₂ (all_none P) named) bodies k
      (rw (let z : 0 + k ≡ k = omega arith in z) at (all-used 0 inAll E.terms e₃ k l))

  ----------------------------------------------------------------
  -- From the bodies down

  module _ (P : ℕ → Type 0) (tested : test_entries L E ≡ accepted tt) (bodies : (g : ℕ) (h : FunctionEntry) → nth E.functions g ≡ some h → P h.body)
      (parts : (u : ℕ) → u < length E.terms → P u → All P (terms_of_term (get_or E.terms u n_unit))) where
    -- of the highest `n` entries: an entry that names one of them is higher
    highest : (n k : ℕ) → length E.terms ≤ k + n → k < length E.terms → P k
    highest zero k h l = absurd (omega arith)
    highest (suc n) k h l =
        used_by (λ j. length E.terms ≤ j + suc n → P j) tested
        (λ u l j e h. parts u l (highest n u (let z : j < u = below_all u _ ((entries-good L E tested).term u l).terms_lower j e in omega arith) l) j e)
        (λ g h q i. bodies g h q) k l h

    pub every_term : (k : ℕ) → k < length E.terms → P k
    every_term k l = highest (length E.terms) k (omega arith) l
