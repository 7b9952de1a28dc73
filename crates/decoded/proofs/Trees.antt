-- The tree of a term, by the kind that its row says, with the parts that the row names; these are lower rows. The function of a call.
use Prim.Native.Nat.{ℕ, zero, suc, ◌+◌, ◌≤◌, ◌<◌, min}
use native.Mathlib.Omega.{arith}
use native.Mathlib.Decide.{dec_lt}
use mathlib.Core.Path.{◌≡◌, refl, sym, ap, subst, ◌∙◌}
use mathlib.Core.Bool.{true}
use mathlib.Core.Logic.{◌⊎◌, inl as left, inr as right}
use mathlib.Core.Option.{some}
use mathlib.Core.List.{List, [], ◌∷◌, ◌++◌}
use lib.ListN.{length, get_or, length-map}
use package.Rattle.rules.specs.Term.{Term, var, tunit, tinl, tinr, tpair, tlet, tletp, tcase, tcall, troll, tunroll, count, Fun, nth, entry}
use package.Rattle.rules.proofs.Basics.{none≢some, some_inj}
use package.Rattle.rules.proofs.Lists.{nth-map, nth_none}
use package.Rattle.calls.specs.Entries.{TypeEntry, type_of, TermEntry, n_var, n_unit, n_inl, n_inr, n_roll, n_unroll, n_pair, n_let, n_letp, n_case, n_call, term_of_kind, term_trees, term_tree, function_of, program_of}
use package.Rattle.calls.specs.Named.{terms_of_term, functions_of_term, below}
use package.Rattle.calls.specs.Tested.{LowerTerms}
use package.Rattle.calls.proofs.Entries.{below-head}
use package.Rattle.calls.proofs.Trees.{term-unfolds}
use package.Rattle.program.specs.Kinds.{variable_kind, unit_kind, inl_kind, inr_kind, pair_kind, let_kind, let_pair_kind, case_kind, call_kind, roll_kind, unroll_kind, term_kinds}
use package.Rattle.program.specs.KindNumbers.{term_kind_number}
use package.Rattle.program.specs.declared.kinds.TermKind.{TermKind}
use package.Rattle.program.specs.declared.kinds.TermKind.TheVariants.{Inl, Inr, Pair, Let, LetPair, Roll, Unroll}
use package.Rattle.decoded.specs.Rows.{room_for, kind_in, first_in, second_in, third_in, argument_in, arguments_in, ancillae_in, body_in, term_count}
use package.Rattle.decoded.specs.Rows.{function_count, entry_in, function_in, terms_in, functions_in, tree_in, program_in, Rows}
use package.Rattle.decoded.proofs.Agreeing.{length-listed, nth-listed, listed-entry, listed-lower}

----------------------------------------------------------------
-- The entry that a row says, by its kind

module _ (code : List ℕ) (t : ℕ) where
  entry_by : {k : ℕ} → kind_in code t ≡ k
      → entry_in code t ≡ term_of_kind k (first_in code t) (second_in code t) (third_in code t) (first_in code t) (arguments_in code t 0 (ancillae_in code t))
      (argument_in code t (ancillae_in code t))
  unfolding entry_in
  entry_by e =
      ap (λ k. term_of_kind k (first_in code t) (second_in code t) (third_in code t) (first_in code t) (arguments_in code t 0 (ancillae_in code t))
      (argument_in code t (ancillae_in code t))) e

  pub entry-var : kind_in code t ≡ variable_kind → entry_in code t ≡ n_var (first_in code t)
  unfolding term_of_kind
  entry-var e = entry_by e

  pub entry-unit : kind_in code t ≡ unit_kind → entry_in code t ≡ n_unit
  unfolding term_of_kind
  entry-unit e = entry_by e

  pub entry_inl : kind_in code t ≡ inl_kind → entry_in code t ≡ n_inl (first_in code t) (second_in code t)
  unfolding term_of_kind
  entry_inl e = entry_by e

  pub entry_inr : kind_in code t ≡ inr_kind → entry_in code t ≡ n_inr (first_in code t) (second_in code t)
  unfolding term_of_kind
  entry_inr e = entry_by e

  pub entry-pair : kind_in code t ≡ pair_kind → entry_in code t ≡ n_pair (first_in code t) (second_in code t)
  unfolding term_of_kind
  entry-pair e = entry_by e

  pub entry_let : kind_in code t ≡ let_kind → entry_in code t ≡ n_let (first_in code t) (second_in code t)
  unfolding term_of_kind
  entry_let e = entry_by e

  pub entry_letp : kind_in code t ≡ let_pair_kind → entry_in code t ≡ n_letp (first_in code t) (second_in code t)
  unfolding term_of_kind
  entry_letp e = entry_by e

  pub entry_case : kind_in code t ≡ case_kind → entry_in code t ≡ n_case (first_in code t) (second_in code t) (third_in code t)
  unfolding term_of_kind
  entry_case e = entry_by e

  pub entry-call : kind_in code t ≡ call_kind → third_in code t ≤ room_for
      → entry_in code t ≡ n_call (first_in code t) (arguments_in code t 0 (third_in code t)) (argument_in code t (third_in code t))
  unfolding term_of_kind ancillae_in
  entry-call e few =
      entry_by e ∙ ap (λ n. n_call (first_in code t) (arguments_in code t 0 n) (argument_in code t n))
      (let z : min room_for (third_in code t) ≡ third_in code t = omega arith in z)

  pub entry-roll : kind_in code t ≡ roll_kind → entry_in code t ≡ n_roll (first_in code t) (second_in code t)
  unfolding term_of_kind
  entry-roll e = entry_by e

  pub entry_unroll : kind_in code t ≡ unroll_kind → entry_in code t ≡ n_unroll (first_in code t) (second_in code t)
  unfolding term_of_kind
  entry_unroll e = entry_by e

-- a kind with two references and no other
abbrev pub Two : TermKind → Type 0
Two x = (x ≡ Inl) ⊎ ((x ≡ Inr) ⊎ ((x ≡ Pair) ⊎ ((x ≡ Let) ⊎ ((x ≡ LetPair) ⊎ ((x ≡ Roll) ⊎ (x ≡ Unroll))))))

pub by_two : (P : TermKind → Type 0) → P Inl → P Inr → P Pair → P Let → P LetPair → P Roll → P Unroll → {x : TermKind} → Two x → P x
by_two P a b c d e f g w = go w
  where
    at : {x y : TermKind} → P y → x ≡ y → P x
    at p q = subst P (sym q) p

    go : {x : TermKind} → Two x → P x
    go (left q) = at a q
    go (right (left q)) = at b q
    go (right (right (left q))) = at c q
    go (right (right (right (left q)))) = at d q
    go (right (right (right (right (left q))))) = at e q
    go (right (right (right (right (right (left q)))))) = at f q
    go (right (right (right (right (right (right q)))))) = at g q

pub two_no-call : {x : TermKind} → Two x → ¬ (term_kind_number x ≡ call_kind)
two_no-call w = by_two (λ x. ¬ (term_kind_number x ≡ call_kind)) (λ e. omega arith) (λ e. omega arith) (λ e. omega arith) (λ e. omega arith)
    (λ e. omega arith) (λ e. omega arith) (λ e. omega arith) w

pub two_no-variable : {x : TermKind} → Two x → ¬ (term_kind_number x ≡ variable_kind)
two_no-variable w = by_two (λ x. ¬ (term_kind_number x ≡ variable_kind)) (λ e. omega arith) (λ e. omega arith) (λ e. omega arith) (λ e. omega arith)
    (λ e. omega arith) (λ e. omega arith) (λ e. omega arith) w

-- none of section 1's kinds, as a match on all of them leaves it
abbrev pub NoKind : ℕ → Type 0
NoKind k =
    ((((((((((Unit {0} × ¬ (k ≡ variable_kind)) × ¬ (k ≡ unit_kind)) × ¬ (k ≡ inl_kind)) × ¬ (k ≡ inr_kind)) × ¬ (k ≡ pair_kind)) × ¬ (k ≡ let_kind)) × ¬ (k ≡ let_pair_kind)) × ¬ (k ≡ case_kind)) × ¬ (k ≡ call_kind)) × ¬ (k ≡ roll_kind)) × ¬
    (k ≡ unroll_kind)

pub none_left : (k : ℕ) → k < term_kinds → NoKind k → ⊥
none_left k l (((((((((((u, d₀), d₁), d₂), d₃), d₄), d₅), d₆), d₇), d₈), d₉), d₁₀) = go k l d₀ d₁ d₂ d₃ d₄ d₅ d₆ d₇ d₈ d₉ d₁₀
  where
    go : (k : ℕ) → k < term_kinds → ¬ (k ≡ variable_kind) → ¬ (k ≡ unit_kind) → ¬ (k ≡ inl_kind) → ¬ (k ≡ inr_kind) → ¬ (k ≡ pair_kind) → ¬ (k ≡ let_kind) → ¬ (k ≡ let_pair_kind) → ¬ (k ≡ case_kind) → ¬ (k ≡ call_kind) → ¬ (k ≡ roll_kind)
        → ¬ (k ≡ unroll_kind) → ⊥
    go zero l d₀ d₁ d₂ d₃ d₄ d₅ d₆ d₇ d₈ d₉ d₁₀ = d₀ refl
    go (suc zero) l d₀ d₁ d₂ d₃ d₄ d₅ d₆ d₇ d₈ d₉ d₁₀ = d₁ refl
    go (suc (suc zero)) l d₀ d₁ d₂ d₃ d₄ d₅ d₆ d₇ d₈ d₉ d₁₀ = d₂ refl
    go (suc (suc (suc zero))) l d₀ d₁ d₂ d₃ d₄ d₅ d₆ d₇ d₈ d₉ d₁₀ = d₃ refl
    go (suc (suc (suc (suc zero)))) l d₀ d₁ d₂ d₃ d₄ d₅ d₆ d₇ d₈ d₉ d₁₀ = d₄ refl
    go (suc (suc (suc (suc (suc zero))))) l d₀ d₁ d₂ d₃ d₄ d₅ d₆ d₇ d₈ d₉ d₁₀ = d₅ refl
    go (suc (suc (suc (suc (suc (suc zero)))))) l d₀ d₁ d₂ d₃ d₄ d₅ d₆ d₇ d₈ d₉ d₁₀ = d₆ refl
    go (suc (suc (suc (suc (suc (suc (suc zero))))))) l d₀ d₁ d₂ d₃ d₄ d₅ d₆ d₇ d₈ d₉ d₁₀ = d₇ refl
    go (suc (suc (suc (suc (suc (suc (suc (suc zero)))))))) l d₀ d₁ d₂ d₃ d₄ d₅ d₆ d₇ d₈ d₉ d₁₀ = d₈ refl
    go (suc (suc (suc (suc (suc (suc (suc (suc (suc zero))))))))) l d₀ d₁ d₂ d₃ d₄ d₅ d₆ d₇ d₈ d₉ d₁₀ = d₉ refl
    go (suc (suc (suc (suc (suc (suc (suc (suc (suc (suc zero)))))))))) l d₀ d₁ d₂ d₃ d₄ d₅ d₆ d₇ d₈ d₉ d₁₀ = d₁₀ refl
    go (suc (suc (suc (suc (suc (suc (suc (suc (suc (suc (suc k))))))))))) l d₀ d₁ d₂ d₃ d₄ d₅ d₆ d₇ d₈ d₉ d₁₀ = omega arith

----------------------------------------------------------------
-- Trees

module _ {code : List ℕ} (R : Rows code) where
  entry_at : (t : ℕ) → t < term_count code → get_or (terms_in code) t n_unit ≡ entry_in code t
  unfolding terms_in
  entry_at t l = listed-entry code (term_count code) t l

  lower-all : LowerTerms (terms_in code)
  unfolding terms_in
  lower-all = listed-lower code (term_count code) R.lower

  module _ (t : ℕ) (l : t < term_count code) where
    pub tree_is : {x : TermEntry} → entry_in code t ≡ x → (ys : List TypeEntry) → tree_in code ys t ≡ term_tree (type_of ys) (tree_in code ys) t x
    tree_is e ys = term-unfolds ys (terms_in code) lower-all t ∙ ap (term_tree (type_of ys) (tree_in code ys) t) (entry_at t l ∙ e)

    module _ (ys : List TypeEntry) where
      pub tree-var : kind_in code t ≡ variable_kind → tree_in code ys t ≡ var t (first_in code t)
      unfolding term_tree
      tree-var e = tree_is (entry-var code t e) ys

      pub tree-unit : kind_in code t ≡ unit_kind → tree_in code ys t ≡ tunit t
      unfolding term_tree
      tree-unit e = tree_is (entry-unit code t e) ys

      pub tree_inl : kind_in code t ≡ inl_kind → tree_in code ys t ≡ tinl t (type_of ys (first_in code t)) (tree_in code ys (second_in code t))
      unfolding term_tree
      tree_inl e = tree_is (entry_inl code t e) ys

      pub tree_inr : kind_in code t ≡ inr_kind → tree_in code ys t ≡ tinr t (type_of ys (first_in code t)) (tree_in code ys (second_in code t))
      unfolding term_tree
      tree_inr e = tree_is (entry_inr code t e) ys

      pub tree-pair : kind_in code t ≡ pair_kind → tree_in code ys t ≡ tpair t (tree_in code ys (first_in code t)) (tree_in code ys (second_in code t))
      unfolding term_tree
      tree-pair e = tree_is (entry-pair code t e) ys

      pub tree_let : kind_in code t ≡ let_kind → tree_in code ys t ≡ tlet t (tree_in code ys (first_in code t)) (tree_in code ys (second_in code t))
      unfolding term_tree
      tree_let e = tree_is (entry_let code t e) ys

      pub tree_letp : kind_in code t ≡ let_pair_kind → tree_in code ys t ≡ tletp t (tree_in code ys (first_in code t)) (tree_in code ys (second_in code t))
      unfolding term_tree
      tree_letp e = tree_is (entry_letp code t e) ys

      pub tree_case : kind_in code t ≡ case_kind
          → tree_in code ys t ≡ tcase t (tree_in code ys (first_in code t)) (tree_in code ys (second_in code t)) (tree_in code ys (third_in code t))
      unfolding term_tree
      tree_case e = tree_is (entry_case code t e) ys

      pub tree-call : kind_in code t ≡ call_kind
          → tree_in code ys t ≡ tcall t (first_in code t) (term_trees (tree_in code ys) (arguments_in code t 0 (third_in code t)))
          (tree_in code ys (argument_in code t (third_in code t)))
      unfolding term_tree
      tree-call e = tree_is (entry-call code t e (R.few t l e)) ys

      pub tree-roll : kind_in code t ≡ roll_kind → tree_in code ys t ≡ troll t (type_of ys (first_in code t)) (tree_in code ys (second_in code t))
      unfolding term_tree
      tree-roll e = tree_is (entry-roll code t e) ys

      pub tree_unroll : kind_in code t ≡ unroll_kind → tree_in code ys t ≡ tunroll t (type_of ys (first_in code t)) (tree_in code ys (second_in code t))
      unfolding term_tree
      tree_unroll e = tree_is (entry_unroll code t e) ys

      pub tree-entry : entry (tree_in code ys t) ≡ t
      unfolding entry term_tree
      tree-entry = ap entry (tree_is refl ys) ∙ go (entry_in code t)
        where
          go : (x : TermEntry) → entry (term_tree (type_of ys) (tree_in code ys) t x) ≡ t
          go (n_var i) = refl
          go n_unit = refl
          go (n_inl c e) = refl
          go (n_inr c e) = refl
          go (n_roll c e) = refl
          go (n_unroll c e) = refl
          go (n_pair e e') = refl
          go (n_let e b) = refl
          go (n_letp e b) = refl
          go (n_case e b b') = refl
          go (n_call g ts e) = refl

    ----------------------------------------------------------------
    -- Parts are lower rows

    names-lower : {x : TermEntry} → entry_in code t ≡ x → below t (terms_of_term x) ≡ true
    names-lower e = subst (λ x. below t (terms_of_term x) ≡ true) e (R.lower t l)

    -- the only term, and the second of two
    only-lower : {x : TermEntry} {u : ℕ} → entry_in code t ≡ x → terms_of_term x ≡ u ∷ [] → u < t
    only-lower {u = u} e q = (below-head t u [] (rw q at (names-lower e))).0

    both-lower : {x : TermEntry} {u w : ℕ} → entry_in code t ≡ x → terms_of_term x ≡ u ∷ w ∷ [] → (u < t) × (w < t)
    both-lower {u = u} {w} e q =
        let z = below-head t u (w ∷ []) (rw q at (names-lower e)) in (z.0, (below-head t w [] z.1).0)

    pub part_inl : kind_in code t ≡ inl_kind → second_in code t < t
    unfolding terms_of_term
    part_inl e = only-lower (entry_inl code t e) refl

    pub part_inr : kind_in code t ≡ inr_kind → second_in code t < t
    unfolding terms_of_term
    part_inr e = only-lower (entry_inr code t e) refl

    pub part-roll : kind_in code t ≡ roll_kind → second_in code t < t
    unfolding terms_of_term
    part-roll e = only-lower (entry-roll code t e) refl

    pub part_unroll : kind_in code t ≡ unroll_kind → second_in code t < t
    unfolding terms_of_term
    part_unroll e = only-lower (entry_unroll code t e) refl

    pub parts-pair : kind_in code t ≡ pair_kind → (first_in code t < t) × (second_in code t < t)
    unfolding terms_of_term
    parts-pair e = both-lower (entry-pair code t e) refl

    pub parts_let : kind_in code t ≡ let_kind → (first_in code t < t) × (second_in code t < t)
    unfolding terms_of_term
    parts_let e = both-lower (entry_let code t e) refl

    pub parts_letp : kind_in code t ≡ let_pair_kind → (first_in code t < t) × (second_in code t < t)
    unfolding terms_of_term
    parts_letp e = both-lower (entry_letp code t e) refl

    pub parts_case : kind_in code t ≡ case_kind → (first_in code t < t) × (second_in code t < t) × (third_in code t < t)
    unfolding terms_of_term
    parts_case e =
        let z = below-head t (first_in code t) (second_in code t ∷ third_in code t ∷ []) (names-lower (entry_case code t e)) in
        let w = below-head t (second_in code t) (third_in code t ∷ []) z.1 in
        (z.0, w.0, (below-head t (third_in code t) [] w.1).0)

----------------------------------------------------------------
-- The arguments of a call

-- as many trees as terms
pub count-arguments : (go : ℕ → Term) (code : List ℕ) (t k n : ℕ) → count (term_trees go (arguments_in code t k n)) ≡ n
unfolding arguments_in term_trees count
count-arguments go code t k zero = refl
count-arguments go code t k (suc n) = ap suc (count-arguments go code t (k + 1) n)

below_each : (m : ℕ) (code : List ℕ) (t i n last : ℕ) → below m (arguments_in code t i n ++ (last ∷ [])) ≡ true → (k : ℕ) → i ≤ k → k < i + n
    → argument_in code t k < m
unfolding arguments_in
below_each m code t i zero last e k h l = absurd (omega arith)
below_each m code t i (suc n) last e k h l = go (dec_lt i k) (below-head m (argument_in code t i) (arguments_in code t (i + 1) n ++ (last ∷ [])) e)
    (below_each m code t (i + 1) n last)
  where
    go : Dec (i < k) → (argument_in code t i < m) × (below m (arguments_in code t (i + 1) n ++ (last ∷ [])) ≡ true)
        → (below m (arguments_in code t (i + 1) n ++ (last ∷ [])) ≡ true → (k : ℕ) → i + 1 ≤ k → k < i + 1 + n → argument_in code t k < m)
        → argument_in code t k < m
    go (yes x) z rest = rest z.1 k (omega arith) (omega arith)
    go (no x) z rest = rw (let q : k ≡ i = omega arith in q) z.0

below_last : (m : ℕ) (code : List ℕ) (t i n last : ℕ) → below m (arguments_in code t i n ++ (last ∷ [])) ≡ true → last < m
unfolding arguments_in
below_last m code t i zero last e = (below-head m last [] e).0
below_last m code t i (suc n) last e = below_last m code t (i + 1) n last (below-head m _ _ e).1

module _ {code : List ℕ} (R : Rows code) (t : ℕ) (l : t < term_count code) (e : kind_in code t ≡ call_kind) where
  -- argument `k`, the dynamic term after the ancilla terms
  pub part-argument : (k : ℕ) → k ≤ third_in code t → argument_in code t k < t
  unfolding terms_of_term
  part-argument k h = go (dec_lt k (third_in code t))
    where
      lower : below t (arguments_in code t 0 (third_in code t) ++ (argument_in code t (third_in code t) ∷ [])) ≡ true
      lower = names-lower R t l (entry-call code t e (R.few t l e))

      go : Dec (k < third_in code t) → argument_in code t k < t
      go (yes x) = below_each t code t 0 (third_in code t) _ lower k (omega arith) (omega arith)
      go (no x) = rw (let z : k ≡ third_in code t = omega arith in z) (below_last t code t 0 (third_in code t) _ lower)

  -- its function is there
  pub called-function : first_in code t < function_count code
  unfolding functions_of_term
  called-function =
      (below-head (function_count code) (first_in code t) []
      (subst (λ x. below (function_count code) (functions_of_term x) ≡ true) (entry-call code t e (R.few t l e)) (R.called t l))).0

----------------------------------------------------------------
-- Functions

module _ (code : List ℕ) (ys : List TypeEntry) (g : ℕ) where
  abbrev pub called-tree : Fun
  called-tree = function_of ys (terms_in code) (function_in code g)

  pub called-there : g < function_count code → nth (program_in code ys) g ≡ some called-tree
  unfolding program_of functions_in
  called-there l =
      nth-map (function_of ys (terms_in code)) (functions_in code) g
      (nth-listed (function_in code) 0 (function_count code) g l ∙ ap (λ g. some (function_in code g)) (let z : 0 + g ≡ g = omega arith in z))

  pub called-body : called-tree.body ≡ tree_in code ys (body_in code g)
  unfolding function_of function_in
  called-body = refl

  as_many : length (program_in code ys) ≡ function_count code
  unfolding program_of functions_in
  as_many = length-map (functions_in code) (function_of ys (terms_in code)) ∙ length-listed (function_in code) 0 (function_count code)

  -- there is no other
  pub called-only : {h : Fun} → nth (program_in code ys) g ≡ some h → (g < function_count code) × (called-tree ≡ h)
  called-only {h} e = go (dec_lt g (function_count code))
    where
      go : Dec (g < function_count code) → (g < function_count code) × (called-tree ≡ h)
      go (yes l) = (l, some_inj (sym (called-there l) ∙ e))
      go (no l) = absurd (none≢some (sym (nth_none (program_in code ys) g (let z : length (program_in code ys) ≡ function_count code = as_many in omega arith))
          ∙ e))
