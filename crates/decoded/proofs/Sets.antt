-- The sets of the variables that terms name, found in one pass over the rows: numbers of rows and the terms that they are, the set of one row,
-- what is put into the row of a case, and a turn of the pass.
use Prim.Native.Nat.{ℕ, zero, suc, ◌+◌, ◌*◌, ◌-◌, ◌≤◌, ◌<◌}
use native.Mathlib.Omega.{arith}
use native.Mathlib.Decide.{ℕ_discrete, dec_lt}
use mathlib.Core.Path.{◌≡◌, refl, sym, ap, ap₂, subst, ◌∙◌}
use mathlib.Core.Logic.{◌⊎◌, ⊎_elim, inl as left, inr as right}
use mathlib.Core.Bool.{Bool, true, ◌||◌}
use mathlib.Core.List.{List, [], ◌∷◌, ◌++◌}
use lib.ListN.{length, get_or, set, length-set}
use lib.Seq.{get_or-set_same, get_or-set_other}
use package.Rattle.rules.specs.Limits.{max_terms, max_variables}
use package.Rattle.calls.specs.Entries.{type_of, TermEntry, n_case, term_tree}
use package.Rattle.calls.specs.Named.{terms_of_term, below}
use package.Rattle.calls.proofs.Entries.{below-head, below_wider}
use package.Rattle.calls.proofs.Trees.{term-unfolds}
use package.Rattle.program.specs.Kinds.{variable_kind, unit_kind, case_kind, call_kind}
use package.Rattle.program.specs.KindNumbers.{term_kind_number}
use package.Rattle.program.specs.declared.kinds.TermKind.{TermKind}
use package.Rattle.program.specs.declared.kinds.TermKind.TheVariants.{Inl, Inr, Pair, Let, LetPair, Roll, Unroll}
use package.Rattle.varsets.specs.declared.Uses.{Uses}
use package.Rattle.varsets.specs.Sets.{has, Holds, nobody, alone, joined, low_half, high_half, of_halves}
use package.Rattle.varsets.proofs.Inside.{halves_whole}
use package.Rattle.decoded.specs.Rows.{row_numbers, row_heads, kind_in, first_in, second_in, third_in, argument_in, arguments_in, entry_in, listed, names_in, named}
use package.Rattle.decoded.specs.Naming.{set_in, has_set, numbers_from, any_of, named_by, RowAsked, ScrutineePut, RowKept, tree_of, RowsNamed}
use package.Rattle.decoded.proofs.Agreeing.{entry-same, listed-entry, listed-lower}
use package.Rattle.decoded.proofs.Trees.{entry-var, entry-unit, entry_inl, entry_inr, entry-pair, entry_let, entry_letp, entry_case}
use package.Rattle.decoded.proofs.Trees.{entry-call, entry-roll, entry_unroll}
use package.Rattle.decoded.proofs.Named.{or_none_lem, or_assoc, named_tree}

----------------------------------------------------------------
-- Numbers in an array

one_more : (n : ℕ) → n + 1 ≡ suc n
one_more n = omega arith

-- the last of the numbers
any-suc : (S : ℕ → ℕ → Bool) (code : List ℕ) (i a n : ℕ)
    → any_of S (numbers_from code a (suc n)) i ≡ (any_of S (numbers_from code a n) i || S (get_or code (a + n) 0) i)
unfolding numbers_from any_of
any-suc S code i a zero = or_none_lem (S (get_or code a 0) i) ∙ ap (λ a. S (get_or code a 0) i) (let z : a ≡ a + 0 = omega arith in z)
any-suc S code i a (suc n) =
    ap (λ b. S (get_or code a 0) i || b) (any-suc S code i (a + 1) n
    ∙ ap (λ k. any_of S (numbers_from code (a + 1) n) i || S (get_or code k 0) i) (let z : a + 1 + n ≡ a + suc n = omega arith in z))
    ∙ sym (or_assoc (S (get_or code a 0) i) (any_of S (numbers_from code (a + 1) n) i) (S (get_or code (a + suc n) 0) i))

pub number-below : (m : ℕ) (code : List ℕ) (a n k : ℕ) → below m (numbers_from code a n) ≡ true → k < n → get_or code (a + k) 0 < m
unfolding numbers_from
number-below m code a zero k e l = absurd (omega arith)
number-below m code a (suc n) zero e l = rw (let z : a + 0 ≡ a = omega arith in z) (below-head m _ _ e).0
number-below m code a (suc n) (suc k) e l =
    rw (let z : a + suc k ≡ a + 1 + k = omega arith in z) (number-below m code (a + 1) n k (below-head m _ _ e).1 (omega arith))

----------------------------------------------------------------
-- The union of sets

module _ (code sets : List ℕ) (a : ℕ) where
  -- the variables of the first `n` terms
  abbrev pub United : Uses → ℕ → Type 0
  United u n = Holds u (any_of (has_set sets) (numbers_from code a n))

  pub united_none : {u : Uses} → Holds u nobody → United u 0
  unfolding numbers_from any_of
  united_none H = H

  pub united-more : {u v w : Uses} (n : ℕ) → United u n → v ≡ set_in sets (get_or code (a + n) 0) → Holds w (joined (has u) (has v)) → United w (n + 1)
  united-more n U e H = record {
    each = λ i l. H.each i l ∙ ap₂ ◌||◌ (U.each i l) (ap (λ v. has v i) e)
        ∙ sym (any-suc (has_set sets) code i a n) ∙ ap (λ n. any_of (has_set sets) (numbers_from code a n) i) (sym (one_more n));
  }

----------------------------------------------------------------
-- The terms of a row

-- `n` numbers from `from` on are the terms of row `t`, which is no variable
pub record Parts (code : List ℕ) (t from n : ℕ) : Type 0 where
  pub terms : numbers_from code from n ≡ terms_of_term (entry_in code t)
  pub whole : (S : ℕ → ℕ → Bool) (i : ℕ) → any_of S (terms_of_term (entry_in code t)) i ≡ named_by S (entry_in code t) i

module _ {code : List ℕ} {t from n : ℕ} (P : Parts code t from n) where
  pub parts_below : RowAsked code t → t < max_terms → below max_terms (numbers_from code from n) ≡ true
  parts_below R l = rw P.terms (below_wider t max_terms (terms_of_term (entry_in code t)) (omega arith) R.lower)

  pub parts_named : (sets : List ℕ) {u : Uses} → United code sets from u n → Holds u (named_by (has_set sets) (entry_in code t))
  parts_named sets U = record { each = λ i l. U.each i l ∙ ap (λ is. any_of (has_set sets) is i) P.terms ∙ P.whole (has_set sets) i }

module _ (code : List ℕ) (t : ℕ) where
  parts_by : {x : TermEntry} (from n : ℕ) → entry_in code t ≡ x → numbers_from code from n ≡ terms_of_term x
      → ((S : ℕ → ℕ → Bool) (i : ℕ) → any_of S (terms_of_term x) i ≡ named_by S x i) → Parts code t from n
  parts_by {x} from n e terms whole = record {
    terms = terms ∙ ap terms_of_term (sym e);
    whole = subst (λ x. (S : ℕ → ℕ → Bool) (i : ℕ) → any_of S (terms_of_term x) i ≡ named_by S x i) (sym e) whole;
  }

  second-number : {from : ℕ} → from ≡ row_numbers * t + 2 → numbers_from code from 1 ≡ second_in code t ∷ []
  unfolding numbers_from second_in
  second-number e = ap (λ j. get_or code j 0 ∷ []) e

  two-numbers : {from : ℕ} → from ≡ row_numbers * t + 1 → numbers_from code from 2 ≡ first_in code t ∷ second_in code t ∷ []
  unfolding numbers_from first_in second_in
  two-numbers {from} e = ap₂ (λ j k. get_or code j 0 ∷ get_or code k 0 ∷ []) e (let z : from + 1 ≡ row_numbers * t + 2 = omega arith in z)

  three-numbers : {from : ℕ} → from ≡ row_numbers * t + 1 → numbers_from code from 3 ≡ first_in code t ∷ second_in code t ∷ third_in code t ∷ []
  unfolding numbers_from first_in second_in third_in
  three-numbers {from} e = let z : from + 1 ≡ row_numbers * t + 2 = omega arith in let w : from + 1 + 1 ≡ row_numbers * t + 3 = omega arith in rw (w, z, e) refl

  argument-numbers : (k n : ℕ) {from : ℕ} → from ≡ row_numbers * t + row_heads + k
      → numbers_from code from (suc n) ≡ arguments_in code t k n ++ (argument_in code t (k + n) ∷ [])
  unfolding numbers_from arguments_in argument_in
  argument-numbers k zero {from} e = ap (λ j. get_or code j 0 ∷ []) (let z : from ≡ row_numbers * t + row_heads + (k + 0) = omega arith in z)
  argument-numbers k (suc n) {from} e =
      ap₂ ◌∷◌ (ap (λ j. get_or code j 0) e) (argument-numbers (k + 1) n (let z : from + 1 ≡ row_numbers * t + row_heads + (k + 1) = omega arith in z)
      ∙ ap (λ m. arguments_in code t (k + 1) n ++ (argument_in code t m ∷ [])) (let z : k + 1 + n ≡ k + suc n = omega arith in z))

  -- of a pair or a let
  pub parts-two : {from : ℕ} {x : TermKind} → from ≡ row_numbers * t + 1 → term_kind_number x ≡ kind_in code t
      → (x ≡ Pair) ⊎ ((x ≡ Let) ⊎ (x ≡ LetPair)) → Parts code t from 2
  unfolding named_by terms_of_term
  parts-two {from} f q (left e) = parts_by from 2 (entry-pair code t (sym q ∙ ap term_kind_number e)) (two-numbers f) (λ S i. refl)
  parts-two {from} f q (right (left e)) = parts_by from 2 (entry_let code t (sym q ∙ ap term_kind_number e)) (two-numbers f) (λ S i. refl)
  parts-two {from} f q (right (right e)) = parts_by from 2 (entry_letp code t (sym q ∙ ap term_kind_number e)) (two-numbers f) (λ S i. refl)

  pub parts_case : {from : ℕ} → from ≡ row_numbers * t + 1 → kind_in code t ≡ case_kind → Parts code t from 3
  unfolding named_by terms_of_term
  parts_case {from} f e = parts_by from 3 (entry_case code t e) (three-numbers f) (λ S i. refl)

  pub parts-call : {from n : ℕ} → from ≡ row_numbers * t + row_heads → n ≡ third_in code t + 1 → RowAsked code t → kind_in code t ≡ call_kind
      → Parts code t from n
  unfolding named_by terms_of_term
  parts-call {from} {n} f m R e = rw (m ∙ one_more (third_in code t))
      (parts_by from (suc (third_in code t)) (entry-call code t e (R.few e)) (argument-numbers 0 (third_in code t) (omega arith)
      ∙ ap (λ k. arguments_in code t 0 (third_in code t) ++ (argument_in code t k ∷ [])) (let z : 0 + third_in code t ≡ third_in code t = omega arith in z))
      (λ S i. refl))

  -- of a kind with a type and a term
  pub parts-one : {from : ℕ} {x : TermKind} → from ≡ row_numbers * t + 2 → term_kind_number x ≡ kind_in code t
      → (x ≡ Inl) ⊎ ((x ≡ Inr) ⊎ ((x ≡ Roll) ⊎ (x ≡ Unroll))) → Parts code t from 1
  unfolding named_by terms_of_term
  parts-one {from} f q (left e) = parts_by from 1 (entry_inl code t (sym q ∙ ap term_kind_number e)) (second-number f) (λ S i. refl)
  parts-one {from} f q (right (left e)) = parts_by from 1 (entry_inr code t (sym q ∙ ap term_kind_number e)) (second-number f) (λ S i. refl)
  parts-one {from} f q (right (right (left e))) = parts_by from 1 (entry-roll code t (sym q ∙ ap term_kind_number e)) (second-number f) (λ S i. refl)
  parts-one {from} f q (right (right (right e))) = parts_by from 1 (entry_unroll code t (sym q ∙ ap term_kind_number e)) (second-number f) (λ S i. refl)

  ----------------------------------------------------------------
  -- Rows without terms

  module _ (sets : List ℕ) {u : Uses} where
    pub named_variable : {v : ℕ} → kind_in code t ≡ variable_kind → v ≡ first_in code t → Holds u (alone v) → Holds u (named_by (has_set sets) (entry_in code t))
    unfolding named_by
    named_variable e q H = record { each = λ i l. rw (entry-var code t e, sym q) (H.each i l) }

    pub named_unit : kind_in code t ≡ unit_kind → Holds u nobody → Holds u (named_by (has_set sets) (entry_in code t))
    unfolding named_by
    named_unit e H = record { each = λ i l. rw (entry-unit code t e) (H.each i l) }

----------------------------------------------------------------
-- Rows that are kept

module _ {code code' : List ℕ} {t : ℕ} (K : RowKept code code' t) where
  pub kind-kept : kind_in code' t ≡ kind_in code t
  unfolding kind_in
  kind-kept = rw (let z : row_numbers * t + 0 ≡ row_numbers * t = omega arith in z) at (K.head 0 (omega arith))

  pub first-kept : first_in code' t ≡ first_in code t
  unfolding first_in
  first-kept = K.head 1 (omega arith)

  second-kept : second_in code' t ≡ second_in code t
  unfolding second_in
  second-kept = K.head 2 (omega arith)

  pub third-kept : third_in code' t ≡ third_in code t
  unfolding third_in
  third-kept = K.head 3 (omega arith)

  -- what a case says is in its first four numbers
  pub entry_kept : entry_in code' t ≡ entry_in code t
  entry_kept = go (ℕ_discrete (kind_in code t) case_kind)
    where
      go : Dec (kind_in code t ≡ case_kind) → entry_in code' t ≡ entry_in code t
      go (yes e) =
          entry_case code' t (kind-kept ∙ e)
          ∙ ap₂ (λ a (f : ℕ → TermEntry). f a) first-kept (ap₂ (λ b c a. n_case a b c) second-kept third-kept) ∙ sym (entry_case code t e)
      go (no d) = entry-same (record { number = K.rest d })

  pub asked-kept : RowAsked code t → RowAsked code' t
  asked-kept R = record {
    known = rw kind-kept R.known;
    variables = λ e. rw first-kept (R.variables (sym kind-kept ∙ e));
    few = λ e. rw third-kept (R.few (sym kind-kept ∙ e));
    lower = rw entry_kept R.lower;
  }

pub kept_same : (code : List ℕ) (t : ℕ) → RowKept code code t
kept_same code t = record { head = λ j l. refl; rest = λ d j l. refl }

kept-twice : {code code₁ code₂ : List ℕ} {t : ℕ} → RowKept code code₁ t → RowKept code₁ code₂ t → RowKept code code₂ t
kept-twice K L = record {
  head = λ j l. L.head j l ∙ K.head j l;
  rest = λ d j l. L.rest (λ e. d (sym (kind-kept K) ∙ e)) j l ∙ K.rest d j l;
}

----------------------------------------------------------------
-- The set of a scrutinee

-- where it stands in the row
pub scrutinee-number : (code : List ℕ) (t : ℕ) {j : ℕ} → j ≡ row_numbers * t + 1 → get_or code j 0 ≡ first_in code t
unfolding first_in
scrutinee-number code t e = ap (λ j. get_or code j 0) e

-- a scrutinee is a lower term
case_lower : {code : List ℕ} {t : ℕ} → RowAsked code t → kind_in code t ≡ case_kind → first_in code t < t
unfolding terms_of_term
case_lower {code} {t} R e = (below-head t (first_in code t) _ (subst (λ x. below t (terms_of_term x) ≡ true) (entry_case code t e) R.lower)).0

-- its parts are terms that are there
pub part-there : {code : List ℕ} {t j : ℕ} → RowAsked code t → kind_in code t ≡ case_kind → t < max_terms → row_numbers * t + 1 ≤ j → j < row_numbers * t + row_heads
    → get_or code j 0 < max_terms
part-there {code} {t} {j} R e l from below =
    subst (λ j. get_or code j 0 < max_terms) (let z : row_numbers * t + 1 + (j - (row_numbers * t + 1)) ≡ j = omega arith in z)
    (number-below max_terms code (row_numbers * t + 1) 3 (j - (row_numbers * t + 1)) (parts_below (parts_case code t refl e) R l) (omega arith))

module _ {code sets : List ℕ} {t : ℕ} where
  pub scrutinee-put : {u : Uses} {at low high : ℕ} → at ≡ row_numbers * t + row_heads → at + 2 ≤ length code → kind_in code t ≡ case_kind
      → u ≡ set_in sets (first_in code t) → low ≡ low_half u → high ≡ high_half u → ScrutineePut code (set (set code at low) (at + 1) high) sets t
  unfolding names_in
  scrutinee-put {u} {at} {low} {high} here room e q lo hi = record {
    lengths = length-set (set code at low) (at + 1) high ∙ length-set code at low;
    names = λ e. ap₂ of_halves low-there high_there ∙ ap₂ of_halves lo hi ∙ halves_whole u ∙ q;
    others = λ j h. get_or-set_other (set code at low) (at + 1) j high 0 (λ x. ⊎_elim (λ l. omega arith) (λ l. omega arith) h)
        ∙ get_or-set_other code at j low 0 (λ x. ⊎_elim (λ l. omega arith) (λ l. omega arith) h);
    unless = λ d. absurd (d e);
  }
    where
      low-there : get_or (set (set code at low) (at + 1) high) (row_numbers * t + row_heads + 0) 0 ≡ low
      low-there =
          rw (let z : row_numbers * t + row_heads + 0 ≡ at = omega arith in z)
          (get_or-set_other (set code at low) (at + 1) at high 0 (λ x. omega arith) ∙ get_or-set_same code at low 0 (omega arith))

      high_there : get_or (set (set code at low) (at + 1) high) (row_numbers * t + row_heads + 1) 0 ≡ high
      high_there =
          rw (let z : row_numbers * t + row_heads + 1 ≡ at + 1 = omega arith in z)
          (get_or-set_same (set code at low) (at + 1) high 0 (simp length-set (omega arith)))

module _ {code code' sets : List ℕ} {t : ℕ} (P : ScrutineePut code code' sets t) where
  -- no other row is changed
  beside : (r : ℕ) → ¬ (r ≡ t) → (j : ℕ) → j < row_numbers → get_or code' (row_numbers * r + j) 0 ≡ get_or code (row_numbers * r + j) 0
  beside r d j l = P.others (row_numbers * r + j) (go (dec_lt r t))
    where
      go : Dec (r < t) → (row_numbers * r + j < row_numbers * t + row_heads) ⊎ (row_numbers * t + row_heads + 2 ≤ row_numbers * r + j)
      go (yes x) = left (omega arith)
      go (no x) = let z : t < r = omega arith in right (omega arith)

  kept_put : (r : ℕ) → RowKept code code' r
  kept_put r = go (ℕ_discrete r t)
    where
      go : Dec (r ≡ t) → RowKept code code' r
      go (yes e) = record {
        head = λ j l. P.others (row_numbers * r + j) (left (omega arith));
        rest = λ d j l. ap (λ code. get_or code (row_numbers * r + j) 0) (P.unless (λ q. d (ap (kind_in code) e ∙ q)));
      }
      go (no d) = record { head = λ j l. beside r d j (omega arith); rest = λ x j l. beside r d j l }

  -- nor the set of another row
  names-beside : (r : ℕ) → ¬ (r ≡ t) → names_in code' r ≡ names_in code r
  unfolding names_in
  names-beside r d = ap₂ of_halves (number 0 (omega arith)) (number 1 (omega arith))
    where
      number : (k : ℕ) → k < 2 → get_or code' (row_numbers * r + row_heads + k) 0 ≡ get_or code (row_numbers * r + row_heads + k) 0
      number k l = let z : row_numbers * r + row_heads + k ≡ row_numbers * r + (row_heads + k) = omega arith in rw z (beside r d (row_heads + k) (omega arith))

----------------------------------------------------------------
-- A turn of the pass

-- of `n` rows, the first `m` terms have their sets in the table
pub record SetsOf (code : List ℕ) (n : ℕ) (sets : List ℕ) (m : ℕ) : Type 0 where
  pub lengths : length sets ≡ max_terms
  pub each : (t : ℕ) → t < m → Holds (set_in sets t) (λ i. named i (tree_of code n t))

pub no_sets : (code : List ℕ) (n : ℕ) (sets : List ℕ) → length sets ≡ max_terms → SetsOf code n sets 0
no_sets code n sets e = record { lengths = e; each = λ t l. absurd (omega arith) }

pub none_named : (code : List ℕ) (n : ℕ) → RowsNamed code code n 0
none_named code n = record { lengths = refl; kept = λ t l. kept_same code t; names = λ t l. absurd (omega arith) }

module _ {code₀ code : List ℕ} {n : ℕ} (asked : (t : ℕ) → t < n → RowAsked code₀ t) {sets : List ℕ} {t : ℕ} (l : t < n) (N : RowsNamed code₀ code n t)
    (S : SetsOf code₀ n sets t) where
  -- the row is asked for as it is now
  pub asked-now : RowAsked code t
  asked-now = asked-kept (N.kept t l) (asked t l)

  -- by the sets of its parts, a term has its own
  own-set : (i : ℕ) → i < max_variables → named_by (has_set sets) (entry_in code t) i ≡ named i (tree_of code₀ n t)
  own-set i h =
      ap (λ x. named_by (has_set sets) x i) (entry_kept (N.kept t l))
      ∙ named_tree (has_set sets) i (tree_of code₀ n) t (λ u x. (S.each u x).each i h) (type_of []) t (entry_in code₀ t) (asked t l).lower
      ∙ ap (λ x. named i (term_tree (type_of []) (tree_of code₀ n) t x)) (sym (listed-entry code₀ n t l))
      ∙ ap (λ e. named i e) (sym (term-unfolds [] (listed (entry_in code₀) 0 n) (listed-lower code₀ n (λ t l. (asked t l).lower)) t))

  pub sets_more : {u : Uses} {at : ℕ} → t < max_terms → at ≡ t → Holds u (named_by (has_set sets) (entry_in code t))
      → SetsOf code₀ n (set sets at u.bits) (t + 1)
  unfolding set_in
  sets_more {u} {at} few here H = record { lengths = length-set sets at u.bits ∙ S.lengths; each = λ r x. go r (dec_lt r t) x }
    where
      go : (r : ℕ) → Dec (r < t) → r < t + 1 → Holds (set_in (set sets at u.bits) r) (λ i. named i (tree_of code₀ n r))
      go r (yes x) h = record {
        each = λ i k. ap (λ b. has (record { bits = b }) i) (get_or-set_other sets at r u.bits 0 (λ e. omega arith)) ∙ (S.each r x).each i k;
      }
      go r (no x) h = let e : r ≡ t = omega arith in record {
        each = λ i k. ap (λ b. has (record { bits = b }) i) (ap (λ r. get_or (set sets at u.bits) r 0) (let z : r ≡ at = omega arith in z)
            ∙ get_or-set_same sets at u.bits 0 (omega (arith, S.lengths))) ∙ H.each i k ∙ own-set i k ∙ ap (λ r. named i (tree_of code₀ n r)) (sym e);
      }

  pub named_more : {code' sets' : List ℕ} → SetsOf code₀ n sets' (t + 1) → ScrutineePut code code' sets' t → RowsNamed code₀ code' n (t + 1)
  named_more {code'} {sets'} S' P = record {
    lengths = P.lengths ∙ N.lengths;
    kept = λ r x. kept-twice (N.kept r x) (kept_put P r);
    names = λ r x. go r (dec_lt r t) x;
  }
    where
      go : (r : ℕ) → Dec (r < t) → r < t + 1 → kind_in code₀ r ≡ case_kind → Holds (names_in code' r) (λ i. named i (tree_of code₀ n (first_in code₀ r)))
      go r (yes x) h e = rw (names-beside P r (λ q. omega arith)) (N.names r x e)
      go r (no x) h e = let q : r ≡ t = omega arith in
          rw (q, P.names (kind-kept (N.kept t l) ∙ rw q at e), first-kept (N.kept t l)) (S'.each (first_in code₀ t) (scrutinee-lower (rw q at e)))
        where
          scrutinee-lower : kind_in code₀ t ≡ case_kind → first_in code₀ t < t + 1
          scrutinee-lower e = let z = case_lower (asked t l) e in omega arith
