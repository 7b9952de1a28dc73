-- Runs of references: one more, parts of a run; and the runs of an entry's field are what the entry names.
use Prim.Native.Nat.{ℕ, zero, suc, ◌+◌, ◌*◌, ◌-◌, ◌≤◌, ◌<◌}
use native.Mathlib.Omega.{arith}
use mathlib.Core.Path.{◌≡◌, refl, sym, ap, ap₂, ◌∙◌}
use mathlib.Core.Bool.{true, cond}
use mathlib.Core.List.{List, [], ◌∷◌, ◌++◌}
use lib.ListN.{length, get_or}
use lib.Dec.{eqb}
use borrow.Author.Tests.{ne_eqb}
use package.Rattle.octets.specs.Numbers.{get16}
use package.Rattle.rules.specs.Term.{Term, count}
use package.Rattle.calls.specs.Fields.{call_kind, kind_at, length_at, parameters_at, term_lengths}
use package.Rattle.calls.specs.Entries.{type_at, term_at, term_trees, function_at, references, call_ancillae}
use package.Rattle.calls.specs.Named.{types_of_type, types_of_term, terms_of_term, functions_of_term, types_of_function, below}
use package.Rattle.calls.proofs.Entries.{below-head}
use package.Rattle.program.specs.Parts.{first, second, third, listed, result_of, TypeField, TermField, FunctionField}
use package.Rattle.program.specs.Lists.{type_types, term_types, term_functions, term_terms, types_in_type, types_in_term, functions_in_term, terms_from, terms_in_term}
use package.Rattle.program.proofs.Shapes.{type-unit, type-prod, type-sum, type-mu, type-var, term-var, term-unit, term_inl, term_inr, term-pair, term_let, term_letp, term_case, term-call, term-roll, term_unroll, function-ancillae, function-dynamic}
use package.Rattle.program.proofs.Rooms.{type-kind, type-kind-room, prod-room, sum_room, mu-room, term-kind, term-kind-room, two-room, case_room, call-room}

----------------------------------------------------------------
-- Runs

pub length-references : (xs : List ℕ) (i n : ℕ) → length (references xs i n) ≡ n
unfolding references
length-references xs i zero = refl
length-references xs i (suc n) = ap suc (length-references xs (i + 2) n)

-- the trees of a run of terms
pub count-trees : (go : ℕ → Term) (xs : List ℕ) (i n : ℕ) → count (term_trees go (references xs i n)) ≡ n
unfolding references term_trees count
count-trees go xs i zero = refl
count-trees go xs i (suc n) = ap suc (count-trees go xs (i + 2) n)

-- references, and one more behind them
pub below_last : (t : ℕ) (xs : List ℕ) (i n last : ℕ) → below t (references xs i n ++ (last ∷ [])) ≡ true → last < t
unfolding references
below_last t xs i zero last e = (below-head t last [] e).0
below_last t xs i (suc n) last e = below_last t xs (i + 2) n last (below-head t _ _ e).1

pub below_each : (t : ℕ) (xs : List ℕ) (i n last : ℕ) → below t (references xs i n ++ (last ∷ [])) ≡ true → (j : ℕ) → j < n → get16 xs (i + 2 * j) < t
unfolding references
below_each t xs i zero last e j h = absurd (omega arith)
below_each t xs i (suc n) last e zero h = rw (let z : i + 2 * 0 ≡ i = omega arith in z) (below-head t _ _ e).0
below_each t xs i (suc n) last e (suc j) h =
    rw (let z : i + 2 * suc j ≡ i + 2 + 2 * j = omega arith in z) (below_each t xs (i + 2) n last (below-head t _ _ e).1 j (omega arith))

-- the first `i` of a run of `n`, and the rest
pub references_split : (xs : List ℕ) (from i n : ℕ) → references xs from (i + n) ≡ references xs from i ++ references xs (from + 2 * i) n
unfolding references
references_split xs from zero n = ap₂ (references xs) (let e : from ≡ from + 2 * 0 = omega arith in e) (let e : 0 + n ≡ n = omega arith in e)
references_split xs from (suc i) n =
    ap (references xs from) (let e : suc i + n ≡ suc (i + n) = omega arith in e)
    ∙ ap (λ l. get16 xs from ∷ l) (references_split xs (from + 2) i n)
    ∙ ap (λ k. get16 xs from ∷ references xs (from + 2) i ++ references xs k n) (let e : from + 2 + 2 * i ≡ from + 2 * suc i = omega arith in e)

-- one more
pub references_snoc : (xs : List ℕ) (from i : ℕ) → references xs from (i + 1) ≡ references xs from i ++ (get16 xs (from + 2 * i) ∷ [])
unfolding references
references_snoc xs from i = references_split xs from i 1

-- reference `i` of a run, with those before and after it
pub references-at : (xs : List ℕ) (from i n : ℕ) → i < n
    → references xs from n ≡ references xs from i ++ (get16 xs (from + 2 * i) ∷ references xs (from + 2 * i + 2) (n - (i + 1)))
unfolding references
references-at xs from i n h =
    ap (references xs from) (let e : n ≡ i + suc (n - (i + 1)) = omega arith in e) ∙ references_split xs from i (suc (n - (i + 1)))

-- one reference after the first, two, and three; the run starts at `i`
after_one : (xs : List ℕ) (at i : ℕ) → i ≡ at + 6 → second xs at ∷ [] ≡ references xs i 1
unfolding references
after_one xs at i e = ap (λ i. get16 xs i ∷ []) (sym e)

both-two : (xs : List ℕ) (at i : ℕ) → i ≡ at + 4 → first xs at ∷ second xs at ∷ [] ≡ references xs i 2
unfolding references
both-two xs at i e = ap₂ (λ i j. get16 xs i ∷ get16 xs j ∷ []) (sym e) (let z : at + 6 ≡ i + 2 = omega arith in z)

all_three : (xs : List ℕ) (at i : ℕ) → i ≡ at + 4 → first xs at ∷ second xs at ∷ third xs at ∷ [] ≡ references xs i 3
unfolding references
all_three xs at i e =
    ap (λ i. get16 xs i ∷ second xs at ∷ third xs at ∷ []) (sym e)
    ∙ ap₂ (λ j k. get16 xs i ∷ get16 xs j ∷ get16 xs k ∷ []) (let z : at + 6 ≡ i + 2 = omega arith in z) (let z : at + 8 ≡ i + 2 + 2 = omega arith in z)

-- a call's ancilla terms and its dynamic term
whole_list : (xs : List ℕ) (at i n : ℕ) → i ≡ at + 6 → references xs (at + 6) n ++ (listed xs at n ∷ []) ≡ references xs i (n + 1)
whole_list xs at i n e = sym (references_snoc xs (at + 6) n) ∙ ap (λ i. references xs i (n + 1)) (sym e)

----------------------------------------------------------------
-- By kinds

five : (P : ℕ → Type 0) → P 0 → P 1 → P 2 → P 3 → P 4 → (k : ℕ) → k < 5 → P k
five P a b c d e zero l = a
five P a b c d e (suc zero) l = b
five P a b c d e (suc (suc zero)) l = c
five P a b c d e (suc (suc (suc zero))) l = d
five P a b c d e (suc (suc (suc (suc zero)))) l = e
five P a b c d e (suc (suc (suc (suc (suc k))))) l = absurd (omega arith)

eleven : (P : ℕ → Type 0) → P 0 → P 1 → P 2 → P 3 → P 4 → P 5 → P 6 → P 7 → P 8 → P 9 → P 10 → (k : ℕ) → k < 11 → P k
eleven P a b c d e f g h i j m zero l = a
eleven P a b c d e f g h i j m (suc zero) l = b
eleven P a b c d e f g h i j m (suc (suc zero)) l = c
eleven P a b c d e f g h i j m (suc (suc (suc zero))) l = d
eleven P a b c d e f g h i j m (suc (suc (suc (suc zero)))) l = e
eleven P a b c d e f g h i j m (suc (suc (suc (suc (suc zero))))) l = f
eleven P a b c d e f g h i j m (suc (suc (suc (suc (suc (suc zero)))))) l = g
eleven P a b c d e f g h i j m (suc (suc (suc (suc (suc (suc (suc zero))))))) l = h
eleven P a b c d e f g h i j m (suc (suc (suc (suc (suc (suc (suc (suc zero)))))))) l = i
eleven P a b c d e f g h i j m (suc (suc (suc (suc (suc (suc (suc (suc (suc zero))))))))) l = j
eleven P a b c d e f g h i j m (suc (suc (suc (suc (suc (suc (suc (suc (suc (suc zero)))))))))) l = m
eleven P a b c d e f g h i j m (suc (suc (suc (suc (suc (suc (suc (suc (suc (suc (suc k))))))))))) l = absurd (omega arith)

----------------------------------------------------------------
-- Types

module _ {xs : List ℕ} {at : ℕ} (F : TypeField xs at) where
  pub types-of-type : types_of_type (type_at xs at) ≡ references xs (at + 4) (types_in_type xs at)
  unfolding types_of_type type_types references
  types-of-type =
      five (λ k. kind_at xs at ≡ k → types_of_type (type_at xs at) ≡ references xs (at + 4) (get_or type_types k 0))
      (λ e. ap types_of_type (type-unit xs at e))
      (λ e. ap types_of_type (type-prod xs at e) ∙ both-two xs at _ refl)
      (λ e. ap types_of_type (type-sum xs at e) ∙ both-two xs at _ refl)
      (λ e. ap types_of_type (type-mu xs at e))
      (λ e. ap types_of_type (type-var xs at (omega arith)))
      (kind_at xs at) (type-kind F) refl

  pub types_in_type_lem : at + 4 + 2 * types_in_type xs at ≤ length xs
  unfolding type_types
  types_in_type_lem =
      five (λ k. kind_at xs at ≡ k → at + 4 + 2 * get_or type_types k 0 ≤ length xs)
      (λ e. omega (arith, type-kind-room F))
      (λ e. omega (arith, prod-room F e))
      (λ e. omega (arith, sum_room F e))
      (λ e. omega (arith, mu-room F e))
      (λ e. omega (arith, type-kind-room F))
      (kind_at xs at) (type-kind F) refl

----------------------------------------------------------------
-- Terms

module _ {xs : List ℕ} {at : ℕ} (F : TermField xs at) where
  pub types-of-term : types_of_term (term_at xs at) ≡ references xs (at + 4) (types_in_term xs at)
  unfolding types_of_term term_types references
  types-of-term =
      eleven (λ k. kind_at xs at ≡ k → types_of_term (term_at xs at) ≡ references xs (at + 4) (get_or term_types k 0))
      (λ e. ap types_of_term (term-var xs at e))
      (λ e. ap types_of_term (term-unit xs at e))
      (λ e. ap types_of_term (term_inl xs at e))
      (λ e. ap types_of_term (term_inr xs at e))
      (λ e. ap types_of_term (term-pair xs at e))
      (λ e. ap types_of_term (term_let xs at e))
      (λ e. ap types_of_term (term_letp xs at e))
      (λ e. ap types_of_term (term_case xs at e))
      (λ e. ap types_of_term (term-call xs at e))
      (λ e. ap types_of_term (term-roll xs at e))
      (λ e. ap types_of_term (term_unroll xs at (omega arith)))
      (kind_at xs at) (term-kind F) refl

  pub functions-of-term : functions_of_term (term_at xs at) ≡ references xs (at + 4) (functions_in_term xs at)
  unfolding functions_of_term term_functions references
  functions-of-term =
      eleven (λ k. kind_at xs at ≡ k → functions_of_term (term_at xs at) ≡ references xs (at + 4) (get_or term_functions k 0))
      (λ e. ap functions_of_term (term-var xs at e))
      (λ e. ap functions_of_term (term-unit xs at e))
      (λ e. ap functions_of_term (term_inl xs at e))
      (λ e. ap functions_of_term (term_inr xs at e))
      (λ e. ap functions_of_term (term-pair xs at e))
      (λ e. ap functions_of_term (term_let xs at e))
      (λ e. ap functions_of_term (term_letp xs at e))
      (λ e. ap functions_of_term (term_case xs at e))
      (λ e. ap functions_of_term (term-call xs at e))
      (λ e. ap functions_of_term (term-roll xs at e))
      (λ e. ap functions_of_term (term_unroll xs at (omega arith)))
      (kind_at xs at) (term-kind F) refl

  abbrev Terms : ℕ → Type 0
  Terms k = terms_of_term (term_at xs at)
      ≡ references xs (at + 4 + 2 * (get_or term_types k 0 + get_or term_functions k 0)) (cond (eqb k call_kind) (call_ancillae (length_at xs at)) 0 + get_or term_terms k 0)

  pub terms-of-term : terms_of_term (term_at xs at) ≡ references xs (terms_from xs at) (terms_in_term xs at)
  unfolding terms_of_term terms_from terms_in_term term_types term_functions term_terms references
  terms-of-term =
      eleven (λ k. kind_at xs at ≡ k → Terms k)
      (λ e. ap terms_of_term (term-var xs at e))
      (λ e. ap terms_of_term (term-unit xs at e))
      (λ e. ap terms_of_term (term_inl xs at e) ∙ after_one xs at _ (omega arith))
      (λ e. ap terms_of_term (term_inr xs at e) ∙ after_one xs at _ (omega arith))
      (λ e. ap terms_of_term (term-pair xs at e) ∙ both-two xs at _ (omega arith))
      (λ e. ap terms_of_term (term_let xs at e) ∙ both-two xs at _ (omega arith))
      (λ e. ap terms_of_term (term_letp xs at e) ∙ both-two xs at _ (omega arith))
      (λ e. ap terms_of_term (term_case xs at e) ∙ all_three xs at _ (omega arith))
      (λ e. ap terms_of_term (term-call xs at e) ∙ whole_list xs at _ (call_ancillae (length_at xs at)) (omega arith))
      (λ e. ap terms_of_term (term-roll xs at e) ∙ after_one xs at _ (omega arith))
      (λ e. ap terms_of_term (term_unroll xs at (omega arith)) ∙ after_one xs at _ (omega arith))
      (kind_at xs at) (term-kind F) refl

  abbrev Room : ℕ → Type 0
  Room k = at + 4 + 2 * (get_or term_types k 0 + get_or term_functions k 0) + 2 * (cond (eqb k call_kind) (call_ancillae (length_at xs at)) 0 + get_or term_terms k 0) ≤ length xs

  pub terms_in-term : terms_from xs at + 2 * terms_in_term xs at ≤ length xs
  unfolding terms_from terms_in_term term_types term_functions term_terms term_lengths
  terms_in-term =
      eleven (λ k. kind_at xs at ≡ k → Room k)
      (λ e. omega (arith, term-kind-room F))
      (λ e. omega (arith, term-kind-room F))
      (λ e. omega (arith, two-room F e refl))
      (λ e. omega (arith, two-room F e refl))
      (λ e. omega (arith, two-room F e refl))
      (λ e. omega (arith, two-room F e refl))
      (λ e. omega (arith, two-room F e refl))
      (λ e. omega (arith, case_room F e))
      (λ e. omega (arith, call-room F e))
      (λ e. omega (arith, two-room F e refl))
      (λ e. omega (arith, two-room F e refl))
      (kind_at xs at) (term-kind F) refl

  -- a type or a function before the terms
  pub types_in_term_lem : at + 4 + 2 * types_in_term xs at ≤ length xs
  unfolding terms_from
  types_in_term_lem = omega (arith, terms_in-term)

  pub functions_in-term : at + 4 + 2 * functions_in_term xs at ≤ length xs
  unfolding terms_from
  functions_in-term = omega (arith, terms_in-term)

-- how many terms: of a call, and of any other term
pub terms_in-call : (xs : List ℕ) (at : ℕ) → kind_at xs at ≡ call_kind → call_ancillae (length_at xs at) + 1 ≡ terms_in_term xs at
unfolding terms_in_term term_terms
terms_in-call xs at e = ap (λ k. cond (eqb k call_kind) (call_ancillae (length_at xs at)) 0 + get_or term_terms k 0) (sym e)

pub terms_by_kind : (xs : List ℕ) (at : ℕ) → (kind_at xs at ≡ call_kind → ⊥) → get_or term_terms (kind_at xs at) 0 ≡ terms_in_term xs at
unfolding terms_in_term
terms_by_kind xs at d =
    (let z : get_or term_terms (kind_at xs at) 0 ≡ 0 + get_or term_terms (kind_at xs at) 0 = omega arith in z) ∙ ap (λ b. cond b (call_ancillae (length_at xs at)) 0 + get_or term_terms (kind_at xs at) 0) (sym (ne_eqb (kind_at xs at) call_kind d))

----------------------------------------------------------------
-- Functions

-- one parameter less than there are
pub ancillae-count : (xs : List ℕ) (at : ℕ) → length (function_at xs at).ancillae ≡ parameters_at xs at - 1
ancillae-count xs at = ap length (function-ancillae xs at) ∙ length-references xs (at + 6) (parameters_at xs at - 1)

module _ {xs : List ℕ} {at : ℕ} (F : FunctionField xs at) where
  pub types-of-function : types_of_function (function_at xs at) ≡ references xs (at + 3) 1 ++ references xs (at + 6) (parameters_at xs at)
  unfolding types_of_function references function_at
  types-of-function =
      ap (λ t. result_of xs at ∷ (references xs (at + 6) (parameters_at xs at - 1) ++ (t ∷ []))) (function-dynamic xs at F.some)
      ∙ ap (λ l. result_of xs at ∷ l) (sym (references_snoc xs (at + 6) (parameters_at xs at - 1)))
      ∙ ap (λ n. result_of xs at ∷ references xs (at + 6) n) (let z : parameters_at xs at - 1 + 1 ≡ parameters_at xs at = omega (arith, F.some) in z)

  pub body-of-function : (function_at xs at).body ∷ [] ≡ references xs (at + 6 + 2 * parameters_at xs at) 1
  unfolding references function_at
  body-of-function = refl
