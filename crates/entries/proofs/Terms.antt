-- Testing the term entries: one entry, test by test in the order of the code, and one turn of the loop over them.
use Prim.Native.Nat.{ℕ, suc, ◌+◌, ◌≤◌, ◌<◌}
use native.Mathlib.Omega.{arith}
use mathlib.Core.Path.{◌≡◌, refl, sym, ap, ap₂, subst, ◌∙◌}
use mathlib.Core.Bool.{Bool, true, false, ◌&&◌}
use mathlib.Core.List.{List, ◌++◌, map}
use lib.ListN.{length, get_or, drop, length-map, drop_of_length-le}
use Rattle.std.specs.Prelude.{Ok, Err}
use package.Rattle.rules.proofs.Basics.{and_both}
use package.Rattle.calls.specs.Answer.{Answer, accepted, ◌>>=◌, require}
use package.Rattle.calls.specs.Entries.{type_at, TermEntry, term_at, function_at, references, entries_at}
use package.Rattle.calls.specs.Named.{types_of_term, terms_of_term, functions_of_term, below, fresh, test_terms}
use package.Rattle.program.specs.Places.{places_of}
use package.Rattle.program.specs.Parts.{TermField}
use package.Rattle.program.specs.Lists.{types_in_term, functions_in_term, terms_from, terms_in_term}
use package.Rattle.entries.specs.Marks.{Used, Measured, all_plain_in}
use package.Rattle.entries.specs.Tested.{entries_of, term_answer, EntryTested}
use package.Rattle.entries.specs.declared.testing.EntryError.TheVariants.{BadReference, BadType}
use package.Rattle.entries.proofs.Verdicts.{bad_reference, bad-type, sound, by_figures}
use package.Rattle.entries.proofs.Types.{entries_from}
use package.Rattle.program.proofs.Lists.{types-of-term, functions-of-term, terms-of-term}

----------------------------------------------------------------
-- The tests of runs are the tests of the entry

module _ {xs : List ℕ} {at : ℕ} (F : TermField xs at) where
  pub types-decided : (limit n : ℕ) (r b : Bool) → n ≡ types_in_term xs at → r ≡ below limit (references xs (at + 4) n) → r ≡ b → below limit (types_of_term (term_at xs at)) ≡ b
  types-decided limit n r b e a d = ap (below limit) (types-of-term F) ∙ ap (λ n. below limit (references xs (at + 4) n)) (sym e) ∙ sym a ∙ d

  pub functions-decided : (limit n : ℕ) (r b : Bool) → n ≡ functions_in_term xs at → r ≡ below limit (references xs (at + 4) n) → r ≡ b
      → below limit (functions_of_term (term_at xs at)) ≡ b
  functions-decided limit n r b e a d = ap (below limit) (functions-of-term F) ∙ ap (λ n. below limit (references xs (at + 4) n)) (sym e) ∙ sym a ∙ d

  pub plain-decided : (nodes free : List ℕ) (n : ℕ) (r b : Bool) → n ≡ types_in_term xs at → r ≡ all_plain_in nodes free (references xs (at + 4) n) → r ≡ b
      → all_plain_in nodes free (types_of_term (term_at xs at)) ≡ b
  plain-decided nodes free n r b e a d = ap (all_plain_in nodes free) (types-of-term F) ∙ ap (λ n. all_plain_in nodes free (references xs (at + 4) n)) (sym e) ∙ sym a ∙ d

  terms-run : (from n : ℕ) → from ≡ terms_from xs at → n ≡ terms_in_term xs at → references xs from n ≡ terms_of_term (term_at xs at)
  terms-run from n e e' = ap₂ (references xs) e e' ∙ sym (terms-of-term F)

  pub terms-decided : (limit from n : ℕ) (r b : Bool) → from ≡ terms_from xs at → n ≡ terms_in_term xs at → r ≡ below limit (references xs from n) → r ≡ b
      → below limit (terms_of_term (term_at xs at)) ≡ b
  terms-decided limit from n r b e e' a d = ap (below limit) (sym (terms-run from n e e')) ∙ sym a ∙ d

  pub terms-noted : (from n : ℕ) (us us' : List ℕ) (r b : Bool) → from ≡ terms_from xs at → n ≡ terms_in_term xs at → Used us us' (references xs from n) r → r ≡ b
      → Used us us' (terms_of_term (term_at xs at)) b
  terms-noted from n us us' r b e e' U d = subst (λ b. Used us us' (terms_of_term (term_at xs at)) b) d (subst (λ ts. Used us us' ts r) (terms-run from n e e') U)

----------------------------------------------------------------
-- One entry

module _ (types functions k at : ℕ) (nodes free : List ℕ) (t : TermEntry) where
  abbrev pub answered : List ℕ → Answer (Unit {0})
  answered used = term_answer types functions k at used nodes free t

  module _ (us : List ℕ) where
    pub type-absent : below types (types_of_term t) ≡ false → EntryTested answered (terms_of_term t) us us (Err (BadReference at))
    unfolding term_answer ◌>>=◌ require
    type-absent a = bad_reference answered (terms_of_term t) us us at λ used M. rw a refl

    pub term_not_lower : below types (types_of_term t) ≡ true → below k (terms_of_term t) ≡ false → EntryTested answered (terms_of_term t) us us (Err (BadReference at))
    unfolding term_answer ◌>>=◌ require
    term_not_lower a b = bad_reference answered (terms_of_term t) us us at λ used M. rw (a, b) refl

    pub function-absent : below types (types_of_term t) ≡ true → below k (terms_of_term t) ≡ true → below functions (functions_of_term t) ≡ false
        → EntryTested answered (terms_of_term t) us us (Err (BadReference at))
    unfolding term_answer ◌>>=◌ require
    function-absent a b c = bad_reference answered (terms_of_term t) us us at λ used M. rw (a, b, c) refl

  module _ (us us' : List ℕ) (a : below types (types_of_term t) ≡ true) (b : below k (terms_of_term t) ≡ true) (c : below functions (functions_of_term t) ≡ true) where
    pub used-before : Used us us' (terms_of_term t) false → EntryTested answered (terms_of_term t) us us' (Err (BadReference at))
    unfolding term_answer ◌>>=◌ require
    used-before U = bad_reference answered (terms_of_term t) us us' at λ used M. rw (a, b, c, sym (U.answer used M)) refl

    pub type_not_plain : Used us us' (terms_of_term t) true → all_plain_in nodes free (types_of_term t) ≡ false → EntryTested answered (terms_of_term t) us us' (Err (BadType at))
    unfolding term_answer ◌>>=◌ require
    type_not_plain U d = bad-type answered (terms_of_term t) us us' at λ used M. rw (a, b, c, sym (U.answer used M), d) refl

    pub term-sound : Used us us' (terms_of_term t) true → all_plain_in nodes free (types_of_term t) ≡ true → EntryTested answered (terms_of_term t) us us' (Ok tt)
    unfolding term_answer ◌>>=◌ require
    term-sound U d = sound answered (terms_of_term t) us us' (λ used M. rw (a, b, c, sym (U.answer used M), d) refl) λ used M. U.marks used M refl

----------------------------------------------------------------
-- All entries

abbrev named : ℕ → List ℕ → ℕ → ℕ → TermEntry → Bool
named k used types functions t = below types (types_of_term t) && below k (terms_of_term t) && below functions (functions_of_term t) && fresh used (terms_of_term t)

named_types : (k : ℕ) (used : List ℕ) (types functions : ℕ) (t : TermEntry) → named k used types functions t ≡ true → below types (types_of_term t) ≡ true
named_types k used types functions t e =
    (and_both (below types (types_of_term t)) (below k (terms_of_term t))
    (and_both (below types (types_of_term t) && below k (terms_of_term t)) (below functions (functions_of_term t))
    (and_both (below types (types_of_term t) && below k (terms_of_term t) && below functions (functions_of_term t)) (fresh used (terms_of_term t)) e).0).0).0

module _ (xs types terms functions nodes free : List ℕ) where
  -- what the tests from entry `k` on answer
  abbrev pub terms_from_entry : ℕ → List ℕ → Answer (List ℕ)
  terms_from_entry k used = test_terms (places_of types terms functions) (entries_of xs types terms functions) k used (drop k (map (term_at xs) terms))

  -- the test of entry `k`
  terms-turn : Measured (map (type_at xs) types) nodes free → (k : ℕ) → k < length terms → (used : List ℕ)
      → terms_from_entry k used
      ≡ (term_answer (length types) (length functions) k (get_or terms k 0) used nodes free (term_at xs (get_or terms k 0))
      >>= λ p. terms_from_entry (k + 1) (terms_of_term (term_at xs (get_or terms k 0)) ++ used))
  unfolding test_terms term_answer entries_at
  terms-turn N k l used =
      ap (test_terms (places_of types terms functions) (entries_of xs types terms functions) k used) (entries_from (term_at xs) terms k l)
      ∙ by_figures (map (type_at xs) types) nodes free (types_of_term t) (named k used _ _ t) at (next (suc k)) N (named_types k used _ _ t)
      ∙ ap₂ (λ m n. (require (named k used m n t) 4 at >>= λ p. require (all_plain_in nodes free (types_of_term t)) 5 at) >>= λ p. next (suc k))
      (length-map types (type_at xs)) (length-map functions (function_at xs))
      ∙ ap (λ n. (require (named k used (length types) (length functions) t) 4 at >>= λ p. require (all_plain_in nodes free (types_of_term t)) 5 at) >>= λ p. next n)
      (let z : suc k ≡ k + 1 = omega arith in z)
    where
      at : ℕ
      at = get_or terms k 0

      t : TermEntry
      t = term_at xs at

      next : ℕ → Answer (List ℕ)
      next n = test_terms (places_of types terms functions) (entries_of xs types terms functions) n (terms_of_term t ++ used) (drop (k + 1) (map (term_at xs) terms))

  pub terms-step : Measured (map (type_at xs) types) nodes free → (k at : ℕ) → k < length terms → at ≡ get_or terms k 0 → (used : List ℕ)
      → terms_from_entry k used
      ≡ (term_answer (length types) (length functions) k at used nodes free (term_at xs at) >>= λ p. terms_from_entry (k + 1) (terms_of_term (term_at xs at) ++ used))
  terms-step N k at l e used =
      terms-turn N k l used
      ∙ ap (λ at. term_answer (length types) (length functions) k at used nodes free (term_at xs at) >>= λ p. terms_from_entry (k + 1) (terms_of_term (term_at xs at) ++ used)) (sym e)

  pub terms-over : (k : ℕ) → length terms ≤ k → (used : List ℕ) → terms_from_entry k used ≡ accepted used
  unfolding test_terms
  terms-over k l used =
      ap (test_terms (places_of types terms functions) (entries_of xs types terms functions) k used)
      (drop_of_length-le (map (term_at xs) terms) {i = k} (omega (arith, length-map terms (term_at xs))))
