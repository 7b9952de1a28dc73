-- Testing the function entries: one entry, test by test in the order of the code, and one turn of the loop over them.
use Prim.Native.Nat.{ℕ, suc, ◌+◌, ◌*◌, ◌≤◌, ◌<◌}
use native.Mathlib.Omega.{arith}
use mathlib.Core.Path.{◌≡◌, refl, sym, ap, ap₂, subst, ◌∙◌}
use mathlib.Core.Bool.{Bool, true, false, ◌&&◌}
use mathlib.Core.List.{List, [], ◌∷◌, ◌++◌, map}
use lib.ListN.{length, get_or, drop, length-map, drop_of_length-le}
use Rattle.std.specs.Prelude.{Ok, Err}
use package.Rattle.rules.proofs.Basics.{and_both}
use package.Rattle.calls.specs.Answer.{Answer, accepted, ◌>>=◌, require}
use package.Rattle.calls.specs.Fields.{parameters_at}
use package.Rattle.calls.specs.Entries.{type_at, term_at, FunctionEntry, function_at, references, entries_at}
use package.Rattle.calls.specs.Named.{types_of_function, below, fresh, test_functions}
use package.Rattle.program.specs.Places.{places_of}
use package.Rattle.program.specs.Parts.{FunctionField}
use package.Rattle.entries.specs.Marks.{Used, Measured, all_plain_in}
use package.Rattle.entries.specs.Tested.{entries_of, function_answer, EntryTested}
use package.Rattle.entries.specs.declared.testing.EntryError.TheVariants.{BadReference, BadType}
use package.Rattle.program.proofs.Lists.{types-of-function, body-of-function}
use package.Rattle.entries.proofs.Turns.{below-append}
use package.Rattle.entries.proofs.Types.{entries_from}
use package.Rattle.entries.proofs.Verdicts.{bad_reference, bad-type, sound, by_figures}

----------------------------------------------------------------
-- The tests of runs are the tests of the entry

module _ {xs : List ℕ} {at : ℕ} (F : FunctionField xs at) where
  -- a test that goes through the types: the result's, then the parameters'
  module _ (test : List ℕ → Bool) (append : (is js : List ℕ) → test (is ++ js) ≡ (test is && test js)) where
    signature : test (types_of_function (function_at xs at)) ≡ (test (references xs (at + 3) 1) && test (references xs (at + 6) (parameters_at xs at)))
    signature = ap test (types-of-function F) ∙ append (references xs (at + 3) 1) (references xs (at + 6) (parameters_at xs at))

    pub signature-stops : (r : Bool) → r ≡ test (references xs (at + 3) 1) → r ≡ false → false ≡ test (types_of_function (function_at xs at))
    signature-stops r a e = sym (signature ∙ ap (λ b. b && test (references xs (at + 6) (parameters_at xs at))) (sym a ∙ e))

    pub signature_rest : (n : ℕ) (r : Bool) → n ≡ parameters_at xs at → r ≡ test (references xs (at + 3) 1) → r ≡ true
        → test (references xs (at + 6) n) ≡ test (types_of_function (function_at xs at))
    signature_rest n r s a e =
        ap (λ n. test (references xs (at + 6) n)) s ∙ sym (signature ∙ ap (λ b. b && test (references xs (at + 6) (parameters_at xs at))) (sym a ∙ e))

  -- each part of the types is below what they all are
  pub result-below : (limit : ℕ) → below limit (types_of_function (function_at xs at)) ≡ true → below limit (references xs (at + 3) 1) ≡ true
  result-below limit e = (and_both _ (below limit (references xs (at + 6) (parameters_at xs at))) (sym (signature (below limit) (below-append limit)) ∙ e)).0

  pub parameters-below : (limit n : ℕ) → n ≡ parameters_at xs at → below limit (types_of_function (function_at xs at)) ≡ true → below limit (references xs (at + 6) n) ≡ true
  parameters-below limit n s e =
      ap (λ n. below limit (references xs (at + 6) n)) s ∙ (and_both (below limit (references xs (at + 3) 1)) _ (sym (signature (below limit) (below-append limit)) ∙ e)).1

  -- the body
  body_run : (from n : ℕ) → from ≡ at + 6 + 2 * n → n ≡ parameters_at xs at → references xs from 1 ≡ (function_at xs at).body ∷ []
  body_run from n e s = ap (λ i. references xs i 1) (e ∙ ap (λ n. at + 6 + 2 * n) s) ∙ sym (body-of-function F)

  pub body-decided : (limit n : ℕ) (r b : Bool) → n ≡ parameters_at xs at → r ≡ below limit (references xs (at + 6 + 2 * n) 1) → r ≡ b → below limit ((function_at xs at).body ∷ []) ≡ b
  body-decided limit n r b s a e = ap (below limit) (sym (body_run (at + 6 + 2 * n) n refl s)) ∙ sym a ∙ e

  pub body-noted : (n : ℕ) (us us' : List ℕ) (r b : Bool) → n ≡ parameters_at xs at → Used us us' (references xs (at + 6 + 2 * n) 1) r → r ≡ b
      → Used us us' ((function_at xs at).body ∷ []) b
  body-noted n us us' r b s U e = subst (λ b. Used us us' ((function_at xs at).body ∷ []) b) e (subst (λ ts. Used us us' ts r) (body_run (at + 6 + 2 * n) n refl s) U)

----------------------------------------------------------------
-- One entry

module _ (types terms at : ℕ) (nodes free : List ℕ) (h : FunctionEntry) where
  abbrev pub answered : List ℕ → Answer (Unit {0})
  answered used = function_answer types terms at used nodes free h

  module _ (us : List ℕ) where
    pub type-absent : below types (types_of_function h) ≡ false → EntryTested answered (h.body ∷ []) us us (Err (BadReference at))
    unfolding function_answer ◌>>=◌ require
    type-absent a = bad_reference answered (h.body ∷ []) us us at λ used M. rw a refl

    pub body-absent : below types (types_of_function h) ≡ true → below terms (h.body ∷ []) ≡ false → EntryTested answered (h.body ∷ []) us us (Err (BadReference at))
    unfolding function_answer ◌>>=◌ require
    body-absent a b = bad_reference answered (h.body ∷ []) us us at λ used M. rw (a, b) refl

  module _ (us us' : List ℕ) (a : below types (types_of_function h) ≡ true) (b : below terms (h.body ∷ []) ≡ true) where
    pub used-before : Used us us' (h.body ∷ []) false → EntryTested answered (h.body ∷ []) us us' (Err (BadReference at))
    unfolding function_answer ◌>>=◌ require
    used-before U = bad_reference answered (h.body ∷ []) us us' at λ used M. rw (a, b, sym (U.answer used M)) refl

    pub type_not_plain : Used us us' (h.body ∷ []) true → all_plain_in nodes free (types_of_function h) ≡ false → EntryTested answered (h.body ∷ []) us us' (Err (BadType at))
    unfolding function_answer ◌>>=◌ require
    type_not_plain U d = bad-type answered (h.body ∷ []) us us' at λ used M. rw (a, b, sym (U.answer used M), d) refl

    pub function-sound : Used us us' (h.body ∷ []) true → all_plain_in nodes free (types_of_function h) ≡ true → EntryTested answered (h.body ∷ []) us us' (Ok tt)
    unfolding function_answer ◌>>=◌ require
    function-sound U d = sound answered (h.body ∷ []) us us' (λ used M. rw (a, b, sym (U.answer used M), d) refl) λ used M. U.marks used M refl

----------------------------------------------------------------
-- All entries

abbrev named : List ℕ → ℕ → ℕ → FunctionEntry → Bool
named used types terms h = below types (types_of_function h) && below terms (h.body ∷ []) && fresh used (h.body ∷ [])

named_types : (used : List ℕ) (types terms : ℕ) (h : FunctionEntry) → named used types terms h ≡ true → below types (types_of_function h) ≡ true
named_types used types terms h e =
    (and_both (below types (types_of_function h)) (below terms (h.body ∷ []))
    (and_both (below types (types_of_function h) && below terms (h.body ∷ [])) (fresh used (h.body ∷ [])) e).0).0

module _ (xs types terms functions nodes free : List ℕ) where
  -- what the tests from entry `g` on answer
  abbrev pub functions_from_entry : ℕ → List ℕ → Answer (List ℕ)
  functions_from_entry g used = test_functions (places_of types terms functions) (entries_of xs types terms functions) g used (drop g (map (function_at xs) functions))

  -- the test of entry `g`
  functions-turn : Measured (map (type_at xs) types) nodes free → (g : ℕ) → g < length functions → (used : List ℕ)
      → functions_from_entry g used
      ≡ (function_answer (length types) (length terms) (get_or functions g 0) used nodes free (function_at xs (get_or functions g 0))
      >>= λ p. functions_from_entry (g + 1) ((function_at xs (get_or functions g 0)).body ∷ used))
  unfolding test_functions function_answer entries_at
  functions-turn N g l used =
      ap (test_functions (places_of types terms functions) (entries_of xs types terms functions) g used) (entries_from (function_at xs) functions g l)
      ∙ by_figures (map (type_at xs) types) nodes free (types_of_function h) (named used _ _ h) at (next (suc g)) N (named_types used _ _ h)
      ∙ ap₂ (λ m n. (require (named used m n h) 4 at >>= λ p. require (all_plain_in nodes free (types_of_function h)) 5 at) >>= λ p. next (suc g))
      (length-map types (type_at xs)) (length-map terms (term_at xs))
      ∙ ap (λ n. (require (named used (length types) (length terms) h) 4 at >>= λ p. require (all_plain_in nodes free (types_of_function h)) 5 at) >>= λ p. next n)
      (let z : suc g ≡ g + 1 = omega arith in z)
    where
      at : ℕ
      at = get_or functions g 0

      h : FunctionEntry
      h = function_at xs at

      next : ℕ → Answer (List ℕ)
      next n = test_functions (places_of types terms functions) (entries_of xs types terms functions) n (h.body ∷ used) (drop (g + 1) (map (function_at xs) functions))

  pub functions-step : Measured (map (type_at xs) types) nodes free → (g at : ℕ) → g < length functions → at ≡ get_or functions g 0 → (used : List ℕ)
      → functions_from_entry g used
      ≡ (function_answer (length types) (length terms) at used nodes free (function_at xs at) >>= λ p. functions_from_entry (g + 1) (((function_at xs at).body ∷ []) ++ used))
  functions-step N g at l e used =
      functions-turn N g l used
      ∙ ap (λ at. function_answer (length types) (length terms) at used nodes free (function_at xs at) >>= λ p. functions_from_entry (g + 1) ((function_at xs at).body ∷ used)) (sym e)

  pub functions-over : (g : ℕ) → length functions ≤ g → (used : List ℕ) → functions_from_entry g used ≡ accepted used
  unfolding test_functions
  functions-over g l used =
      ap (test_functions (places_of types terms functions) (entries_of xs types terms functions) g used)
      (drop_of_length-le (map (function_at xs) functions) {i = g} (omega (arith, length-map functions (function_at xs))))
