-- What the tests on entries answer in code, against calls/specs/Named: of one entry, of the entries of a tag, and of all.
use Rattle.std.specs.Prelude.{ℕ, ◌≡◌, ◌&&◌, List, [], ◌∷◌, ◌++◌, map, length, take, Result, Ok, Err}
use package.Rattle.calls.specs.Answer.{Answer, accepted, refused, ◌>>=◌, require}
use package.Rattle.calls.specs.Entries.{type_at, TermEntry, term_at, FunctionEntry, function_at, Entries, entries_at}
use package.Rattle.calls.specs.Named.{types_of_term, terms_of_term, functions_of_term, types_of_function, below, fresh, test_types, test_terms, test_functions, test_used, test_entries}
use package.Rattle.calls.specs.Figures.{nodes_of, figures}
use package.Rattle.entries.specs.declared.testing.EntryError.{EntryError}
use package.Rattle.entries.specs.declared.testing.EntryError.TheVariants.{BadReference, BadType}
use package.Rattle.entries.specs.declared.testing.Tested.{Tested}
use package.Rattle.program.specs.Places.{places_of}
use package.Rattle.entries.specs.Marks.{Marks, Measured, all_plain_in}
use package.Rattle.entries.specs.Tally.{Tallied, NamedCounted}

-- the answer in the definitions' terms
abbrev pub verdict_of : Result (Unit {0}) EntryError → Answer (Unit {0})
verdict_of (Ok u) = accepted tt
verdict_of (Err (BadReference at)) = refused 4 at
verdict_of (Err (BadType at)) = refused 5 at

-- the entries of the program `xs` with its fields at these offsets
abbrev pub entries_of : List ℕ → List ℕ → List ℕ → List ℕ → Entries
entries_of xs types terms functions = entries_at xs (places_of types terms functions)

----------------------------------------------------------------
-- Types

-- The type entries are tested; if they are sound, their figures are noted. Either way the tally is that of the counts.
pub record TypesTested (xs types nodes free : List ℕ) (r : Tested) : Type 0 where
  pub answer : (terms functions : List ℕ) → verdict_of r.verdict ≡ test_types (places_of types terms functions) 0 (map (type_at xs) types)
  pub measured : verdict_of r.verdict ≡ accepted tt → Measured (map (type_at xs) types) nodes free
  pub tallied : Tallied xs types nodes r.tally

----------------------------------------------------------------
-- One term or function

-- term entry `k` at offset `at`, of so many types and functions, the types' figures being noted
unfoldable pub term_answer : ℕ → ℕ → ℕ → ℕ → List ℕ → List ℕ → List ℕ → TermEntry → Answer (Unit {0})
term_answer types functions k at used nodes free t = do
  named ← require (below types (types_of_term t) && below k (terms_of_term t) && below functions (functions_of_term t) && fresh used (terms_of_term t)) 4 at
  require (all_plain_in nodes free (types_of_term t)) 5 at

unfoldable pub function_answer : ℕ → ℕ → ℕ → List ℕ → List ℕ → List ℕ → FunctionEntry → Answer (Unit {0})
function_answer types terms at used nodes free h = do
  named ← require (below types (types_of_function h) && below terms (h.body ∷ []) && fresh used (h.body ∷ [])) 4 at
  require (all_plain_in nodes free (types_of_function h)) 5 at

-- An entry is tested that names the terms `ts`; if it is sound, they are used now. `us` is noted before, `us'` after.
pub record EntryTested (answered : List ℕ → Answer (Unit {0})) (ts us us' : List ℕ) (r : Result (Unit {0}) EntryError) : Type 0 where
  pub answer : (used : List ℕ) → Marks us used → verdict_of r ≡ answered used
  pub marks : (used : List ℕ) → Marks us used → verdict_of r ≡ accepted tt → Marks us' (ts ++ used)

----------------------------------------------------------------
-- All entries of a tag

-- the definitions' answers, `used` being the terms used so far
abbrev pub terms_answer : List ℕ → List ℕ → List ℕ → List ℕ → List ℕ → Answer (List ℕ)
terms_answer xs types terms functions used = test_terms (places_of types terms functions) (entries_of xs types terms functions) 0 used (map (term_at xs) terms)

abbrev pub functions_answer : List ℕ → List ℕ → List ℕ → List ℕ → List ℕ → Answer (List ℕ)
functions_answer xs types terms functions used =
    test_functions (places_of types terms functions) (entries_of xs types terms functions) 0 used (map (function_at xs) functions)

-- whether every term is used
pub record UsedTested (terms us : List ℕ) (r : Result (Unit {0}) EntryError) : Type 0 where
  pub answer : (xs types functions used : List ℕ) → Marks us used
      → verdict_of r ≡ test_used (places_of types terms functions) (entries_of xs types terms functions) 0 used (map (term_at xs) terms)

-- The tests end with the terms that are used, as noted in `us`, or with a refusal.
abbrev pub Ends : Result (Unit {0}) EntryError → List ℕ → Answer (List ℕ) → Type 0
Ends (Ok u) us a = (used : List ℕ) × (a ≡ accepted used) × Marks us used
Ends (Err (BadReference at)) us a = a ≡ refused 4 at
Ends (Err (BadType at)) us a = a ≡ refused 5 at

----------------------------------------------------------------
-- All entries

-- functions and unused terms, `used` being the terms that terms use
abbrev pub bodies_answer : List ℕ → List ℕ → List ℕ → List ℕ → List ℕ → Answer (Unit {0})
bodies_answer xs types terms functions used =
    functions_answer xs types terms functions used
    >>= λ inAll. test_used (places_of types terms functions) (entries_of xs types terms functions) 0 inAll (map (term_at xs) terms)

-- terms, then those
abbrev pub uses_answer : List ℕ → List ℕ → List ℕ → List ℕ → Answer (Unit {0})
uses_answer xs types terms functions = terms_answer xs types terms functions [] >>= λ inTerms. bodies_answer xs types terms functions inTerms

-- The entries are tested; if they are sound, `nodes` has the nodes of each type entry. Either way the tally is that of the counts (02, F-4).
pub record EntriesTested (xs types terms functions nodes : List ℕ) (r : Tested) : Type 0 where
  pub answer : verdict_of r.verdict ≡ test_entries (places_of types terms functions) (entries_of xs types terms functions)
  pub counted : verdict_of r.verdict ≡ accepted tt → take (length types) nodes ≡ figures nodes_of [] (map (type_at xs) types)
  pub tallied : Tallied xs types nodes r.tally
  pub named : verdict_of r.verdict ≡ accepted tt → NamedCounted (entries_of xs types terms functions) nodes
