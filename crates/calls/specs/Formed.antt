-- Well-formed programs, as section 1 says it: propositions over a program's fields and entries, in no order of tests. That check accepts
-- exactly these, if the rules type them: Claims.
use Rattle.std.specs.Prelude.{ℕ, suc, ◌+◌, ◌≤◌, ◌<◌, ◌≡◌, true, cond, List, [], ◌∷◌, ◌++◌, length, eqb}
use package.Rattle.rules.specs.Limits.{max_types, max_terms, max_functions, max_parameters, max_program_bytes}
use package.Rattle.rules.specs.Term.{Program}
use package.Rattle.calls.specs.Fields.{tag_at, next_at, parameters_at, body_fits, Layout}
use package.Rattle.calls.specs.Entries.{type_of, Entries, entries_at, program_of}
use package.Rattle.calls.specs.Named.{types_of_term, terms_of_term, functions_of_term, types_of_function, below, member}
use package.Rattle.calls.specs.Closed.{Plain, Lower, LowerTerms}

----------------------------------------------------------------
-- Fields

-- From offset `at` on the bytes are fields, at `places`: a one-byte tag, a two-byte length and a body that its kind has. Types come first,
-- then terms, then functions: no tag is lower than the one before, `last`.
pub data FieldsAt (xs : List ℕ) : ℕ → ℕ → List ℕ → Type 0 where
  no_more : {at last : ℕ} → at ≡ length xs → FieldsAt xs at last []
  one_more : {at last : ℕ} {places : List ℕ} → at + 3 ≤ length xs → last ≤ tag_at xs at → next_at xs at ≤ length xs → body_fits xs at ≡ true
      → FieldsAt xs (next_at xs at) (tag_at xs at) places → FieldsAt xs at last (at ∷ places)

-- the places of one tag: "entries of each tag count from 0"
unfoldable pub tagged : List ℕ → ℕ → List ℕ → List ℕ
tagged xs tag [] = []
tagged xs tag (at ∷ places) = cond (eqb (tag_at xs at) tag) (at ∷ tagged xs tag places) (tagged xs tag places)

abbrev pub by_tag : List ℕ → List ℕ → Layout
by_tag xs places = record { types = tagged xs 1 places; terms = tagged xs 2 places; functions = tagged xs 3 places }

-- within the limits on bytes and counts
pub record Few (xs : List ℕ) (L : Layout) : Type 0 where
  pub bytes : length xs ≤ max_program_bytes
  pub types : length L.types ≤ max_types
  pub terms : length L.terms ≤ max_terms
  pub functions : length L.functions ≤ max_functions
  pub parameters : (at : ℕ) → member at L.functions ≡ true → (1 ≤ parameters_at xs at) × (parameters_at xs at ≤ max_parameters)

----------------------------------------------------------------
-- Entries

-- what all the entries name, in order
unfoldable pub gathered : {A : Type 0} → (A → List ℕ) → List A → List ℕ
gathered names [] = []
gathered names (x ∷ xs) = names x ++ gathered names xs

-- the types that terms and functions name; the terms that are used, as parts or as bodies
abbrev pub types_named : Entries → List ℕ
types_named E = gathered types_of_term E.terms ++ gathered types_of_function E.functions

abbrev pub terms_used : Entries → List ℕ
terms_used E = gathered terms_of_term E.terms ++ gathered (λ h. h.body ∷ []) E.functions

-- how often a number stands in a list
unfoldable pub times : ℕ → List ℕ → ℕ
times i [] = 0
times i (j ∷ js) = cond (eqb i j) (suc (times i js)) (times i js)

pub record WellNamed (E : Entries) : Type 0 where
  -- a type names lower types, a term lower terms; any other reference names an entry that exists
  pub types_lower : Lower E.types
  pub terms_lower : LowerTerms E.terms
  pub types_there : below (length E.types) (types_named E) ≡ true
  pub terms_there : below (length E.terms) (terms_used E) ≡ true
  pub functions_there : below (length E.functions) (gathered functions_of_term E.terms) ≡ true
  -- each term is used once, as a part of one term or as one body
  pub used_once : (k : ℕ) → k < length E.terms → times k (terms_used E) ≡ 1
  -- a type that a term or function names is closed and has at most 1,024 nodes when written out as a tree
  pub types_plain : (i : ℕ) → member i (types_named E) ≡ true → Plain (type_of E.types i)

----------------------------------------------------------------
-- Programs

-- the bytes are a program `P`, well-formed by section 1
pub record WellFormed (program : List ℕ) (P : Program) : Type 0 where
  pub places : List ℕ
  pub fields : FieldsAt program 0 1 places
  pub few : Few program (by_tag program places)
  pub named : WellNamed (entries_at program (by_tag program places))
  pub trees : program_of (entries_at program (by_tag program places)) ≡ P
