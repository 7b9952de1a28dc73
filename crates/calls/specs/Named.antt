-- The tests on entries: types, then terms, then functions, then terms that nothing uses (section 4, row Entries: refusals 4 and 5).
-- Of one entry, all of 4 goes before 5. A refusal's place is the offset of the field that names; of an unused term, its own.
use Rattle.std.specs.Prelude.{ℕ, suc, Bool, true, false, ◌&&◌, ◌||◌, not, List, [], ◌∷◌, ◌++◌, length, get_or, eqb, ltb, leb}
use package.Rattle.rules.specs.Limits.{max_nodes}
use package.Rattle.rules.specs.Ty.{Ty, one, prod, sum, mu, tyvar, nodes}
use package.Rattle.calls.specs.Answer.{Answer, accepted, ◌>>=◌, require}
use package.Rattle.calls.specs.Fields.{Layout}
use package.Rattle.calls.specs.Entries.{TypeEntry, y_unit, y_prod, y_sum, y_mu, y_var, type_of, TermEntry, n_var, n_unit, n_inl, n_inr, n_roll, n_unroll, n_pair, n_let, n_letp, n_case, n_call, FunctionEntry, Entries}

----------------------------------------------------------------
-- Types that may be named: closed, and of at most `max_nodes` nodes when written out as a tree (5)

-- every variable is bound, under `n` recursive types more
unfoldable pub closed : ℕ → Ty → Bool
closed n one = true
closed n (prod a b) = closed n a && closed n b
closed n (sum a b) = closed n a && closed n b
closed n (mu a) = closed (suc n) a
closed n (tyvar k) = ltb k n

unfoldable pub plain : List TypeEntry → ℕ → Bool
unfolding closed
plain ys i = closed 0 (type_of ys i) && leb (nodes (type_of ys i)) max_nodes

----------------------------------------------------------------
-- What an entry names

unfoldable pub types_of_type : TypeEntry → List ℕ
types_of_type y_unit = []
types_of_type (y_prod a b) = a ∷ b ∷ []
types_of_type (y_sum a b) = a ∷ b ∷ []
types_of_type (y_mu a) = a ∷ []
types_of_type (y_var k) = []

-- what a term entry names; terms in the order of the bytes
pub record Names : Type 0 where
  pub types : List ℕ
  pub terms : List ℕ
  pub functions : List ℕ

unfoldable pub names_of : TermEntry → Names
names_of (n_var i) = record { types = []; terms = []; functions = [] }
names_of n_unit = record { types = []; terms = []; functions = [] }
names_of (n_inl c e) = record { types = c ∷ []; terms = e ∷ []; functions = [] }
names_of (n_inr c e) = record { types = c ∷ []; terms = e ∷ []; functions = [] }
names_of (n_roll c e) = record { types = c ∷ []; terms = e ∷ []; functions = [] }
names_of (n_unroll c e) = record { types = c ∷ []; terms = e ∷ []; functions = [] }
names_of (n_pair e e') = record { types = []; terms = e ∷ e' ∷ []; functions = [] }
names_of (n_let e b) = record { types = []; terms = e ∷ b ∷ []; functions = [] }
names_of (n_letp e b) = record { types = []; terms = e ∷ b ∷ []; functions = [] }
names_of (n_case e b b') = record { types = []; terms = e ∷ b ∷ b' ∷ []; functions = [] }
names_of (n_call g ts e) = record { types = []; terms = ts ++ (e ∷ []); functions = g ∷ [] }

unfoldable pub types_of_term : TermEntry → List ℕ
unfolding names_of
types_of_term t = (names_of t).types

unfoldable pub terms_of_term : TermEntry → List ℕ
unfolding names_of
terms_of_term t = (names_of t).terms

unfoldable pub functions_of_term : TermEntry → List ℕ
unfolding names_of
functions_of_term t = (names_of t).functions

unfoldable pub types_of_function : FunctionEntry → List ℕ
types_of_function h = h.result ∷ (h.ancillae ++ (h.dynamic ∷ []))

----------------------------------------------------------------
-- Tests on references

-- every one is below `n`
unfoldable pub below : ℕ → List ℕ → Bool
below n [] = true
below n (i ∷ is) = ltb i n && below n is

unfoldable pub member : ℕ → List ℕ → Bool
member i [] = false
member i (j ∷ js) = eqb i j || member i js

-- none was used before, in `used` or earlier in the list
unfoldable pub fresh : List ℕ → List ℕ → Bool
unfolding member
fresh used [] = true
fresh used (t ∷ ts) = not (member t used) && fresh (t ∷ used) ts

unfoldable pub all_plain : List TypeEntry → List ℕ → Bool
all_plain ys [] = true
all_plain ys (i ∷ is) = plain ys i && all_plain ys is

----------------------------------------------------------------
-- Entry by entry

-- type entries from entry `i` on: a type names lower types
unfoldable pub test_types : Layout → ℕ → List TypeEntry → Answer (Unit {0})
test_types L i [] = accepted tt
test_types L i (y ∷ ys) = do
  lower ← require (below i (types_of_type y)) 4 (get_or L.types i 0)
  test_types L (suc i) ys

module _ (L : Layout) (E : Entries) where
  -- term entries from entry `k` on, `used` being the terms that earlier entries use: a term names lower terms; any other reference
  -- names an entry that exists; each term is used once
  unfoldable pub test_terms : ℕ → List ℕ → List TermEntry → Answer (List ℕ)
  test_terms k used [] = accepted used
  test_terms k used (t ∷ ts) = do
    named ← require
        (below (length E.types) (types_of_term t) && below k (terms_of_term t) && below (length E.functions) (functions_of_term t) && fresh used (terms_of_term t)) 4
        (get_or L.terms k 0)
    good ← require (all_plain E.types (types_of_term t)) 5 (get_or L.terms k 0)
    test_terms (suc k) (terms_of_term t ++ used) ts

  -- function entries from entry `g` on; a body is a use
  unfoldable pub test_functions : ℕ → List ℕ → List FunctionEntry → Answer (List ℕ)
  test_functions g used [] = accepted used
  test_functions g used (h ∷ hs) = do
    named ← require
        (below (length E.types) (types_of_function h) && below (length E.terms) (h.body ∷ []) && fresh used (h.body ∷ [])) 4
        (get_or L.functions g 0)
    good ← require (all_plain E.types (types_of_function h)) 5 (get_or L.functions g 0)
    test_functions (suc g) (h.body ∷ used) hs

  -- terms that nothing uses, from entry `k` on, the lowest first
  unfoldable pub test_used : ℕ → List ℕ → List TermEntry → Answer (Unit {0})
  test_used k used [] = accepted tt
  test_used k used (t ∷ ts) = do
    named ← require (member k used) 4 (get_or L.terms k 0)
    test_used (suc k) used ts

  unfoldable pub test_entries : Answer (Unit {0})
  test_entries = do
    lower ← test_types L 0 E.types
    inTerms ← test_terms 0 [] E.terms
    inAll ← test_functions 0 inTerms E.functions
    test_used 0 inAll E.terms
