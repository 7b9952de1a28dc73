-- Reading the program's fields from the first byte (section 1; section 4, row Field reading: refusals 2 and 3).
-- A field is a one-byte tag, a two-byte length and a body. A refusal's place is the offset of the field's first byte.
use Rattle.std.specs.Prelude.{ℕ, zero, suc, ◌+◌, ◌*◌, ◌%◌, Bool, true, false, ◌&&◌, ◌||◌, cond, List, [], ◌∷◌, ◌++◌, length, get_or, eqb, leb}
use package.Rattle.octets.specs.Numbers.{get16}
use package.Rattle.rules.specs.Limits.{max_types, max_terms, max_functions, max_parameters, max_program_bytes}
use package.Rattle.calls.specs.Answer.{Answer, accepted, ◌>>=◌, require}

----------------------------------------------------------------
-- Tags, and the bytes of a field before its body: tag and length

abbrev pub type_tag : ℕ
type_tag = 1

abbrev pub term_tag : ℕ
term_tag = 2

abbrev pub function_tag : ℕ
function_tag = 3

abbrev pub field_head : ℕ
field_head = 3

-- the kind of a call, whose body has no one length
abbrev pub call_kind : ℕ
call_kind = 8

----------------------------------------------------------------
-- One field, of the program `xs`, at offset `at`

unfoldable pub tag_at : List ℕ → ℕ → ℕ
tag_at xs at = get_or xs at 0

-- the length of the body
unfoldable pub length_at : List ℕ → ℕ → ℕ
length_at xs at = get16 xs (at + 1)

-- the offset of the next field
unfoldable pub next_at : List ℕ → ℕ → ℕ
next_at xs at = at + field_head + length_at xs at

-- the kind byte of a type or a term
unfoldable pub kind_at : List ℕ → ℕ → ℕ
kind_at xs at = get_or xs (at + field_head) 0

-- how many parameters a function says it has
unfoldable pub parameters_at : List ℕ → ℕ → ℕ
parameters_at xs at = get_or xs (at + 5) 0

----------------------------------------------------------------
-- Well-formed fields (2)

-- the body length of each kind of type: unit, product, sum, recursive, bound variable
unfoldable pub type_lengths : List ℕ
type_lengths = 1 ∷ 5 ∷ 5 ∷ 3 ∷ 2 ∷ []

-- and of each kind of term: variable, unit, inl, inr, pair, let, let pair, case, (call), roll, unroll
unfoldable pub term_lengths : List ℕ
term_lengths = 2 ∷ 1 ∷ 5 ∷ 5 ∷ 5 ∷ 5 ∷ 5 ∷ 7 ∷ 0 ∷ 5 ∷ 5 ∷ []

-- a call has its function and one term at least, two bytes each
unfoldable pub call_length : ℕ → Bool
call_length n = leb 5 n && eqb (n % 2) 1

-- Has the body a length that its kind has? `n` is the length.
unfoldable pub type_length : ℕ → ℕ → Bool
type_length kind n = leb 1 n && eqb n (get_or type_lengths kind 0)

unfoldable pub term_length : ℕ → ℕ → Bool
term_length kind n = leb 1 n && cond (eqb kind call_kind) (call_length n) (eqb n (get_or term_lengths kind 0))

-- result type, parameter count, parameter types, body term
unfoldable pub function_length : ℕ → ℕ → Bool
function_length parameters n = eqb n (5 + 2 * parameters)

-- Types come first, then terms, then functions: a tag is no lower than the one before.
unfoldable pub body_fits : List ℕ → ℕ → Bool
body_fits xs at =
    (eqb (tag_at xs at) type_tag && type_length (kind_at xs at) (length_at xs at))
    || (eqb (tag_at xs at) term_tag && term_length (kind_at xs at) (length_at xs at))
    || (eqb (tag_at xs at) function_tag && function_length (parameters_at xs at) (length_at xs at))

unfoldable pub well_formed : List ℕ → ℕ → ℕ → Bool
well_formed xs at last = leb (at + field_head) (length xs) && leb last (tag_at xs at) && leb (next_at xs at) (length xs) && body_fits xs at

----------------------------------------------------------------
-- The layout: where the field of each entry stands

pub record Layout : Type 0 where
  pub types : List ℕ
  pub terms : List ℕ
  pub functions : List ℕ

unfoldable pub no_fields : Layout
no_fields = record { types = []; terms = []; functions = [] }

-- one more field
unfoldable pub with_field : List ℕ → ℕ → Layout → Layout
with_field xs at L = record {
  types = cond (eqb (tag_at xs at) type_tag) (L.types ++ (at ∷ [])) L.types;
  terms = cond (eqb (tag_at xs at) term_tag) (L.terms ++ (at ∷ [])) L.terms;
  functions = cond (eqb (tag_at xs at) function_tag) (L.functions ++ (at ∷ [])) L.functions;
}

-- within the counts of section 1, the field at `at` included (3)
unfoldable pub within_counts : List ℕ → ℕ → Layout → Bool
within_counts xs at L =
    leb (length L.types) max_types && leb (length L.terms) max_terms && leb (length L.functions) max_functions
    && cond (eqb (tag_at xs at) function_tag) (leb 1 (parameters_at xs at) && leb (parameters_at xs at) max_parameters) true

-- `n` bounds how many fields are to come; a field has three bytes at least
unfoldable pub read_fields : ℕ → List ℕ → ℕ → ℕ → Layout → Answer Layout
read_fields zero xs at last L = accepted L
read_fields (suc n) xs at last L = elim (eqb at (length xs)) [
  | true ↦ accepted L
  | false ↦ do
    formed ← require (well_formed xs at last) 2 at
    within ← require (within_counts xs at (with_field xs at L)) 3 at
    read_fields n xs (next_at xs at) (tag_at xs at) (with_field xs at L)
]

-- A program over the byte limit is refused before its fields are read.
unfoldable pub layout : List ℕ → Answer Layout
layout xs = do
  within ← require (leb (length xs) max_program_bytes) 3 0
  read_fields (length xs) xs 0 type_tag no_fields
