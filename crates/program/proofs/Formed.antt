-- Laws of one field: what each test of calls/specs/Fields comes to, in the order in which the code makes them.
use Prim.Native.Nat.{ℕ, ◌<◌, ◌≤◌}
use mathlib.Core.Path.{◌≡◌, refl, sym, ◌∙◌}
use mathlib.Core.Bool.{Bool, true, false, not, ◌||◌}
use mathlib.Core.List.{List}
use lib.ListN.{get_or, get_or-eq_default}
use lib.Dec.{eqb}
use borrow.Author.Tests.{le-leb, lt-leb, ne_eqb, not-true, not-false}
use package.Rattle.calls.specs.Fields.{call_kind, type_tag, term_tag, function_tag, tag_at, length_at, kind_at, parameters_at, type_lengths, term_lengths, call_length, type_length, term_length, function_length, body_fits}

----------------------------------------------------------------
-- A test that is made by a function, and denied in an `if`

pub denied : {r b : Bool} → r ≡ b → not r ≡ true → b ≡ false
denied {r} e h = sym e ∙ not-true r h

pub not_denied : {r b : Bool} → r ≡ b → not r ≡ false → b ≡ true
not_denied {r} e h = sym e ∙ not-false r h

----------------------------------------------------------------
-- Body lengths

-- there is no sixth kind of type, and no twelfth of term
pub type-beyond : (kind : ℕ) → 5 ≤ kind → 0 ≡ get_or type_lengths kind 0
unfolding type_lengths
type-beyond kind h = sym (get_or-eq_default type_lengths 0 h)

pub term-beyond : (kind : ℕ) → 11 ≤ kind → 0 ≡ get_or term_lengths kind 0
unfolding term_lengths
term-beyond kind h = sym (get_or-eq_default term_lengths 0 h)

pub type-empty : (kind n : ℕ) → n < 1 → false ≡ type_length kind n
unfolding type_length
type-empty kind n h = rw (lt-leb 1 n h)

pub type_by_kind : (kind n m : ℕ) → 1 ≤ n → m ≡ get_or type_lengths kind 0 → eqb n m ≡ type_length kind n
unfolding type_length
type_by_kind kind n m h e = rw (le-leb 1 n h, e)

pub term-empty : (kind n : ℕ) → n < 1 → false ≡ term_length kind n
unfolding term_length
term-empty kind n h = rw (lt-leb 1 n h)

pub term-call : (kind n : ℕ) → 1 ≤ n → kind ≡ call_kind → call_length n ≡ term_length kind n
unfolding term_length
term-call kind n h e = rw (le-leb 1 n h, e)

pub term_by_kind : (kind n m : ℕ) → 1 ≤ n → (kind ≡ call_kind → ⊥) → m ≡ get_or term_lengths kind 0 → eqb n m ≡ term_length kind n
unfolding term_length
term_by_kind kind n m h k e = rw (le-leb 1 n h, ne_eqb kind call_kind k, e)

----------------------------------------------------------------
-- The body, by the tag

alone : (a : Bool) → a ≡ (a || false || false)
alone true = refl
alone false = refl

last_false : (a : Bool) → a ≡ (a || false)
last_false true = refl
last_false false = refl

module _ (xs : List ℕ) (at : ℕ) where
  pub fits-type : tag_at xs at ≡ type_tag → type_length (kind_at xs at) (length_at xs at) ≡ body_fits xs at
  unfolding body_fits
  fits-type e = rw e (alone (type_length (kind_at xs at) (length_at xs at)))

  pub fits-term : tag_at xs at ≡ term_tag → term_length (kind_at xs at) (length_at xs at) ≡ body_fits xs at
  unfolding body_fits
  fits-term e = rw e (last_false (term_length (kind_at xs at) (length_at xs at)))

  pub fits-function : tag_at xs at ≡ function_tag → function_length (parameters_at xs at) (length_at xs at) ≡ body_fits xs at
  unfolding body_fits
  fits-function e = rw e

  pub fits_nothing : (tag_at xs at ≡ type_tag → ⊥) → (tag_at xs at ≡ term_tag → ⊥) → (tag_at xs at ≡ function_tag → ⊥) → false ≡ body_fits xs at
  unfolding body_fits
  fits_nothing a b c = rw (ne_eqb (tag_at xs at) type_tag a, ne_eqb (tag_at xs at) term_tag b, ne_eqb (tag_at xs at) function_tag c)
