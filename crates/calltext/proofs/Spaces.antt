-- The words of a line, as std's `split` says them, and its spaces counted (specs/Words).
use Rattle.std.proofs.Common.{◌≡◌, ◌+◌, ◌∙◌, ℕ, zero, suc, cond, true, false, Bool, List, [], ◌∷◌, drop, get_or, eqb, refl, sym, ap, arith, Bor, Option, Some, None, length, ◌<◌, ◌≤◌}
use lib.ListN.{drop_of_length-le}
use mir.Val.{bool_byte}
use lib.Seq.{drop-cons}
use Rattle.std.specs.List.{slice_split, onto_first, slice_get}
use Rattle.std.specs.Option.{unwrap_or, option_map}
use Rattle.std.proofs.lemmas.Option.{unwrap_or-slice_get}
use package.Rattle.calltext.specs.Words.{index_of, first, behind, from, word_at, is_space, spaces}

----------------------------------------------------------------
-- Spaces counted: `n` among the first `i`

pub one_byte : (xs : List ℕ) (n i : ℕ) → spaces xs ≡ n + spaces (drop i xs) → i < length xs
    → spaces xs ≡ n + is_space (get_or xs i 0) + spaces (drop (i + 1) xs)
unfolding spaces
one_byte xs n i left h =
    left
    ∙ ap (λ l. n + spaces l) (drop-cons xs i 0 h)
    ∙ ap (λ k. n + (is_space (get_or xs i 0) + spaces (drop k xs))) (let z : suc i ≡ i + 1 = omega arith in z)
    ∙ omega arith

pub at_most_one : (x : ℕ) → is_space x ≤ 1
at_most_one x = by (eqb x 32)
  where
    by : (t : Bool) → cond t 1 0 ≤ 1
    by true = omega arith
    by false = omega arith

-- the byte that a test of a space gives is its count
pub one_space : (x : ℕ) {n : ℕ} → n ≡ bool_byte (eqb x 32) → n ≡ is_space x
one_space x e = e ∙ by (eqb x 32)
  where
    by : (t : Bool) → bool_byte t ≡ cond t 1 0
    by true = refl
    by false = refl

pub all-spaces : (xs : List ℕ) (n i : ℕ) → spaces xs ≡ n + spaces (drop i xs) → length xs ≤ i → n ≡ spaces xs
unfolding spaces
all-spaces xs n i left h = omega (arith, left ∙ ap (λ l. n + spaces l) (drop_of_length-le xs h))

----------------------------------------------------------------
-- Words

from_none : (k : ℕ) → from k [] ≡ []
unfolding from behind index_of
from_none zero = refl
from_none (suc k) = ap behind (from_none k)

from_behind : (k : ℕ) (xs : List ℕ) → from (suc k) xs ≡ from k (behind xs)
unfolding from
from_behind zero xs = refl
from_behind (suc k) xs = ap behind (from_behind k xs)

-- the first part gains a byte in front, the others stay
onto_part : (x : ℕ) (parts : List (List ℕ)) → get_or (onto_first x parts) 0 [] ≡ x ∷ get_or parts 0 []
onto_part x [] = refl
onto_part x (part ∷ parts) = refl

onto_parts : (x k : ℕ) (parts : List (List ℕ)) → get_or (onto_first x parts) (suc k) [] ≡ get_or parts (suc k) []
onto_parts x k [] = refl
onto_parts x k (part ∷ parts) = refl

-- a line that starts with a space, and one that does not
module _ (x : ℕ) (xs : List ℕ) where
  space_front : eqb x 32 ≡ true → word_at 0 (x ∷ xs) ≡ []
  unfolding word_at first from index_of
  space_front e = rw e

  space_behind : eqb x 32 ≡ true → behind (x ∷ xs) ≡ xs
  unfolding behind index_of
  space_behind e = rw e

  byte_front : eqb x 32 ≡ false → word_at 0 (x ∷ xs) ≡ x ∷ word_at 0 xs
  unfolding word_at first from index_of
  byte_front e = rw e

  byte_behind : eqb x 32 ≡ false → behind (x ∷ xs) ≡ behind xs
  unfolding behind index_of
  byte_behind e = rw e (ap (λ k. drop k (x ∷ xs)) (let z : suc (index_of 32 xs) + 1 ≡ suc (index_of 32 xs + 1) = omega arith in z))

  -- the words of the longer line, by the words of the rest
  words_by : (t : Bool) → eqb x 32 ≡ t → (parts : List (List ℕ)) → ((k : ℕ) → get_or parts k [] ≡ word_at k xs)
      → (k : ℕ) → get_or (cond t ([] ∷ parts) (onto_first x parts)) k [] ≡ word_at k (x ∷ xs)
  unfolding word_at
  words_by true e parts same zero = sym (space_front e)
  words_by true e parts same (suc k) = same k ∙ ap (λ l. first (from k l)) (sym (space_behind e)) ∙ ap first (sym (from_behind k (x ∷ xs)))
  words_by false e parts same zero = onto_part x parts ∙ ap (λ l. x ∷ l) (same 0) ∙ sym (byte_front e)
  words_by false e parts same (suc k) =
      onto_parts x k parts
      ∙ same (suc k)
      ∙ ap first (from_behind k xs)
      ∙ ap (λ l. first (from k l)) (sym (byte_behind e))
      ∙ ap first (sym (from_behind k (x ∷ xs)))

parts_are : (xs : List ℕ) (k : ℕ) → get_or (slice_split (λ x. eqb x 32) xs) k [] ≡ word_at k xs
unfolding word_at first index_of
parts_are [] zero = refl
parts_are [] (suc k) = sym (ap first (from_none (suc k)))
parts_are (x ∷ xs) k = words_by x xs (eqb x 32) refl (slice_split (λ x. eqb x 32) xs) (parts_are xs) k

-- what `nth` answers of the parts between spaces is a word
module _ (r : Option (Bor (List ℕ))) (n k : ℕ) (xs : List ℕ) (told : option_map (λ x. x.now) r ≡ slice_get (slice_split (λ x. eqb x 32) xs) n) (e : n ≡ k) where
  word_is : unwrap_or (option_map (λ x. x.now) r) [] ≡ word_at k xs
  word_is =
      ap (λ o. unwrap_or o []) told ∙ unwrap_or-slice_get (slice_split (λ x. eqb x 32) xs) n [] ∙ ap (λ i. get_or (slice_split (λ x. eqb x 32) xs) i []) e ∙ parts_are xs k

  pub part_found : (w : Bor (List ℕ)) → r ≡ Some w → w.now ≡ word_at k xs
  part_found w f = ap (λ o. unwrap_or (option_map (λ x. x.now) o) []) (sym f) ∙ word_is

  pub part_missing : r ≡ None → [] ≡ word_at k xs
  part_missing f = ap (λ o. unwrap_or (option_map (λ x. x.now) o) []) (sym f) ∙ word_is
