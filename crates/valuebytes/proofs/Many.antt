-- Values one after another: counting them by their ends agrees with reading them.
use Prim.Native.Nat.{ℕ, suc, ◌+◌, ◌-◌, ◌≤◌, ◌<◌}
use native.Mathlib.Omega.{arith}
use mathlib.Core.Path.{◌≡◌, refl, sym, ap, ◌∙◌}
use mathlib.Core.Option.{Option, none, some}
use mathlib.Core.List.{List, [], ◌∷◌}
use lib.ListN.{length, drop, length-drop, drop_of_length-le}
use borrow.Author.Tests.{le-leb, lt-leb}
use package.Rattle.rules.specs.Limits.{max_value_bytes, max_ancilla_bytes, fits}
use package.Rattle.rules.specs.Val.{Val, size}
use package.Rattle.rules.proofs.Typing.Tests.{leb_yes}
use package.Rattle.rules.proofs.Basics.{given}
use package.Rattle.calls.specs.Values.{Read, got, malformed, cons_to, read_all, ancillae}
use package.Rattle.calls.proofs.Values.{read-sound, length-encode-append, read_all_nil}
use Rattle.std.specs.Prelude.{Option as Found, Some, None}
use package.Rattle.valuebytes.specs.Ends.{first_of, end_of, counted}
use package.Rattle.valuebytes.proofs.Whole.{ended, unended, rest_is}

----------------------------------------------------------------
-- So many values more

unfoldable pub plus : ℕ → Found ℕ → Found ℕ
plus n (Some m) = Some (n + m)
plus n None = None

plus_suc : (n : ℕ) (v : Val) (r : Option (List Val)) → plus n (counted (cons_to v r)) ≡ plus (n + 1) (counted r)
unfolding plus counted cons_to
plus_suc n v none = refl
plus_suc n v (some vs) = ap Some (let z : n + suc (length vs) ≡ n + 1 + length vs = omega arith in z)

-- `n` values are read, and those in the bytes `ys` are still to come
abbrev pub Counting : List ℕ → ℕ → List ℕ → Type 0
Counting xs n ys = plus n (counted (read_all (length xs - n) ys)) ≡ counted (ancillae xs)

----------------------------------------------------------------
-- The start and the end

ancillae-short : (xs : List ℕ) → length xs ≤ max_ancilla_bytes → ancillae xs ≡ read_all (length xs) xs
unfolding ancillae
ancillae-short xs h = rw (ancillae, le-leb (length xs) max_ancilla_bytes h)

ancillae-long : (xs : List ℕ) → max_ancilla_bytes < length xs → ancillae xs ≡ none
unfolding ancillae
ancillae-long xs h = rw (ancillae, lt-leb (length xs) max_ancilla_bytes h)

plus_none : (c : Found ℕ) → plus 0 c ≡ c
unfolding plus
plus_none (Some m) = ap Some (let z : 0 + m ≡ m = omega arith in z)
plus_none None = refl

pub count-start : (xs : List ℕ) → length xs ≤ max_ancilla_bytes → Counting xs 0 xs
count-start xs h =
    plus_none (counted (read_all (length xs - 0) xs)) ∙ ap (λ k. counted (read_all k xs)) (let z : length xs - 0 ≡ length xs = omega arith in z)
    ∙ ap counted (sym (ancillae-short xs h))

pub count_long : (xs : List ℕ) → max_ancilla_bytes < length xs → None ≡ counted (ancillae xs)
unfolding counted
count_long xs h = ap counted (sym (ancillae-long xs h))

pub count_done : (xs : List ℕ) (n at : ℕ) → length xs ≤ at → Counting xs n (drop at xs) → Some n ≡ counted (ancillae xs)
unfolding plus counted
count_done xs n at h s = sym (sym s ∙ rw (drop_of_length-le xs h, read_all_nil (length xs - n)) (ap Some (let z : n + 0 ≡ n = omega arith in z)))

----------------------------------------------------------------
-- One value more

-- the values from the first on, which was read so
from : ℕ → Read → Option (List Val)
from k (got v ys) = cons_to v (read_all k ys)
from k malformed = none

read_all_from : (k : ℕ) (ys : List ℕ) → 0 < length ys → read_all (suc k) ys ≡ from k (first_of ys)
unfolding read_all from
read_all_from k [] h = absurd (omega arith)
read_all_from k (y ∷ ys) h = go (first_of (y ∷ ys))
  where
    go : (r : Read) → elim r as (λ r. Option (List Val)) [ got v ys ↦ cons_to v (read_all k ys) | malformed ↦ none ] ≡ from k r
    go (got v ys) = refl
    go malformed = refl

module _ (xs : List ℕ) (n at : ℕ) (l : at < length xs) (below : n ≤ at) (s : Counting xs n (drop at xs)) where
  -- the next value is read off the front
  next : (r : Read) → first_of (drop at xs) ≡ r → plus n (counted (from (length xs - (n + 1)) r)) ≡ counted (ancillae xs)
  next r e =
      ap (λ r. plus n (counted (from (length xs - (n + 1)) r))) (sym e)
      ∙ ap (λ o. plus n (counted o)) (sym (read_all_from (length xs - (n + 1)) (drop at xs) (omega (arith, length-drop at xs))))
      ∙ ap (λ k. plus n (counted (read_all k (drop at xs)))) (let z : suc (length xs - (n + 1)) ≡ length xs - n = omega arith in z)
      ∙ s

  pub count-more : (e : ℕ) → Some e ≡ end_of at (first_of (drop at xs)) → Counting xs (n + 1) (drop e xs)
  unfolding from
  count-more e p = given (ended at e (first_of (drop at xs)) p) λ d.
      rw (rest_is xs at e d) (sym (plus_suc n d.value (read_all (length xs - (n + 1)) d.rest)) ∙ next (got d.value d.rest) d.is)

  -- what is no value within the limit is none, since all the bytes are within it
  pub count-stops : length xs ≤ max_value_bytes → None ≡ end_of at (first_of (drop at xs)) → None ≡ counted (ancillae xs)
  unfolding plus counted fits from
  count-stops h p = go (first_of (drop at xs)) refl
    where
      go : (r : Read) → first_of (drop at xs) ≡ r → None ≡ counted (ancillae xs)
      go (got v ys) e = absurd (unended at (first_of (drop at xs)) p e (leb_yes (size v) max_value_bytes
          (omega (arith, length-drop at xs, ap length (read-sound (length (drop at xs)) (drop at xs) e), length-encode-append v ys))))
      go malformed e = next malformed e
