-- The first index at which a byte stands, as std's `position` says it.
use Rattle.std.proofs.Common.{◌≡◌, ◌+◌, ◌-◌, ◌≤◌, ◌∙◌, ℕ, suc, cond, true, false, Bool, List, length, take, drop, eqb, ltb, refl, sym, ap, arith, rules, tests, Option, Some, None}
use Rattle.std.specs.List.{position_or_len}
use Rattle.std.proofs.lemmas.List.{drop-take, length-take-le, length-drop}
use Rattle.std.proofs.lemmas.List.Sums.{prefix_len-le-length}
use Rattle.std.proofs.lemmas.List.Recursion.{is_position_or_len}
use package.Rattle.calltext.specs.Words.{index_of, slice}

-- `index_of` is std's `position_or_len`
index_is : (b : ℕ) (xs : List ℕ) → index_of b xs ≡ position_or_len (λ x. eqb x b) xs
unfolding index_of
index_is b xs = is_position_or_len (index_of b) (λ x. eqb x b) refl (λ x rest. by (eqb x b) (index_of b rest)) xs
  where
    by : (t : Bool) (n : ℕ) → cond t 0 (suc n) ≡ cond t 0 (1 + n)
    by true n = refl
    by false n = omega arith

index_within : (b : ℕ) (xs : List ℕ) → index_of b xs ≤ length xs
index_within b xs = rw (index_is b xs) (prefix_len-le-length _ xs)

-- a slice as code takes it
slice_is : (at end : ℕ) (xs : List ℕ) → at ≤ end → slice at end xs ≡ take (end - at) (drop at xs)
unfolding slice
slice_is at end xs h = ap (λ k. drop at (take k xs)) (let z : end ≡ at + (end - at) = omega arith in z) ∙ drop-take at (end - at) xs

-- what `position` answers of the place where a byte stands first
place_some : (b : ℕ) (xs : List ℕ) (i : ℕ) → Some i ≡ cond (ltb (position_or_len (λ x. eqb x b) xs) (length xs)) (Some (position_or_len (λ x. eqb x b) xs)) None → i ≡ index_of b xs
place_some b xs i e = by (ltb (position_or_len (λ x. eqb x b) xs) (length xs)) e ∙ sym (index_is b xs)
  where
    by : (t : Bool) → Some i ≡ cond t (Some (position_or_len (λ x. eqb x b) xs)) None → i ≡ position_or_len (λ x. eqb x b) xs
    by true e = cc
    by false e = cc

place_none : (b : ℕ) (xs : List ℕ) → None ≡ cond (ltb (position_or_len (λ x. eqb x b) xs) (length xs)) (Some (position_or_len (λ x. eqb x b) xs)) None → index_of b xs ≡ length xs
place_none b xs e =
    let far : length xs ≤ position_or_len (λ x. eqb x b) xs = by (ltb (position_or_len (λ x. eqb x b) xs) (length xs)) refl e in
    omega (arith, far, index_is b xs, index_within b xs)
  where
    by : (t : Bool) → ltb (position_or_len (λ x. eqb x b) xs) (length xs) ≡ t → None ≡ cond t (Some (position_or_len (λ x. eqb x b) xs)) None → length xs ≤ position_or_len (λ x. eqb x b) xs
    by true f e = cc
    by false f e = search (rules, tests)

-- the same of a part of a list
module _ (b : ℕ) (xs : List ℕ) (at end : ℕ) (r : Option ℕ) (within : at ≤ end) (inside : end ≤ length xs)
    (told : r ≡ cond (ltb (position_or_len (λ x. eqb x b) (take (end - at) (drop at xs))) (length (take (end - at) (drop at xs)))) (Some (position_or_len (λ x. eqb x b) (take (end - at) (drop at xs)))) None) where
  pub found : (n : ℕ) → r ≡ Some n → at + n ≡ at + index_of b (slice at end xs)
  found n e = rw (slice_is at end xs within) (ap (λ k. at + k) (place_some b (take (end - at) (drop at xs)) n (sym e ∙ told)))

  pub not_found : r ≡ None → end ≡ at + index_of b (slice at end xs)
  not_found e =
      rw (slice_is at end xs within)
      (omega (
        arith,
        place_none b (take (end - at) (drop at xs)) (sym e ∙ told),
        length-take-le (end - at) (drop at xs) (let z : end - at ≤ length (drop at xs) = omega (arith, length-drop at xs) in z),
      ))
