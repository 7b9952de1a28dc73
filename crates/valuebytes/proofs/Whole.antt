-- Bytes that are one value within the limit, what an end that was found says of them, and the parts of a pair.
use Prim.Native.Nat.{ℕ, suc, ◌+◌, ◌-◌, ◌≤◌, ◌<◌}
use native.Mathlib.Omega.{arith}
use mathlib.Core.Path.{◌≡◌, refl, sym, ap, subst, ◌∙◌}
use mathlib.Core.Bool.{Bool, true, false, false≢true}
use mathlib.Core.Option.{Option, none, some}
use mathlib.Core.List.{List, [], ◌∷◌, ◌++◌, append-nil}
use lib.ListN.{length, get_or, take, drop, length-drop}
use lib.Seq.{take_all, take_at, drop_at, drop-drop}
use lib.Dec.{eqb}
use package.Rattle.rules.specs.Limits.{max_value_bytes, fits}
use package.Rattle.rules.specs.Val.{Val, unit, inl, inr, pair, roll, size, encode}
use package.Rattle.rules.proofs.Basics.{given, eqb_yes, eqb-sound}
use package.Rattle.rules.proofs.Val.{length-encode}
use package.Rattle.rules.proofs.Typing.Tests.{leb_yes, leb-sound, bool_ext}
use package.Rattle.calls.specs.Values.{Read, got, malformed, value}
use package.Rattle.calls.proofs.Values.{read-encode, read-sound, value-encode, value-sound, size-positive, length-encode-append, got-value}
use Rattle.std.specs.Prelude.{Option as Found, Some, None, IsSome}
use Rattle.std.specs.Option.{option_eq}
use package.Rattle.valuebytes.specs.Ends.{first_of, end_of, is_some, is_value, part_of}

----------------------------------------------------------------
-- An end that was found

-- what was read from place `at` is a value within the limit that ends at `e`
pub record Ended (at e : ℕ) (r : Read) : Type 0 where
  pub value : Val
  pub rest : List ℕ
  pub is : r ≡ got value rest
  pub small : fits value ≡ true
  pub place : e ≡ at + size value

malformed≢at : {e : ℕ} → Some e ≡ None → ⊥
malformed≢at p = let z : ◌≡◌ {A = ℕ} 0 1 = cc in omega arith

at_inj : {a b : ℕ} → Some a ≡ Some b → a ≡ b
at_inj p = cc

pub ended : (at e : ℕ) (r : Read) → Some e ≡ end_of at r → Ended at e r
unfolding end_of
ended at e (got v xs) p = go (fits v) refl p
  where
    go : (b : Bool) → fits v ≡ b → Some e ≡ elim b as (λ b. Found ℕ) [ true ↦ Some (at + size v) | false ↦ None ] → Ended at e (got v xs)
    go true f p = record { value = v; rest = xs; is = refl; small = f; place = at_inj p }
    go false f p = absurd (malformed≢at p)
ended at e malformed p = absurd (malformed≢at p)

-- no end was found
pub unended : (at : ℕ) (r : Read) {v : Val} {xs : List ℕ} → None ≡ end_of at r → r ≡ got v xs → fits v ≡ true → ⊥
unfolding end_of
unended at r {v} {xs} p e f = malformed≢at (sym (p ∙ ap (end_of at) e ∙ found))
  where
    found : end_of at (got v xs) ≡ Some (at + size v)
    found = rw (end_of, f)

----------------------------------------------------------------
-- One value

-- the bytes are those of a value within the limit
pub record Whole (xs : List ℕ) (v : Val) : Type 0 where
  pub is : value xs ≡ some v
  pub bytes : xs ≡ encode v
  pub small : fits v ≡ true

pub whole : (xs : List ℕ) → is_value xs ≡ true → (v : Val) × Whole xs v
whole xs e = go (value xs) refl e
  where
    go : (o : Option Val) → value xs ≡ o → is_some o ≡ true → (v : Val) × Whole xs v
    go none p e = absurd (false≢true e)
    go (some v) p e = given (value-sound xs p) λ (q, f). (v, record { is = p; bytes = q; small = f })

pub whole_of : {xs : List ℕ} {v : Val} → xs ≡ encode v → fits v ≡ true → Whole xs v
whole_of {xs} {v} e f = record { is = ap value e ∙ value-encode v f; bytes = e; small = f }

pub is_value_lem : {xs : List ℕ} {v : Val} → Whole xs v → is_value xs ≡ true
is_value_lem w = ap is_some w.is

-- the first value of bytes that begin with it
pub first_is : (xs : List ℕ) {v : Val} {ys : List ℕ} → xs ≡ encode v ++ ys → first_of xs ≡ got v ys
first_is xs {v} {ys} e = ap first_of e ∙ read-encode v _ ys (omega (arith, length-encode-append v ys))

pub first_whole : {xs : List ℕ} {v : Val} → Whole xs v → first_of xs ≡ got v []
first_whole {xs} {v} w = first_is xs (w.bytes ∙ sym (append-nil (encode v)))

length_none : (xs : List ℕ) → length xs ≡ 0 → xs ≡ []
length_none [] e = refl
length_none (x ∷ xs) e = absurd (let z : suc (length xs) ≡ 0 = e in omega arith)

-- an end was found: at the end of the bytes, if they are one value
value-at : (xs : List ℕ) (e : ℕ) → Some e ≡ end_of 0 (first_of xs) → eqb e (length xs) ≡ is_value xs
value-at xs e p = given (ended 0 e (first_of xs) p) λ d.
    let long : length xs ≡ size d.value + length d.rest = ap length (read-sound (length xs) xs d.is) ∙ length-encode-append d.value d.rest in
    bool_ext (eqb e (length xs)) (is_value xs)
    (λ q.
    let none_left : length d.rest ≡ 0 = omega (arith, eqb-sound e (length xs) q, d.place, long) in
    is_value_lem (whole_of (read-sound (length xs) xs d.is ∙ ap (λ r. encode d.value ++ r) (length_none d.rest none_left) ∙ append-nil (encode d.value)) d.small))
    (λ q. given (whole xs q) λ (v, w).
    let same : size v ≡ size d.value = ap size (got-value (sym (first_whole w) ∙ d.is)) in
    let z : e ≡ length xs = omega (arith, same, d.place, ap length w.bytes, length-encode v) in
    subst (λ n. eqb e n ≡ true) z (eqb_yes e))

value_not : (xs : List ℕ) → None ≡ end_of 0 (first_of xs) → false ≡ is_value xs
value_not xs p = go (is_value xs) refl
  where
    go : (b : Bool) → is_value xs ≡ b → false ≡ b
    go true q = given (whole xs q) λ (v, w). absurd (unended 0 (first_of xs) p (first_whole w) w.small)
    go false q = refl

pub value-ends : (xs : List ℕ) (end : Found ℕ) → end ≡ end_of 0 (first_of xs) → option_eq eqb end (Some (length xs)) ≡ is_value xs
value-ends xs None p = value_not xs p
value-ends xs (Some e) p = value-at xs e p

----------------------------------------------------------------
-- What is behind a value

pub rest_is : (l : List ℕ) (at e : ℕ) (d : Ended at e (first_of (drop at l))) → drop e l ≡ d.rest
rest_is l at e d =
    ap (λ n. drop n l) d.place ∙ sym (drop-drop (size d.value) at l)
    ∙ ap (drop (size d.value)) (read-sound (length (drop at l)) (drop at l) d.is)
    ∙ drop_at (encode d.value) d.rest (size d.value) (length-encode d.value)

pub end-within : (l : List ℕ) (at e : ℕ) → Ended at e (first_of (drop at l)) → (at < e) × (e ≤ length l)
end-within l at e d =
    let long : length (drop at l) ≡ size d.value + length d.rest =
    ap length (read-sound (length (drop at l)) (drop at l) d.is) ∙ length-encode-append d.value d.rest in
    (omega (arith, d.place, size-positive d.value), omega (arith, d.place, size-positive d.value, long, length-drop at l))

----------------------------------------------------------------
-- The parts of a pair

-- the bytes are those of a pair within the limit
pub record Pair (xs : List ℕ) : Type 0 where
  pub first : Val
  pub second : Val
  pub whole : Whole xs (pair first second)

pub is_pair : (xs : List ℕ) → is_value xs ≡ true → get_or xs 0 0 ≡ 3 → Pair xs
unfolding encode
is_pair xs e t = given (whole xs e) λ (v, w). go v w (sym (ap (λ xs. get_or xs 0 0) w.bytes) ∙ t)
  where
    go : (v : Val) → Whole xs v → get_or (encode v) 0 0 ≡ 3 → Pair xs
    go unit w t = absurd (omega arith)
    go (inl v) w t = absurd (omega arith)
    go (inr v) w t = absurd (omega arith)
    go (pair v u) w t = record { first = v; second = u; whole = w }
    go (roll v) w t = absurd (omega arith)

-- a part of a value within the limit is within it
pub smaller : (v w : Val) → size v ≤ size w → fits w ≡ true → fits v ≡ true
unfolding fits
smaller v w h f = leb_yes (size v) max_value_bytes (omega (arith, leb-sound (size w) max_value_bytes f))

module _ (xs : List ℕ) (e : is_value xs ≡ true) (t : get_or xs 0 0 ≡ 3) where
  -- where the first component ends
  pub pair_end : (m : ℕ) → Some m ≡ end_of 1 (first_of (drop 1 xs)) → m ≡ 1 + size (is_pair xs e t).first
  unfolding encode
  pair_end m p = given (ended 1 m (first_of (drop 1 xs)) p) λ d. d.place ∙ ap (λ v. 1 + size v) (got-value (sym d.is ∙ first_component))
    where
      first_component : first_of (drop 1 xs) ≡ got (is_pair xs e t).first (encode (is_pair xs e t).second)
      first_component = first_is (drop 1 xs) (ap (drop 1) (is_pair xs e t).whole.bytes)

  pair-unended : None ≡ end_of 1 (first_of (drop 1 xs)) → ⊥
  unfolding encode size
  pair-unended p =
      let P = is_pair xs e t in
      unended 1 (first_of (drop 1 xs)) p (first_is (drop 1 xs) {v = P.first} {ys = encode P.second} (ap (drop 1) P.whole.bytes))
      (smaller P.first (pair P.first P.second) (omega arith) P.whole.small)

  pub pair-ends : (end : Found ℕ) → end ≡ end_of 1 (first_of (drop 1 xs)) → IsSome end
  pair-ends None p = absurd (pair-unended p)
  pair-ends (Some m) p = refl

  pub pair-within : (m : ℕ) → Some m ≡ end_of 1 (first_of (drop 1 xs)) → (1 ≤ m) × (m ≤ length xs)
  unfolding size
  pair-within m p =
      let P = is_pair xs e t in
      (omega (arith, pair_end m p), omega (arith, pair_end m p, ap length P.whole.bytes, length-encode (pair P.first P.second)))

  pub part-first : (m : ℕ) (b : Bool) → Some m ≡ end_of 1 (first_of (drop 1 xs)) → b ≡ false → take (m - 1) (drop 1 xs) ≡ part_of b (value xs)
  unfolding encode part_of
  part-first m b p f =
      let P = is_pair xs e t in
      ap (λ n. take n (drop 1 xs)) (let z : m - 1 ≡ size P.first = omega (arith, pair_end m p) in z)
      ∙ ap (λ l. take (size P.first) (drop 1 l)) P.whole.bytes
      ∙ take_at (encode P.first) (encode P.second) (size P.first) (length-encode P.first)
      ∙ sym (rw (f, P.whole.is))

  pub part-second : (m : ℕ) (b : Bool) → Some m ≡ end_of 1 (first_of (drop 1 xs)) → b ≡ true
      → take (length xs - m) (drop m xs) ≡ part_of b (value xs)
  unfolding encode part_of
  part-second m b p f =
      let P = is_pair xs e t in
      take_all (length xs - m) (drop m xs) (omega (arith, length-drop m xs))
      ∙ ap (λ n. drop n xs) (let z : m ≡ suc (size P.first) = omega (arith, pair_end m p) in z)
      ∙ ap (drop (suc (size P.first))) P.whole.bytes
      ∙ drop_at (encode P.first) (encode P.second) (size P.first) (length-encode P.first)
      ∙ sym (rw (f, P.whole.is))

-- each part of a pair, by its bytes
pub parts_are : (v w : Val) → fits (pair v w) ≡ true → (part_of false (value (encode (pair v w))) ≡ encode v) × (part_of true (value (encode (pair v w))) ≡ encode w)
unfolding part_of
parts_are v w f = (ap (part_of false) (value-encode (pair v w) f), ap (part_of true) (value-encode (pair v w) f))
