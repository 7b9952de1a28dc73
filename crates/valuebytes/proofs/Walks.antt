-- Values one after another, as ancillae are given (section 1): where each begins, read one by one.
use Prim.Native.Nat.{ℕ, suc, ◌+◌, ◌≤◌, ◌<◌}
use native.Mathlib.Omega.{arith}
use native.Mathlib.Decide.{dec_lt}
use mathlib.Core.Path.{◌≡◌, sym, ap, ◌∙◌}
use mathlib.Core.Bool.{true}
use mathlib.Core.Option.{some}
use mathlib.Core.List.{List, [], ◌++◌}
use lib.ListN.{length, get_or, drop, length-drop, drop_of_length-le}
use lib.Seq.{drop-cons, drop_at, drop-drop}
use package.Rattle.rules.specs.Limits.{max_value_bytes, max_ancilla_bytes, fits}
use package.Rattle.rules.specs.Val.{Val, unit, size, encode}
use package.Rattle.rules.proofs.Basics.{given}
use package.Rattle.rules.proofs.Val.{length-encode}
use package.Rattle.rules.proofs.Typing.Tests.{leb_yes}
use package.Rattle.calls.specs.Values.{got, encode_all, ancillae}
use package.Rattle.calls.proofs.Values.{size-positive, length-encode-append, ancillae-sound}
use package.Rattle.valuebytes.specs.Ends.{first_of}
use package.Rattle.valuebytes.proofs.Whole.{first_is}

-- Value `k` of `vs` begins at place `at` of the bytes; after the last, nothing is left.
pub record Begins (xs : List ℕ) (vs : List Val) (k at : ℕ) : Type 0 where
  pub bytes : drop at xs ≡ encode_all (drop k vs)
  pub short : length xs ≤ max_value_bytes

pub walk_start : (xs : List ℕ) {vs : List Val} → ancillae xs ≡ some vs → Begins xs vs 0 0
unfolding max_value_bytes max_ancilla_bytes
walk_start xs e = given (ancillae-sound xs e) λ (b, s). record { bytes = b; short = s }

module _ {xs : List ℕ} {vs : List Val} {k at : ℕ} (b : Begins xs vs k at) where
  -- there is a value to come exactly if there are bytes to come
  pub walk_done : length xs ≤ at → length vs ≤ k
  unfolding encode_all
  walk_done h = go (dec_lt k (length vs))
    where
      none_left : encode_all (drop k vs) ≡ []
      none_left = sym b.bytes ∙ drop_of_length-le xs h

      go : Dec (k < length vs) → length vs ≤ k
      go (yes l) = absurd (
          let z : size (get_or vs k unit) + length (encode_all (drop (suc k) vs)) ≡ 0 =
          sym (length-encode-append (get_or vs k unit) (encode_all (drop (suc k) vs))) ∙ ap (λ l. length (encode_all l)) (sym (drop-cons vs k unit l)) ∙ ap length none_left in
          omega (arith, size-positive (get_or vs k unit)))
      go (no l) = omega arith

  pub walk_more : at < length xs → k < length vs
  unfolding encode_all
  walk_more h = go (dec_lt k (length vs))
    where
      go : Dec (k < length vs) → k < length vs
      go (yes l) = l
      go (no l) = absurd (
          let z : length (drop at xs) ≡ 0 = ap length b.bytes ∙ ap (λ l. length (encode_all l)) (drop_of_length-le vs {i = k} (omega arith)) in
          omega (arith, length-drop at xs))

  module _ (l : k < length vs) where
    abbrev here : Val
    here = get_or vs k unit

    split : drop at xs ≡ encode here ++ encode_all (drop (suc k) vs)
    unfolding encode_all
    split = b.bytes ∙ ap encode_all (drop-cons vs k unit l)

    -- it is what is read there
    pub walk_first : first_of (drop at xs) ≡ got (get_or vs k unit) (encode_all (drop (suc k) vs))
    walk_first = first_is (drop at xs) split

    long : length (drop at xs) ≡ size here + length (encode_all (drop (suc k) vs))
    long = ap length split ∙ length-encode-append here (encode_all (drop (suc k) vs))

    pub walk_inside : at + size (get_or vs k unit) ≤ length xs
    walk_inside = omega (arith, long, length-drop at xs, size-positive here)

    pub walk_fits : fits (get_or vs k unit) ≡ true
    unfolding fits
    walk_fits = leb_yes (size here) max_value_bytes (omega (arith, walk_inside, b.short))

    -- and the next begins behind it
    pub walk_next : {next : ℕ} → next ≡ at + size (get_or vs k unit) → Begins xs vs (suc k) next
    walk_next {next} e = record {
      bytes = ap (λ n. drop n xs) e ∙ sym (drop-drop (size here) at xs) ∙ ap (drop (size here)) split
          ∙ drop_at (encode here) (encode_all (drop (suc k) vs)) (size here) (length-encode here);
      short = b.short;
    }
