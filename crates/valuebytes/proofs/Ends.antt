-- Where values end, how many there are, and the parts of a pair: what the code finds is what the calls' reader gives.
use Prim.Native.Nat.{ℕ, zero, suc, ◌+◌, ◌-◌, ◌^◌, ◌≤◌, ◌<◌}
use native.Mathlib.Decide.{dec_lt}
use Rattle.std.specs.Prelude.{min}
use native.Mathlib.Omega.{arith}
use native.Mathlib.Numerals.{add-one}
use mathlib.Core.Path.{◌≡◌, refl, sym, ap, ◌∙◌}
use mathlib.Core.Bool.{true, false}
use mathlib.Core.Option.{Option, none, some}
use mathlib.Core.List.{List, [], ◌∷◌}
use lib.ListN.{length, get_or, drop, drop_of_length-le}
use lib.Seq.{drop-cons}
use lib.Dec.{leb}
use borrow.Author.Tests.{le-leb, lt-leb}
use package.Rattle.rules.specs.Limits.{max_value_bytes, fits}
use package.Rattle.calls.specs.Values.{Read, got, malformed}
use Rattle.std.specs.Prelude.{Option as Found, Some, None}
use package.Rattle.valuebytes.specs.Ends.{pending, first_of, end_of}
use package.Rattle.valuebytes.proofs.Pending.{more, more-more, bytes_of, bytes_none, size_of, bytes-first, bytes-turn, bytes-over, bytes_some}

----------------------------------------------------------------
-- The end of a value, found by counting

-- the end of so many bytes from `at`, within the limit on values
unfoldable end_by : ℕ → Option ℕ → Found ℕ
end_by at none = None
end_by at (some m) = elim (leb m max_value_bytes) [ true ↦ Some (at + m) | false ↦ None ]

end_by_lem : (at : ℕ) (r : Read) → end_of at r ≡ end_by at (size_of r)
unfolding end_of end_by size_of fits
end_by_lem at (got v xs) = refl
end_by_lem at malformed = refl

-- `d` bytes of the value are read, and `count` values are still to come in the bytes `ys` behind them
abbrev pub Scanned : List ℕ → ℕ → List ℕ → ℕ → Type 0
Scanned xs d ys count = more d (bytes_of ys count) ≡ bytes_of xs 1

pub scan_start : (xs : List ℕ) (at : ℕ) → Scanned xs (at - at) xs 1
unfolding more
scan_start xs at = go (bytes_of xs 1)
  where
    go : (x : Option ℕ) → more (at - at) x ≡ x
    go none = refl
    go (some m) = ap some (let z : at - at + m ≡ m = omega arith in z)

module _ (xs : List ℕ) (at d : ℕ) (ys : List ℕ) (count : ℕ) (s : Scanned xs d ys count) where
  ends : end_of at (first_of xs) ≡ end_by at (more d (bytes_of ys count))
  ends = end_by_lem at (first_of xs) ∙ ap (end_by at) (sym (bytes-first xs) ∙ sym s)

  stops : bytes_of ys count ≡ none → None ≡ end_of at (first_of xs)
  unfolding end_by more
  stops e = sym (ends ∙ ap (λ x. end_by at (more d x)) e)

  -- the value is longer than the limit
  pub end-long : 0 < count → max_value_bytes ≤ d → None ≡ end_of at (first_of xs)
  unfolding end_by more
  end-long pos h = go (bytes_of ys count) refl
    where
      positive : (c m : ℕ) → 0 < c → bytes_of ys c ≡ some m → 0 < m
      positive zero m p e = absurd (omega arith)
      positive (suc c) m p e = bytes_some ys c e

      go : (x : Option ℕ) → bytes_of ys count ≡ x → None ≡ end_of at (first_of xs)
      go none e = stops e
      go (some m) e =
          sym (ends ∙ ap (λ x. end_by at (more d x)) e ∙ rw (end_by, lt-leb (d + m) max_value_bytes (omega (arith, positive count m pos e))))

  pub end_done : count ≤ 0 → d ≤ max_value_bytes → (i : ℕ) → at + d ≡ i → Some i ≡ end_of at (first_of xs)
  unfolding end_by more
  end_done z h i e =
      sym (ends ∙ ap (λ c. end_by at (more d (bytes_of ys c))) (let n : count ≡ 0 = omega arith in n) ∙ ap (λ x. end_by at (more d x)) (bytes_none ys)
      ∙ rw (end_by, le-leb (d + 0) max_value_bytes (omega arith)) (ap Some (let n : at + (d + 0) ≡ i = omega arith in n)))

-- at place `i` of the bytes `l`, of which those of the value start at `at`
module _ (l : List ℕ) (at i count : ℕ) (from : at ≤ i) (s : Scanned (drop at l) (i - at) (drop i l) count) where
  -- the bytes run out
  pub end_short : 0 < count → length l ≤ i → None ≡ end_of at (first_of (drop at l))
  unfolding bytes_of
  end_short pos h = stops (drop at l) at (i - at) (drop i l) count s (rw (drop_of_length-le l h) (go count pos))
    where
      go : (c : ℕ) → 0 < c → bytes_of [] c ≡ none
      go zero p = absurd (omega arith)
      go (suc c) p = refl

  -- a byte that begins no value
  pub end-over : 0 < count → i < length l → 4 < get_or l i 0 → None ≡ end_of at (first_of (drop at l))
  end-over pos h over = stops (drop at l) at (i - at) (drop i l) count s (rw (drop-cons l i 0 h) (go count pos))
    where
      go : (c : ℕ) → 0 < c → bytes_of (get_or l i 0 ∷ drop (suc i) l) c ≡ none
      go zero p = absurd (omega arith)
      go (suc c) p = bytes-over (get_or l i 0) (drop (suc i) l) c over

  -- one byte more
  pub scan_turn : (next : ℕ) → 0 < count → i < length l → get_or l i 0 ≤ 4 → next ≡ pending (get_or l i 0) (count - 1)
      → Scanned (drop at l) (i + 1 - at) (drop (i + 1) l) next
  scan_turn next pos h low e = rw (add-one i)
      (sym (more-more (i - at) 1 (suc i - at) (bytes_of (drop (suc i) l) next) (omega arith)) ∙ ap (more (i - at)) (sym (go count pos e)) ∙ s)
    where
      go : (c : ℕ) → 0 < c → next ≡ pending (get_or l i 0) (c - 1) → bytes_of (drop i l) c ≡ more 1 (bytes_of (drop (suc i) l) next)
      go zero p e = absurd (omega arith)
      go (suc c) p e = rw (drop-cons l i 0 h, e, let z : suc c - 1 ≡ c = omega arith in z) (bytes-turn (get_or l i 0) (drop (suc i) l) c low)

  -- the bytes that may be read end
  pub end_stopped : 0 < count → min (length l) (min (at + max_value_bytes) (2 ^ 64 - 1)) ≤ i → length l < 2 ^ 64 → None ≡ end_of at (first_of (drop at l))
  end_stopped pos h fits = go (dec_lt i (length l))
    where
      go : Dec (i < length l) → None ≡ end_of at (first_of (drop at l))
      go (yes p) = end-long (drop at l) at (i - at) (drop i l) count s pos (omega arith)
      go (no p) = end_short pos (omega arith)
