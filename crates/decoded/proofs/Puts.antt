-- Numbers put into a row: the four at its head, and the references behind them.
use Prim.Native.Nat.{ℕ, ◌+◌, ◌*◌, ◌≤◌, ◌<◌}
use native.Mathlib.Omega.{arith}
use native.Mathlib.Decide.{dec_lt}
use mathlib.Core.Path.{◌≡◌, ◌∙◌}
use mathlib.Core.Logic.{◌⊎◌, ⊎_elim, inl as left, inr as right}
use mathlib.Core.List.{List}
use lib.ListN.{length, get_or, set, length-set}
use lib.Seq.{get_or-set_same, get_or-set_other}
use package.Rattle.octets.specs.Numbers.{get16}
use package.Rattle.decoded.specs.Rows.{row_numbers, kind_in, first_in, second_in, third_in, argument_in}
use package.Rattle.decoded.specs.Decoding.{Heads, Listed}

----------------------------------------------------------------
-- The head of a row

module _ (code : List ℕ) (r kind a b c : ℕ) (room : row_numbers * r + 4 ≤ length code) where
  abbrev one : List ℕ
  one = set code (row_numbers * r) kind

  abbrev two : List ℕ
  two = set one (row_numbers * r + 1) a

  abbrev three : List ℕ
  three = set two (row_numbers * r + 2) b

  abbrev four : List ℕ
  four = set three (row_numbers * r + 3) c

  -- a number that none of these stores is at
  pub beside_head : (j : ℕ) → (j < row_numbers * r) ⊎ (row_numbers * r + 4 ≤ j) → get_or four j 0 ≡ get_or code j 0
  beside_head j h =
      get_or-set_other three (row_numbers * r + 3) j c 0 (λ e. ⊎_elim (λ l. omega arith) (λ l. omega arith) h)
      ∙ get_or-set_other two (row_numbers * r + 2) j b 0 (λ e. ⊎_elim (λ l. omega arith) (λ l. omega arith) h)
      ∙ get_or-set_other one (row_numbers * r + 1) j a 0 (λ e. ⊎_elim (λ l. omega arith) (λ l. omega arith) h)
      ∙ get_or-set_other code (row_numbers * r) j kind 0 (λ e. ⊎_elim (λ l. omega arith) (λ l. omega arith) h)

  pub heads : Heads code four r kind a b c
  unfolding kind_in first_in second_in third_in
  heads = record {
    lengths = simp length-set;
    kind_is = get_or-set_other three (row_numbers * r + 3) (row_numbers * r) c 0 (λ e. omega arith)
        ∙ get_or-set_other two (row_numbers * r + 2) (row_numbers * r) b 0 (λ e. omega arith)
        ∙ get_or-set_other one (row_numbers * r + 1) (row_numbers * r) a 0 (λ e. omega arith)
        ∙ get_or-set_same code (row_numbers * r) kind 0 (omega arith);
    first_is = get_or-set_other three (row_numbers * r + 3) (row_numbers * r + 1) c 0 (λ e. omega arith)
        ∙ get_or-set_other two (row_numbers * r + 2) (row_numbers * r + 1) b 0 (λ e. omega arith)
        ∙ get_or-set_same one (row_numbers * r + 1) a 0 (simp length-set (omega arith));
    second_is = get_or-set_other three (row_numbers * r + 3) (row_numbers * r + 2) c 0 (λ e. omega arith)
        ∙ get_or-set_same two (row_numbers * r + 2) b 0 (simp length-set (omega arith));
    third_is = get_or-set_same three (row_numbers * r + 3) c 0 (simp length-set (omega arith));
    others = beside_head;
  }

----------------------------------------------------------------
-- References behind it

-- one more
pub listed_more : {code code' code'' : List ℕ} {r : ℕ} {p : List ℕ} {i n x at : ℕ} → Listed code code' r p i n → at ≡ row_numbers * r + 4 + n
    → at < length code' → x ≡ get16 p (i + 2 * n)
    → code'' ≡ set code' at x → Listed code code'' r p i (n + 1)
unfolding argument_in
listed_more {code} {code'} {code''} {r} {p} {i} {n} {x} {at} L here room e s = record {
  lengths = rw s (length-set code' at x ∙ L.lengths);
  arguments = λ k l. rw s (argument k (dec_lt k n) l);
  others = λ j h. rw s (get_or-set_other code' at j x 0 (λ q. ⊎_elim (λ l. omega arith) (λ l. omega arith) h)
      ∙ L.others j (⊎_elim (λ l. left l) (λ l. right (omega arith)) h));
}
  where
    argument : (k : ℕ) → Dec (k < n) → k < n + 1 → get_or (set code' at x) (row_numbers * r + 4 + k) 0 ≡ get16 p (i + 2 * k)
    argument k (yes l) h = get_or-set_other code' at (row_numbers * r + 4 + k) x 0 (λ q. omega arith) ∙ L.arguments k l
    argument k (no l) h =
        let q : k ≡ n = omega arith in
        let z : row_numbers * r + 4 + k ≡ at = omega arith in rw (z, q) (get_or-set_same code' at x 0 room ∙ e)
