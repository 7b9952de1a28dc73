-- Rows whose numbers agree say the same, and lists of what rows say.
use Prim.Native.Nat.{ℕ, zero, suc, ◌+◌, ◌*◌, ◌-◌, ◌≤◌, ◌<◌, min}
use native.Mathlib.Omega.{arith}
use native.Mathlib.Decide.{dec_lt}
use mathlib.Core.Path.{◌≡◌, refl, sym, ap, ap₂, subst, ◌∙◌}
use mathlib.Core.Bool.{true}
use mathlib.Core.Option.{some}
use mathlib.Core.List.{List, [], ◌∷◌, map}
use lib.ListN.{length, get_or, get_or-eq_default}
use package.Rattle.rules.specs.Term.{nth}
use package.Rattle.calls.specs.Entries.{n_unit, term_of_kind}
use package.Rattle.calls.specs.Named.{terms_of_term, below}
use package.Rattle.calls.specs.Tested.{LowerTerms}
use package.Rattle.decoded.specs.Rows.{row_numbers, function_rows, room_for, kind_in, first_in, second_in, third_in, argument_in, arguments_in}
use package.Rattle.decoded.specs.Rows.{ancillae_in, parameters_in, body_in, entry_in, function_in, listed, names_in}
use package.Rattle.varsets.specs.Sets.{of_halves}

----------------------------------------------------------------
-- Rows that agree

-- row `r` is the same in both
pub record Same (code code' : List ℕ) (r : ℕ) : Type 0 where
  pub number : (j : ℕ) → j < row_numbers → get_or code' (row_numbers * r + j) 0 ≡ get_or code (row_numbers * r + j) 0

module _ {code code' : List ℕ} {r : ℕ} (same : Same code code' r) where
  pub kind-same : kind_in code' r ≡ kind_in code r
  unfolding kind_in
  kind-same = rw (let z : row_numbers * r + 0 ≡ row_numbers * r = omega arith in z) at (same.number 0 (omega arith))

  pub first-same : first_in code' r ≡ first_in code r
  unfolding first_in
  first-same = same.number 1 (omega arith)

  pub second-same : second_in code' r ≡ second_in code r
  unfolding second_in
  second-same = same.number 2 (omega arith)

  pub third-same : third_in code' r ≡ third_in code r
  unfolding third_in
  third-same = same.number 3 (omega arith)

  argument-same : (k : ℕ) → k ≤ room_for → argument_in code' r k ≡ argument_in code r k
  unfolding argument_in
  argument-same k h = let z : row_numbers * r + 4 + k ≡ row_numbers * r + (4 + k) = omega arith in rw z (same.number (4 + k) (omega arith))

  pub names_same : names_in code' r ≡ names_in code r
  unfolding names_in
  names_same = ap₂ of_halves (argument-same 0 (omega arith)) (argument-same 1 (omega arith))

  arguments-same : (k n : ℕ) → k + n ≤ room_for + 1 → arguments_in code' r k n ≡ arguments_in code r k n
  unfolding arguments_in
  arguments-same k zero h = refl
  arguments-same k (suc n) h = ap₂ ◌∷◌ (argument-same k (omega arith)) (arguments-same (k + 1) n (omega arith))

  pub entry-same : entry_in code' r ≡ entry_in code r
  unfolding entry_in ancillae_in
  entry-same =
      rw (kind-same, first-same, second-same, third-same)
      (ap₂ (term_of_kind (kind_in code r) (first_in code r) (second_in code r) (third_in code r) (first_in code r))
      (arguments-same 0 (min room_for (third_in code r)) (omega arith)) (argument-same (min room_for (third_in code r)) (omega arith)))

pub function-same : {code code' : List ℕ} (g : ℕ) → Same code code' (function_rows + g) → function_in code' g ≡ function_in code g
unfolding function_in parameters_in body_in
function-same {code} {code'} g same =
    rw (kind-same same, first-same same, second-same same)
    (ap₂ (λ (ts : List ℕ) (t : ℕ). record { result = second_in code (function_rows + g); ancillae = ts; dynamic = t; body = first_in code (function_rows + g) })
    (arguments-same same 0 (min room_for (kind_in code (function_rows + g) - 1)) (omega arith))
    (argument-same same (min room_for (kind_in code (function_rows + g) - 1)) (omega arith)))

----------------------------------------------------------------
-- Lists of what rows say

pub length-listed : {A : Type 0} (f : ℕ → A) (i n : ℕ) → length (listed f i n) ≡ n
unfolding listed
length-listed f i zero = refl
length-listed f i (suc n) = ap suc (length-listed f (i + 1) n)

pub get_listed : {A : Type 0} (f : ℕ → A) (i n k : ℕ) (d : A) → k < n → get_or (listed f i n) k d ≡ f (i + k)
unfolding listed
get_listed f i zero k d h = absurd (omega arith)
get_listed f i (suc n) zero d h = ap f (let z : i ≡ i + 0 = omega arith in z)
get_listed f i (suc n) (suc k) d h = get_listed f (i + 1) n k d (omega arith) ∙ ap f (let z : i + 1 + k ≡ i + suc k = omega arith in z)

pub nth-listed : {A : Type 0} (f : ℕ → A) (i n k : ℕ) → k < n → nth (listed f i n) k ≡ some (f (i + k))
unfolding listed nth
nth-listed f i zero k h = absurd (omega arith)
nth-listed f i (suc n) zero h = ap (λ i. some (f i)) (let z : i ≡ i + 0 = omega arith in z)
nth-listed f i (suc n) (suc k) h = nth-listed f (i + 1) n k (omega arith) ∙ ap (λ i. some (f i)) (let z : i + 1 + k ≡ i + suc k = omega arith in z)

-- what rows say, by the offsets of the entries that they are of
pub listed-map : {A : Type 0} (f g : ℕ → A) (xs : List ℕ) (i : ℕ) → ((k : ℕ) → k < length xs → f (i + k) ≡ g (get_or xs k 0)) → listed f i (length xs) ≡ map g xs
unfolding listed
listed-map f g [] i h = refl
listed-map f g (x ∷ xs) i h =
    ap₂ ◌∷◌ (ap f (let z : i ≡ i + 0 = omega arith in z) ∙ h 0 (omega arith))
    (listed-map f g xs (i + 1) (λ k l. ap f (let z : i + 1 + k ≡ i + suc k = omega arith in z) ∙ h (suc k) (omega arith)))

----------------------------------------------------------------
-- Entries of rows

module _ (code : List ℕ) (n : ℕ) where
  pub listed-entry : (t : ℕ) → t < n → get_or (listed (entry_in code) 0 n) t n_unit ≡ entry_in code t
  listed-entry t l = get_listed (entry_in code) 0 n t n_unit l ∙ ap (entry_in code) (let z : 0 + t ≡ t = omega arith in z)

  -- every row names lower terms, and where there is none, no term is named
  pub listed-lower : ((t : ℕ) → t < n → below t (terms_of_term (entry_in code t)) ≡ true) → LowerTerms (listed (entry_in code) 0 n)
  unfolding terms_of_term below
  listed-lower low t = go (dec_lt t n)
    where
      go : Dec (t < n) → below t (terms_of_term (get_or (listed (entry_in code) 0 n) t n_unit)) ≡ true
      go (yes l) = subst (λ x. below t (terms_of_term x) ≡ true) (sym (listed-entry t l)) (low t l)
      go (no l) =
          subst (λ x. below t (terms_of_term x) ≡ true)
          (sym (get_or-eq_default (listed (entry_in code) 0 n) n_unit {n = t}
          (let z : length (listed (entry_in code) 0 n) ≡ n = length-listed (entry_in code) 0 n in omega arith))) refl
