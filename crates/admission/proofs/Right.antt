-- Values within the limits, and in number (10): what the counts say of the bytes.
use Prim.Native.Nat.{ℕ}
use native.Mathlib.Omega.{arith}
use mathlib.Core.Path.{◌≡◌, refl, sym, ap, ◌∙◌}
use mathlib.Core.Bool.{Bool, true, false, false≢true}
use mathlib.Core.Option.{Option, none, some}
use mathlib.Core.List.{List}
use lib.ListN.{length}
use lib.Dec.{eqb}
use package.Rattle.rules.specs.Val.{Val}
use package.Rattle.rules.proofs.Basics.{eqb-sound}
use package.Rattle.calls.specs.Entries.{FunctionEntry, function_at}
use package.Rattle.calls.specs.Values.{value, ancillae}
use package.Rattle.calls.specs.Book.{or_unit, or_none}
use Rattle.std.specs.Prelude.{Some, None}
use package.Rattle.valuebytes.specs.Ends.{is_some, is_value, counted}
use package.Rattle.admission.specs.Admitting.{in_number, right_in}

----------------------------------------------------------------
-- What the counts say

malformed≢values : {n : ℕ} → None ≡ Some n → ⊥
malformed≢values e = let z : ◌≡◌ {A = ℕ} 0 1 = cc in omega arith

values_inj : {n m : ℕ} → Some n ≡ Some m → n ≡ m
values_inj e = cc

none_counted : (o : Option (List Val)) (v? : Option Val) (n : ℕ) → None ≡ counted o → false ≡ in_number o v? n
unfolding counted in_number
none_counted none v? n e = refl
none_counted (some vs) v? n e = absurd (malformed≢values e)

no_value : (o : Option (List Val)) (v? : Option Val) (n : ℕ) → is_some v? ≡ false → false ≡ in_number o v? n
unfolding in_number
no_value none v? n e = refl
no_value (some vs) none n e = refl
no_value (some vs) (some v) n e = absurd (false≢true (sym e))

all-counted : (o : Option (List Val)) (v? : Option Val) (n m : ℕ) → Some m ≡ counted o → is_some v? ≡ true → eqb m n ≡ in_number o v? n
unfolding counted in_number
all-counted none v? n m e s = absurd (malformed≢values (sym e))
all-counted (some vs) none n m e s = absurd (false≢true s)
all-counted (some vs) (some v) n m e s = ap (λ m. eqb m n) (values_inj e)

module _ (anc bytes xs : List ℕ) (at : ℕ) where
  abbrev h : FunctionEntry
  h = function_at xs at

  pub right_none : None ≡ counted (ancillae anc) → false ≡ right_in anc bytes h
  right_none e = none_counted (ancillae anc) (value bytes) (length h.ancillae) e

  pub right_not : {b : Bool} → b ≡ is_value bytes → b ≡ false → false ≡ right_in anc bytes h
  right_not e f = no_value (ancillae anc) (value bytes) (length h.ancillae) (sym e ∙ f)

  pub right-number : {b : Bool} {m n : ℕ} → Some m ≡ counted (ancillae anc) → b ≡ is_value bytes → b ≡ true → n ≡ length h.ancillae
      → eqb m n ≡ right_in anc bytes h
  right-number {b} {m} {n} e q t l =
      ap (eqb m) l ∙ all-counted (ancillae anc) (value bytes) (length h.ancillae) m e (sym q ∙ t)

----------------------------------------------------------------
-- What is right

pub record Read (as? : Option (List Val)) (v? : Option Val) (n : ℕ) : Type 0 where
  pub ancillae_read : as? ≡ some (or_none as?)
  pub value_read : v? ≡ some (or_unit v?)
  pub number : length (or_none as?) ≡ n

right-read : (as? : Option (List Val)) (v? : Option Val) (n : ℕ) → in_number as? v? n ≡ true → Read as? v? n
unfolding in_number or_none or_unit
right-read none v? n e = absurd (false≢true e)
right-read (some vs) none n e = absurd (false≢true e)
right-read (some vs) (some v) n e = record { ancillae_read = refl; value_read = refl; number = eqb-sound (length vs) n e }

module _ (anc bytes xs : List ℕ) (at : ℕ) (e : right_in anc bytes (function_at xs at) ≡ true) where
  pub right-values : Read (ancillae anc) (value bytes) (length (function_at xs at).ancillae)
  right-values = right-read (ancillae anc) (value bytes) (length (function_at xs at).ancillae) e

  pub right-value : is_value bytes ≡ true
  right-value = ap is_some right-values.value_read
