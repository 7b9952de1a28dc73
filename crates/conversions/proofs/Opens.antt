-- Laws of open.
use Prim.Native.Nat.{ℕ, ◌≤◌}
use native.Mathlib.Omega.{arith}
use mathlib.Core.Path.{◌≡◌, refl, sym, subst, ◌∙◌}
use mathlib.Core.Bool.{Bool, true, false, false≢true}
use mathlib.Core.Option.{Option, none, some}
use Rattle.std.specs.Prelude.{Result, Ok, Err}
use mathlib.Core.List.{List}
use lib.ListN.{length}
use lib.Dec.{leb}
use package.Rattle.rules.specs.Val.{Val}
use package.Rattle.rules.proofs.Typing.Tests.{leb-sound}
use package.Rattle.calls.specs.Answer.{Answer, accepted, refused}
use package.Rattle.calls.specs.Values.{value}
use package.Rattle.calls.specs.Journal.{Journal, fields, write_out}
use package.Rattle.calls.specs.Conversions.{kept}
use package.Rattle.calls.specs.Book.{after_open, or_unit}
use package.Rattle.calls.proofs.Answer.{via, stops, require_yes, require-no, present_some, present_none}
use package.Rattle.valuebytes.specs.Ends.{is_some, is_value, value_in}
use package.Rattle.journal.specs.Turns.{opens}
use package.Rattle.journal.proofs.Ends.{no_value}
use package.Rattle.answers.specs.declared.Refusal.{Refusal}
use package.Rattle.answers.specs.declared.Refusal.TheVariants.{Values, Full}
use package.Rattle.answers.specs.Answers.{number_of, place_of, accepts, refuses}
use package.Rattle.conversions.specs.Turns.{open_of, OpenMeans}

----------------------------------------------------------------
-- Bytes that are a value

is_there : (h : List ℕ) → is_value h ≡ true → value h ≡ some (value_in h)
unfolding or_unit
is_there h t = go (value h) t
  where
    go : (o : Option Val) → is_some o ≡ true → o ≡ some (or_unit o)
    go none t = absurd (false≢true t)
    go (some v) t = refl

----------------------------------------------------------------
-- A journal in a buffer of `n` bytes

module _ (n : ℕ) (J : Journal) where
  kept_there : leb (length (fields J)) n ≡ true → kept n J ≡ accepted (write_out n J)
  unfolding kept
  kept_there e = via _ (require_yes 20 0 e) refl

  kept_not : leb (length (fields J)) n ≡ false → kept n J ≡ refused 20 0
  unfolding kept
  kept_not e = stops _ (require-no 20 0 e)

----------------------------------------------------------------
-- Open

-- a refusal leaves the journal
open_refused : {x : Answer (List ℕ)} (r : Refusal) (j : List ℕ) → x ≡ refused (number_of r) (place_of r) → 2 ≤ number_of r → OpenMeans (Err r) x j j
unfolding after_open
open_refused r j e l = subst (λ x. OpenMeans (Err r) x j j) (sym e) (record { answer = refl; later = refuses l; journal = refl })

module _ (h j : List ℕ) {ok : Bool} (is : ok ≡ is_value h) where
  pub no_record : ok ≡ false → OpenMeans (Err Values) (open_of h (length j)) j j
  unfolding open_of
  no_record e = open_refused Values j (stops _ (present_none 10 (no_value (value h) (sym is ∙ e)))) (omega arith)

  module _ (e : ok ≡ true) where
    opened : open_of h (length j) ≡ kept (length j) (opens (value_in h))
    unfolding open_of
    opened = via _ (present_some 10 (is_there h (sym is ∙ e))) refl

    module _ {fit : Bool} (fits : fit ≡ leb (length (fields (opens (value_in h)))) (length j)) where
      pub open_fits : fit ≡ true → length (fields (opens (value_in h))) ≤ length j
      open_fits t = leb-sound _ _ (sym fits ∙ t)

      pub open_full : fit ≡ false → OpenMeans (Err Full) (open_of h (length j)) j j
      open_full t = open_refused Full j (opened ∙ kept_not (length j) (opens (value_in h)) (sym fits ∙ t)) (omega arith)

      pub open_done : fit ≡ true → {j' : List ℕ} → j' ≡ write_out (length j) (opens (value_in h)) → OpenMeans (Ok tt) (open_of h (length j)) j j'
      unfolding after_open
      open_done t {j'} k = subst (λ x. OpenMeans (Ok tt) x j j') (sym (opened ∙ kept_there (length j) (opens (value_in h)) (sym fits ∙ t)))
          (record { answer = refl; later = accepts; journal = k })
