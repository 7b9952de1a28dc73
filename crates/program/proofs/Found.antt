-- Laws of reading one field: the answer from the tests, and the tests from the answer.
use Prim.Native.Nat.{ℕ}
use mathlib.Core.Path.{◌≡◌, refl, sym, ap}
use mathlib.Core.Bool.{Bool, true, false}
use mathlib.Core.List.{List}
use package.Rattle.calls.specs.Answer.{accepted, refused, ◌>>=◌, require}
use package.Rattle.calls.specs.Fields.{tag_at, next_at, well_formed}
use package.Rattle.calls.proofs.Answer.{refused≢accepted, accepted_inj}
use Rattle.std.specs.Prelude.{Some, None}
use package.Rattle.program.specs.declared.tags.Tag.{Tag}
use package.Rattle.program.specs.Tags.{tag_number}
use package.Rattle.program.specs.Found.{found_of, field_at}

-- a test, and what follows it if it holds
held : {A : Type 0} (b : Bool) (n p : ℕ) (x y : A) → accepted x ≡ (require b n p >>= λ _. accepted y) → (b ≡ true) × (x ≡ y)
unfolding require ◌>>=◌
held true n p x y e = (refl, accepted_inj e)
held false n p x y e = absurd (refused≢accepted (sym e))

failed : {A : Type 0} (b : Bool) (n p : ℕ) (y : A) → refused n p ≡ (require b n p >>= λ _. accepted y) → b ≡ false
unfolding require ◌>>=◌
failed true n p y e = absurd (refused≢accepted e)
failed false n p y e = refl

module _ (xs : List ℕ) (at last : ℕ) where
  pub found_none : well_formed xs at last ≡ false → found_of None at ≡ field_at xs at last
  unfolding field_at require ◌>>=◌
  found_none e = rw e

  pub none_formed : found_of None at ≡ field_at xs at last → well_formed xs at last ≡ false
  unfolding field_at
  none_formed e = failed (well_formed xs at last) 2 at (tag_at xs at, next_at xs at) e

  module _ (tag : Tag) (next : ℕ) where
    pub found_whole : well_formed xs at last ≡ true → tag_number tag ≡ tag_at xs at → next ≡ next_at xs at → found_of (Some (record { tag = tag; next = next })) at ≡ field_at xs at last
    unfolding field_at require ◌>>=◌
    found_whole e t n = rw (e, t, n)

    module _ (e : found_of (Some (record { tag = tag; next = next })) at ≡ field_at xs at last) where
      both : (well_formed xs at last ≡ true) × (◌≡◌ {A = ℕ × ℕ} (tag_number tag, next) (tag_at xs at, next_at xs at))
      unfolding field_at
      both = held (well_formed xs at last) 2 at (tag_number tag, next) (tag_at xs at, next_at xs at) e

      pub whole_formed : well_formed xs at last ≡ true
      whole_formed = both.0

      pub whole_tag : tag_number tag ≡ tag_at xs at
      whole_tag = ap (λ (w : ℕ × ℕ). w.0) both.1

      pub whole_next : next ≡ next_at xs at
      whole_next = ap (λ (w : ℕ × ℕ). w.1) both.1
