-- Laws of the tags as an enum: the tag of a well-formed field is known.
use Prim.Native.Nat.{ℕ}
use mathlib.Core.Path.{◌≡◌, refl, ◌∙◌}
use mathlib.Core.Bool.{true, false≢true}
use mathlib.Core.List.{List}
use Rattle.std.specs.Prelude.{Result, Ok, Err, IsOk}
use package.Rattle.calls.specs.Fields.{tag_at, well_formed}
use package.Rattle.program.specs.declared.tags.Tag.{Tag}
use package.Rattle.program.specs.declared.tags.UnknownTag.{UnknownTag}
use package.Rattle.program.specs.Tags.{IsTag}
use package.Rattle.program.proofs.Formed.{fits_nothing}
use package.Rattle.program.proofs.Inside.{well_formed_lem}

pub tag-known : (xs : List ℕ) (at last byte : ℕ) (r : Result Tag UnknownTag) → byte ≡ tag_at xs at → IsTag byte r → well_formed xs at last ≡ true → IsOk r
tag-known xs at last byte (Ok tag) e h w = refl
tag-known xs at last byte (Err u) e h w =
    absurd (false≢true (fits_nothing xs at (λ q. h.1 (e ∙ q)) (λ q. h.2 (e ∙ q)) (λ q. h.3 (e ∙ q)) ∙ (well_formed_lem xs at last w).1))
