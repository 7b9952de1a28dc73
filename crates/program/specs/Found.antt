-- What reading one field answers, in the definitions' terms (document 01, section 4, row Field reading: refusal 2).
use Rattle.std.specs.Prelude.{ℕ, List, Option, Some, None}
use package.Rattle.calls.specs.Answer.{Answer, accepted, refused, ◌>>=◌, require}
use package.Rattle.calls.specs.Fields.{tag_at, next_at, well_formed}
use package.Rattle.program.specs.declared.reader.Field.{Field}
use package.Rattle.program.specs.Tags.{tag_number}

-- the code's answer about the offset `at`: tag and next offset, or refusal 2 at the field's first byte
abbrev pub found_of : Option Field → ℕ → Answer (ℕ × ℕ)
found_of (Some f) at = accepted (tag_number f.tag, f.next)
found_of None at = refused 2 at

-- what a program has there, `last` being the tag of the field before it
unfoldable pub field_at : List ℕ → ℕ → ℕ → Answer (ℕ × ℕ)
field_at xs at last = do
  formed ← require (well_formed xs at last) 2 at
  accepted (tag_at xs at, next_at xs at)
