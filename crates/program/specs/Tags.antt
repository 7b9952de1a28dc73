-- The numbers of the tags that src/tags.rt has as an enum, and which byte is no tag.
use Rattle.std.specs.Prelude.{ℕ, ◌≡◌, ◌≢◌, Result, MatchResult}
use package.Rattle.calls.specs.Fields.{type_tag, term_tag, function_tag}
use package.Rattle.program.specs.declared.tags.Tag.{Tag}
use package.Rattle.program.specs.declared.tags.Tag.TheVariants as T
use package.Rattle.program.specs.declared.tags.UnknownTag.{UnknownTag}

abbrev pub tag_number : Tag → ℕ
tag_number T.Type = type_tag
tag_number T.Term = term_tag
tag_number T.Function = function_tag

-- the tag with this number, or the byte back, which no tag has
abbrev pub IsTag : ℕ → Result Tag UnknownTag → Type 0
IsTag byte r = MatchResult r (λ tag. tag_number tag ≡ byte) (λ e. (e.0 ≡ byte) × (byte ≢ type_tag) × (byte ≢ term_tag) × (byte ≢ function_tag))
