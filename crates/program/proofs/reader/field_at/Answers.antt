use mathlib.Core.Path.{sym, ◌∙◌}
use Rattle.program.proofs.Found.{found_none, found_whole}
use Rattle.program.proofs.Reading.{field-inside}
use Rattle.program.proofs.TagCases.{tag-known}
use Rattle.program.proofs.reader.field_at.Goals as goal

pub unwrap-tag-requires : goal.unwrap-tag-requires
unwrap-tag-requires c =
    tag-known _ _ _ _ _ c.tag_at.ensures c.try_from.ensures (sym c.well_formed-2.ensures ∙ c.if-well_formed.true)

pub next_at-next-requires : goal.next_at-next-requires
next_at-next-requires c =
    field-inside _ _ _ (sym c.well_formed-2.ensures ∙ c.if-well_formed.true)

pub returns-then-well_formed : goal.returns-then-well_formed
returns-then-well_formed c =
    found_whole _ _ _ _ _ (sym c.well_formed-2.ensures ∙ c.if-well_formed.true)
    (rw c.unwrap-tag.ensures at c.try_from.ensures ∙ c.tag_at.ensures) c.next_at-next.ensures

pub returns : goal.returns
returns c =
    found_none _ _ _ (sym c.well_formed-2.ensures ∙ c.if-well_formed.false)
