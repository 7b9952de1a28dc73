use Rattle.std.proofs.Common.{rules, refl, sym, ◌∙◌}
use Rattle.rules.specs.Limits.{max_value_bytes, max_conversions}
use Rattle.conversions.proofs.Forms.{read_stands}
use Rattle.conversions.proofs.Converts.{convert_malformed, convert_many, convert_refused, convert_keeps, convert_ran}
use Rattle.conversions.proofs.converting.convert.Goals as goal

pub returns-in_err-places : goal.returns-in_err-places
returns-in_err-places c =
    convert_malformed _ _ _ _ _ c.survey.ensures (sym c.ok_or.ensures.value ∙ c.in_err-places.was) (search rules)

pub returns-then-places-ge-MAX_CONVERSIONS : goal.returns-then-places-ge-MAX_CONVERSIONS
unfolding max_conversions
returns-then-places-ge-MAX_CONVERSIONS c =
    convert_many _ _ _ _ _ (read_stands _ c.survey.ensures c.ok_or.ensures.value c.in_ok-places.was) c.if-places-ge-MAX_CONVERSIONS.true

pub returns-in_err-done : goal.returns-in_err-done
unfolding max_conversions max_value_bytes
returns-in_err-done c =
    convert_refused _ _ _ _ _ (read_stands _ c.survey.ensures c.ok_or.ensures.value c.in_ok-places.was)
    c.if-places-ge-MAX_CONVERSIONS.false c.held_value.ensures _ _ refl c.in_err-done.ensures (search rules)

pub slice_bounds-output-end : goal.slice_bounds-output-end
unfolding max_conversions max_value_bytes
slice_bounds-output-end c =
    (convert_keeps _ _ _ _ _ (read_stands _ c.survey.ensures c.ok_or.ensures.value c.in_ok-places.was)
    c.if-places-ge-MAX_CONVERSIONS.false c.held_value.ensures _ _ refl c.in_ok-done.ensures c.from-n.ensures).2

pub slice_bounds-keep-end : goal.slice_bounds-keep-end
unfolding max_conversions max_value_bytes
slice_bounds-keep-end c =
    (convert_keeps _ _ _ _ _ (read_stands _ c.survey.ensures c.ok_or.ensures.value c.in_ok-places.was)
    c.if-places-ge-MAX_CONVERSIONS.false c.held_value.ensures _ _ refl c.in_ok-done.ensures c.from-n.ensures).1

pub keep-requires-clause-held_value : goal.keep-requires-clause-held_value
unfolding max_conversions max_value_bytes
keep-requires-clause-held_value c =
    (convert_keeps _ _ _ _ _ (read_stands _ c.survey.ensures c.ok_or.ensures.value c.in_ok-places.was)
    c.if-places-ge-MAX_CONVERSIONS.false c.held_value.ensures _ _ refl c.in_ok-done.ensures c.from-n.ensures).0

pub keep-requires-clause-len_value : goal.keep-requires-clause-len_value
unfolding max_conversions max_value_bytes
keep-requires-clause-len_value c =
    sym c.from-n.ensures ∙ (convert_keeps _ _ _ _ _ (read_stands _ c.survey.ensures c.ok_or.ensures.value c.in_ok-places.was)
    c.if-places-ge-MAX_CONVERSIONS.false c.held_value.ensures _ _ refl c.in_ok-done.ensures c.from-n.ensures).1

pub returns : goal.returns
unfolding max_conversions max_value_bytes
returns c =
    convert_ran _ _ _ _ _ (read_stands _ c.survey.ensures c.ok_or.ensures.value c.in_ok-places.was)
    c.if-places-ge-MAX_CONVERSIONS.false c.held_value.ensures _ _ refl c.in_ok-done.ensures c.from-n.ensures c.keep.ensures
