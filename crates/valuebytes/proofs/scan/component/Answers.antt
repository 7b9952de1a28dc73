use mathlib.Core.Path.{sym, ◌∙◌}
use Rattle.valuebytes.proofs.Whole.{pair-ends, pair-within, part-first, part-second}
use borrow.Author.Rules.{rules}
use Rattle.valuebytes.proofs.scan.component.Goals as goal

pub unwrap-m-requires : goal.unwrap-m-requires
unwrap-m-requires c =
    pair-ends _ c.requires.0 c.requires.1 _ c.value_end.ensures

pub slice_bounds-result-count : goal.slice_bounds-result-count
slice_bounds-result-count c =
    let h = (pair-within _ c.requires.0 c.requires.1 _ (sym c.unwrap-m.ensures ∙ c.value_end.ensures)) in
    search rules

pub slice_bounds-result-start : goal.slice_bounds-result-start
slice_bounds-result-start c =
    let h = (pair-within _ c.requires.0 c.requires.1 _ (sym c.unwrap-m.ensures ∙ c.value_end.ensures)) in
    search rules

pub slice_bounds-result-count-else-second : goal.slice_bounds-result-count-else-second
slice_bounds-result-count-else-second c =
    let h = (pair-within _ c.requires.0 c.requires.1 _ (sym c.unwrap-m.ensures ∙ c.value_end.ensures)) in
    search rules

pub slice_bounds-result-start-else-second : goal.slice_bounds-result-start-else-second
slice_bounds-result-start-else-second c =
    let h = (pair-within _ c.requires.0 c.requires.1 _ (sym c.unwrap-m.ensures ∙ c.value_end.ensures)) in
    search rules

pub slice_bounds-result-end-else-second : goal.slice_bounds-result-end-else-second
slice_bounds-result-end-else-second c =
    let h = (pair-within _ c.requires.0 c.requires.1 _ (sym c.unwrap-m.ensures ∙ c.value_end.ensures)) in
    search rules

pub returns-then-second : goal.returns-then-second
returns-then-second c =
    part-second _ c.requires.0 c.requires.1 _ _ (sym c.unwrap-m.ensures ∙ c.value_end.ensures) c.if-second.true

pub returns-else-second : goal.returns-else-second
returns-else-second c =
    part-first _ c.requires.0 c.requires.1 _ _ (sym c.unwrap-m.ensures ∙ c.value_end.ensures) c.if-second.false
