use mathlib.Core.Path.{sym, ◌∙◌}
use Rattle.calls.specs.Journal.{held_tag}
use Rattle.journal.proofs.Ends.{are_bytes, here, here-within, held_missing, held_whole, held-broken}
use borrow.Author.Rules.{rules}
use Rattle.journal.proofs.form.held_end.Goals as goal

pub returns-in_err-end : goal.returns-in_err-end
unfolding held_tag
returns-in_err-end c =
    c.from_residual.ensures ∙ held_missing _ (sym c.in_err-end.was ∙ c.field_end.ensures)

pub returns-then-one_value : goal.returns-then-one_value
unfolding held_tag
returns-then-one_value c =
    held_whole _ (are_bytes c.args.journal.now c.shared_slice_known-1.given) _
    (sym c.in_ok-end.was ∙ c.field_end.ensures) _ c.one_value.ensures c.if-one_value.true

pub returns : goal.returns
unfolding held_tag
returns c =
    held-broken _ (are_bytes c.args.journal.now c.shared_slice_known-1.given) _
    (sym c.in_ok-end.was ∙ c.field_end.ensures) _ c.one_value.ensures c.if-one_value.false

pub slice_bounds-one_value-count : goal.slice_bounds-one_value-count
unfolding held_tag
slice_bounds-one_value-count c =
    let h = here-within (here held_tag 0 _ c.args.journal.now
    (are_bytes c.args.journal.now c.shared_slice_known-1.given)
    (sym c.in_ok-end.was ∙ c.field_end.ensures)) in
    search rules

pub slice_bounds-one_value-start : goal.slice_bounds-one_value-start
unfolding held_tag
slice_bounds-one_value-start c =
    let h = here-within (here held_tag 0 _ c.args.journal.now
    (are_bytes c.args.journal.now c.shared_slice_known-1.given)
    (sym c.in_ok-end.was ∙ c.field_end.ensures)) in
    search rules

pub slice_bounds-one_value-end : goal.slice_bounds-one_value-end
unfolding held_tag
slice_bounds-one_value-end c =
    let h = here-within (here held_tag 0 _ c.args.journal.now
    (are_bytes c.args.journal.now c.shared_slice_known-1.given)
    (sym c.in_ok-end.was ∙ c.field_end.ensures)) in
    search rules
