use mathlib.Core.Path.{sym, ◌∙◌}
use Rattle.calls.specs.Journal.{entry_tag}
use Rattle.journal.proofs.Ends.{are_bytes, here, here-within, entry_missing, entry-short, entry-broken, entry_whole}
use borrow.Author.Rules.{rules}
use Rattle.journal.proofs.form.entry_end.Goals as goal

pub returns-in_err-end : goal.returns-in_err-end
unfolding entry_tag
returns-in_err-end c =
    c.from_residual.ensures ∙ entry_missing _ _ (sym c.in_err-end.was ∙ c.field_end.ensures)

pub overflow_sub-end : goal.overflow_sub-end
unfolding entry_tag
overflow_sub-end c =
    let h = here-within (here entry_tag c.args.at _ c.args.journal.now
    (are_bytes c.args.journal.now c.shared_slice_known-1.given)
    (sym c.in_ok-end.was ∙ c.field_end.ensures)) in
    search rules

pub returns-then-end-at-lt-ENTRY_BYTES : goal.returns-then-end-at-lt-ENTRY_BYTES
unfolding entry_tag
returns-then-end-at-lt-ENTRY_BYTES c =
    entry-short _ (are_bytes c.args.journal.now c.shared_slice_known-1.given) _ _
    (sym c.in_ok-end.was ∙ c.field_end.ensures) c.if-end-at-lt-ENTRY_BYTES.true

pub returns-in_err-count_values : goal.returns-in_err-count_values
unfolding entry_tag
returns-in_err-count_values c =
    c.from_residual-in_err-count_values.ensures ∙ entry-broken _ (are_bytes c.args.journal.now c.shared_slice_known-1.given) _ _
    (sym c.in_ok-end.was ∙ c.field_end.ensures) c.if-end-at-lt-ENTRY_BYTES.false
    (sym c.in_err-count_values.was ∙ c.count_values.ensures)

pub returns : goal.returns
unfolding entry_tag
returns c =
    entry_whole _ (are_bytes c.args.journal.now c.shared_slice_known-1.given) _ _
    (sym c.in_ok-end.was ∙ c.field_end.ensures) c.if-end-at-lt-ENTRY_BYTES.false _
    (sym c.in_ok-count_values.was ∙ c.count_values.ensures)

pub slice_bounds-count_values-end : goal.slice_bounds-count_values-end
unfolding entry_tag
slice_bounds-count_values-end c =
    let h = here-within (here entry_tag c.args.at _ c.args.journal.now
    (are_bytes c.args.journal.now c.shared_slice_known-1.given)
    (sym c.in_ok-end.was ∙ c.field_end.ensures)) in
    search rules
