-- The claims of specs/Claims, each proved under its name: here by name alone, the proofs stand where the lines say. Section 6's cases,
-- the orders of section 4 and sample calls are proved by computation.
pub use package.Rattle.calls.proofs.Laws.{closed_and_counted, encode_and_read, written_and_read}
pub use package.Rattle.calls.proofs.Runs.Claims.{check_iff_typed, forward_iff_rules, backward_iff_rules, backward_iff_forward, no_input}
pub use package.Rattle.calls.proofs.Runs.Claims.{no_value, never-at_choice, injective, more-never_changes, never_stuck, old-conversions_return}
pub use package.Rattle.calls.proofs.Runs.Met.{refusal-numbers}
pub use package.Rattle.calls.proofs.Book.Demand.{demand3, newest_rolls_back}
pub use package.Rattle.calls.proofs.Readers.{nurse_sees_no_entries, nurse_sees_the_held, workshop_as_it_stands, workshop_sees_the_entries}
pub use package.Rattle.calls.proofs.Readers.{readers_know_the_form, readers_always_enough, readers_see_the_book}
pub use package.Rattle.calls.proofs.Table.{table, limits, orders, readings, steering, choosing, samples}
pub use package.Rattle.calls.proofs.Borders.{edges, outcomes, lists}
