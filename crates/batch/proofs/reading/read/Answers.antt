use native.Mathlib.Omega.{arith}
use mathlib.Core.Path.{sym, ap, ◌∙◌}
use lib.ListN.{take}
use lib.Seq.{length-take-le}
use Rattle.calls.specs.Answer.{overwritten}
use Rattle.calltext.proofs.Writing.{wrote_as}
use Rattle.journal.proofs.Ends.{are_bytes}
use Rattle.batch.specs.Capped.{most_output}
use Rattle.batch.proofs.Capping.{is_capped, capped-most, lent-within, lent_length, text-lent, bytes-lent}
use Rattle.batch.proofs.Lending.{on-front}
use Rattle.batch.proofs.reading.read.Goals as goal

pub slice_bounds-read_lent-end : goal.slice_bounds-read_lent-end
slice_bounds-read_lent-end c =
    sym (length-take-le c.args.call.journal c.args.journal.now c.requires.journal_in_bounds)

pub slice_bounds-read_lent-end-2 : goal.slice_bounds-read_lent-end-2
unfolding most_output
slice_bounds-read_lent-end-2 c =
    lent-within most_output c.args.call.output (is_capped _ _ c.min-len.ensures) c.args.output.now c.requires.most_output_in_bounds

pub slice_bounds-read_lent-end-3 : goal.slice_bounds-read_lent-end-3
unfolding most_output
slice_bounds-read_lent-end-3 c =
    sym (length-take-le c.min-len.result c.args.output.now
    (lent-within most_output c.args.call.output (is_capped _ _ c.min-len.ensures) c.args.output.now c.requires.most_output_in_bounds))

pub read_lent-requires : goal.read_lent-requires
unfolding most_output
read_lent-requires c =
    omega (
      arith,
      lent_length most_output c.args.call.output (is_capped _ _ c.min-len.ensures) c.args.output.now c.requires.most_output_in_bounds,
      capped-most most_output c.args.call.output,
      c.requires.answer_room_in_bounds,
    )

pub returns-clause-answer : goal.returns-clause-answer
unfolding most_output
returns-clause-answer c =
    let bytes = are_bytes c.args.journal.now c.shared_slice_known-1.given in
    wrote_as c.read_lent.ensures.answer
    (text-lent c.args.journal.now bytes c.args.call.journal c.args.call.output (is_capped _ _ c.min-len.ensures) c.args.output.now c.requires.most_output_in_bounds c.args.call.workshop)

pub returns-clause-fills : goal.returns-clause-fills
unfolding most_output
returns-clause-fills c =
    let bytes = are_bytes c.args.journal.now c.shared_slice_known-1.given in
    on-front (is_capped _ _ c.min-len.ensures) c.args.output.now _ (c.read_lent.ensures.fills ∙ ap (λ x. overwritten x (take c.min-len.result c.args.output.now))
    (bytes-lent c.args.journal.now bytes c.args.call.journal c.args.call.output (is_capped _ _ c.min-len.ensures) c.args.output.now c.requires.most_output_in_bounds c.args.call.workshop))
