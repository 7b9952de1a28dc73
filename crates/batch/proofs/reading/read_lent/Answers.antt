use native.Mathlib.Omega.{arith}
use mathlib.Core.Path.{sym}
use Rattle.calltext.proofs.Writing.{wrote_as}
use Rattle.batch.specs.Answering.{read_text, read_bytes}
use Rattle.messages.proofs.Outputs.{seen-within, written-within}
use Rattle.batch.proofs.Telling.{tells-nurse, tells_write, read_as}
use Rattle.batch.proofs.reading.read_lent.Goals as goal

pub write_line-requires-clause-answer_in_bounds : goal.write_line-requires-clause-answer_in_bounds
write_line-requires-clause-answer_in_bounds c =
    written-within c.workshop-wrote.result _ _ c.workshop-wrote.ensures.answer c.workshop-wrote.ensures.fills c.workshop-wrote.auto.output

pub write_line-requires-clause-output_in_bounds : goal.write_line-requires-clause-output_in_bounds
write_line-requires-clause-output_in_bounds c =
    (omega (arith, c.workshop-wrote.auto.output, c.requires), omega (arith, c.requires))

pub returns-then-workshop : goal.returns-then-workshop
unfolding read_text read_bytes
returns-then-workshop c =
    let p = read_as c.args.journal.now c.args.output.now (sym c.if-workshop.true)
    (wrote_as c.write_line.ensures (tells_write c.workshop-wrote.result _ _ c.workshop-wrote.ensures.answer c.workshop-wrote.ensures.fills), c.workshop-wrote.ensures.fills) in record { answer = p.0; fills = p.1 }

pub nurse_line-requires-clause-answer_in_bounds : goal.nurse_line-requires-clause-answer_in_bounds
nurse_line-requires-clause-answer_in_bounds c =
    seen-within c.nurse-seen.result _ _ c.nurse-seen.ensures.answer c.nurse-seen.ensures.fills c.nurse-seen.auto.output

pub nurse_line-requires-clause-output_in_bounds : goal.nurse_line-requires-clause-output_in_bounds
nurse_line-requires-clause-output_in_bounds c =
    (omega (arith, c.nurse-seen.auto.output, c.requires), omega (arith, c.requires))

pub returns : goal.returns
unfolding read_text read_bytes
returns c =
    let p = read_as c.args.journal.now c.args.output.now (sym c.if-workshop.false)
    (wrote_as c.nurse_line.ensures (tells-nurse c.nurse-seen.result _ _ c.nurse-seen.ensures.answer c.nurse-seen.ensures.fills), c.nurse-seen.ensures.fills) in record { answer = p.0; fills = p.1 }
