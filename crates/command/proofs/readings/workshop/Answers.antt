use native.Mathlib.Omega.{arith}
use Rattle.calltext.proofs.Writing.{wrote_as}
use Rattle.messages.proofs.Outputs.{written-within}
use Rattle.command.proofs.ReadBack.{workshop_reported}
use Rattle.command.proofs.readings.workshop.Goals as goal

pub write_report-requires-clause-answer_in_bounds : goal.write_report-requires-clause-answer_in_bounds
write_report-requires-clause-answer_in_bounds c =
    written-within c.workshop-answer.result _ _ c.workshop-answer.ensures.answer
    c.workshop-answer.ensures.fills c.workshop-answer.auto.output

pub write_report-requires-clause-output_in_bounds : goal.write_report-requires-clause-output_in_bounds
write_report-requires-clause-output_in_bounds c =
    omega (arith, c.workshop-answer.auto.output, c.requires)

pub returns-clause-report : goal.returns-clause-report
returns-clause-report c =
    wrote_as c.write_report.ensures (workshop_reported c.workshop-answer.result _ _
    c.workshop-answer.ensures.answer c.workshop-answer.ensures.fills)

pub returns-clause-fills : goal.returns-clause-fills
returns-clause-fills c =
    c.workshop-answer.ensures.fills
