use native.Mathlib.Omega.{arith}
use Rattle.calltext.proofs.Writing.{wrote_as}
use Rattle.messages.proofs.Outputs.{seen-within}
use Rattle.command.proofs.ReadBack.{nurse_reported}
use Rattle.command.proofs.readings.nurse.Goals as goal

pub nurse_report-requires-clause-answer_in_bounds : goal.nurse_report-requires-clause-answer_in_bounds
nurse_report-requires-clause-answer_in_bounds c =
    seen-within c.nurse-answer.result _ _ c.nurse-answer.ensures.answer c.nurse-answer.ensures.fills c.nurse-answer.auto.output

pub nurse_report-requires-clause-output_in_bounds : goal.nurse_report-requires-clause-output_in_bounds
nurse_report-requires-clause-output_in_bounds c =
    omega (arith, c.nurse-answer.auto.output, c.requires)

pub returns-clause-report : goal.returns-clause-report
returns-clause-report c =
    wrote_as c.nurse_report.ensures (nurse_reported c.nurse-answer.result _ _
    c.nurse-answer.ensures.answer c.nurse-answer.ensures.fills)

pub returns-clause-fills : goal.returns-clause-fills
returns-clause-fills c =
    c.nurse-answer.ensures.fills
