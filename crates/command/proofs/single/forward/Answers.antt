use native.Mathlib.Omega.{arith}
use Rattle.rules.specs.Limits.{max_value_bytes}
use Rattle.calltext.proofs.Writing.{wrote_as}
use Rattle.command.proofs.Reporting.{within, run_reported}
use Rattle.command.proofs.single.forward.Goals as goal

pub run_report-requires-clause-answer_in_bounds : goal.run_report-requires-clause-answer_in_bounds
unfolding max_value_bytes
run_report-requires-clause-answer_in_bounds c =
    within c.forward-answer.result _ _ c.forward-answer.ensures.answer c.forward-answer.ensures.fills
    c.forward-answer.auto.output

pub run_report-requires-clause-output_in_bounds : goal.run_report-requires-clause-output_in_bounds
unfolding max_value_bytes
run_report-requires-clause-output_in_bounds c =
    omega (arith, c.forward-answer.auto.output, c.requires)

pub returns-clause-report : goal.returns-clause-report
unfolding max_value_bytes
returns-clause-report c =
    wrote_as c.run_report.ensures (run_reported c.forward-answer.result _ _ c.forward-answer.ensures.answer
    c.forward-answer.ensures.fills)

pub returns-clause-clear : goal.returns-clause-clear
unfolding max_value_bytes
returns-clause-clear c =
    c.forward-answer.ensures.clear
