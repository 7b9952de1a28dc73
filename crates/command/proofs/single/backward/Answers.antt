use native.Mathlib.Omega.{arith}
use Rattle.rules.specs.Limits.{max_value_bytes}
use Rattle.calltext.proofs.Writing.{wrote_as}
use Rattle.command.proofs.Reporting.{within, run_reported}
use Rattle.command.proofs.single.backward.Goals as goal

pub run_report-requires-clause-answer_in_bounds : goal.run_report-requires-clause-answer_in_bounds
unfolding max_value_bytes
run_report-requires-clause-answer_in_bounds c =
    within c.backward-answer.result _ _ c.backward-answer.ensures.answer c.backward-answer.ensures.fills
    c.backward-answer.auto.output

pub run_report-requires-clause-output_in_bounds : goal.run_report-requires-clause-output_in_bounds
unfolding max_value_bytes
run_report-requires-clause-output_in_bounds c =
    omega (arith, c.backward-answer.auto.output, c.requires)

pub returns-clause-report : goal.returns-clause-report
unfolding max_value_bytes
returns-clause-report c =
    wrote_as c.run_report.ensures (run_reported c.backward-answer.result _ _ c.backward-answer.ensures.answer
    c.backward-answer.ensures.fills)

pub returns-clause-clear : goal.returns-clause-clear
unfolding max_value_bytes
returns-clause-clear c =
    c.backward-answer.ensures.clear
