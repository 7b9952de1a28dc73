use mathlib.Core.Path.{ap}
use Rattle.calltext.proofs.Writing.{wrote_as}
use Rattle.command.specs.Reports.{check_report}
use Rattle.command.proofs.single.check.Goals as goal

pub returns-clause-report : goal.returns-clause-report
returns-clause-report c =
    wrote_as c.check_report.ensures (ap check_report c.check-answer.ensures.answer)

pub returns-clause-clear : goal.returns-clause-clear
returns-clause-clear c =
    c.check-answer.ensures.clear
