use lib.ListN.{length}
use Rattle.calls.specs.Conversions.{open_call}
use Rattle.calltext.proofs.Writing.{wrote_as}
use Rattle.batch.proofs.Telling.{tells_open}
use Rattle.batch.proofs.keeping.open_lent.Goals as goal

pub returns-clause-answer : goal.returns-clause-answer
returns-clause-answer c =
    wrote_as c.opened_line.ensures (tells_open c.open-answer.result
    (open_call c.args.program.now c.args.held.now (length c.args.workspace.now) (length c.args.journal.now)) c.args.journal.now c.open-answer.ensures.answer
    c.open-answer.ensures.keeps)

pub returns-clause-keeps : goal.returns-clause-keeps
returns-clause-keeps c =
    c.open-answer.ensures.keeps

pub returns-clause-clear : goal.returns-clause-clear
returns-clause-clear c =
    c.open-answer.ensures.clear
