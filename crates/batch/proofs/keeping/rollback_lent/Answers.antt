use lib.ListN.{length}
use Rattle.calls.specs.Conversions.{rollback_call}
use Rattle.calltext.proofs.Writing.{wrote_as}
use Rattle.batch.proofs.Telling.{tells-turn}
use Rattle.batch.proofs.keeping.rollback_lent.Goals as goal

pub returns-clause-answer : goal.returns-clause-answer
returns-clause-answer c =
    wrote_as c.held_line.ensures (tells-turn c.rollback-answer.result
    (rollback_call c.args.program.now c.args.fuel (length c.args.workspace.now) c.args.journal.now) c.args.journal.now c.rollback-answer.ensures.answer
    c.rollback-answer.ensures.keeps)

pub returns-clause-keeps : goal.returns-clause-keeps
returns-clause-keeps c =
    c.rollback-answer.ensures.keeps

pub returns-clause-clear : goal.returns-clause-clear
returns-clause-clear c =
    c.rollback-answer.ensures.clear
