use Rattle.journal.proofs.Walks.{Turn}
use Rattle.journal.proofs.form.survey.Given as goal

abbrev pub invariant-loop-count : goal.invariant-loop-count
invariant-loop-count l = Turn l.journal l.held l.end l.newest l.count
