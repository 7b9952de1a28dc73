use Rattle.admission.proofs.Typed.{Walking}
use Rattle.admission.proofs.Callee.ancillae_typed.Given as goal

abbrev pub invariant-loop-entry : goal.invariant-loop-entry
invariant-loop-entry l = Walking l.self.table.program.now l.self.table.types.now l.self.at l.bytes l.self.row l.entry-index l.next
