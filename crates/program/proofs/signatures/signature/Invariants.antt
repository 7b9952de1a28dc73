use Rattle.program.proofs.Rows.{Filled}
use Rattle.program.proofs.signatures.signature.Given as goal

abbrev pub invariant-loop-k : goal.invariant-loop-k
invariant-loop-k l = Filled l.p l.at l.k l.row
