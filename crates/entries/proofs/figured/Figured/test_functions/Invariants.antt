use mathlib.Core.Path.{◌≡◌}
use lib.ListN.{length}
use Rattle.entries.proofs.Verdicts.{Going}
use Rattle.entries.proofs.Functions.{functions_from_entry}
use Rattle.entries.proofs.figured.Figured.test_functions.Given as goal

abbrev pub invariant-loop-at : goal.invariant-loop-at
invariant-loop-at l = (length l.used ≡ length l.initial.used) × Going (functions_from_entry l.self.program.now l.self.types.now l.self.terms.now l.self.functions.now l.self.nodes.now l.self.free.now 0) (functions_from_entry l.self.program.now l.self.types.now l.self.terms.now l.self.functions.now l.self.nodes.now l.self.free.now l.at-index) l.initial.used l.used
