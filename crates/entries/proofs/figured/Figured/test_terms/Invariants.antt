use mathlib.Core.Path.{◌≡◌}
use lib.ListN.{length}
use Rattle.entries.proofs.Verdicts.{Going}
use Rattle.entries.proofs.Terms.{terms_from_entry}
use Rattle.entries.proofs.figured.Figured.test_terms.Given as goal

abbrev pub invariant-loop-k : goal.invariant-loop-k
invariant-loop-k l = (length l.used ≡ length l.initial.used) × Going (terms_from_entry l.self.program.now l.self.types.now l.self.terms.now l.self.functions.now l.self.nodes.now l.self.free.now 0) (terms_from_entry l.self.program.now l.self.types.now l.self.terms.now l.self.functions.now l.self.nodes.now l.self.free.now l.k) l.initial.used l.used
