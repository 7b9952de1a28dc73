use mathlib.Core.Path.{◌≡◌}
use lib.ListN.{length}
use Rattle.calls.specs.Entries.{references}
use Rattle.entries.proofs.Turns.{Using}
use Rattle.entries.proofs.testing.use_terms.Given as goal

abbrev pub invariant-loop-i : goal.invariant-loop-i
invariant-loop-i l = (length l.used ≡ length l.initial.used) × Using l.initial.used l.used (references l.p l.from l.i)
