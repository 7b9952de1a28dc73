use mathlib.Core.Path.{◌≡◌}
use mathlib.Core.Bool.{true}
use Rattle.calls.specs.Entries.{references}
use Rattle.calls.specs.Named.{below}
use Rattle.entries.proofs.testing.all_below.Given as goal

abbrev pub invariant-loop-i : goal.invariant-loop-i
invariant-loop-i l = (below l.limit (references l.p l.from l.i) ≡ true)
