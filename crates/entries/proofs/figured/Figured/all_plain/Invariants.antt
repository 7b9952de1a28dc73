use mathlib.Core.Path.{◌≡◌}
use mathlib.Core.Bool.{true}
use Rattle.calls.specs.Entries.{references}
use Rattle.entries.specs.Marks.{all_plain_in}
use Rattle.entries.proofs.figured.Figured.all_plain.Given as goal

abbrev pub invariant-loop-i : goal.invariant-loop-i
invariant-loop-i l = (all_plain_in l.self.nodes.now l.self.free.now (references l.self.program.now l.from l.i) ≡ true)
