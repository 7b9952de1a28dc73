use mathlib.Core.Path.{◌≡◌}
use lib.ListN.{length}
use Rattle.entries.proofs.Types.{TypesSo}
use Rattle.entries.proofs.testing.test_types.Given as goal

abbrev pub invariant-loop-i : goal.invariant-loop-i
invariant-loop-i l = (length l.nodes ≡ length l.initial.nodes) × (length l.free ≡ length l.initial.free) × TypesSo l.p l.types l.i l.nodes l.free l.tally
