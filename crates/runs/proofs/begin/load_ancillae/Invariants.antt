use mathlib.Core.Path.{◌≡◌}
use lib.ListN.{length}
use Rattle.scopes.specs.Slots.{state_count, slots_of}
use Rattle.runs.proofs.Loads.{Named}
use Rattle.runs.proofs.begin.load_ancillae.Given as goal

abbrev pub invariant-loop-node : goal.invariant-loop-node
invariant-loop-node l = (length l.st ≡ state_count) × (length l.st ≡ length l.initial.st) × Named l.ws (slots_of l.initial.st) (slots_of l.st) l.bytes l.count l.node l.top

abbrev pub decreases-loop-node : goal.decreases-loop-node
decreases-loop-node l = l.node
