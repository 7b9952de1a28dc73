use Rattle.std.proofs.Common.{◌≤◌, ◌-◌, length}
use Rattle.corefun.proofs.files.read_whole.Given as goal

abbrev pub invariant-loop-n : goal.invariant-loop-n
invariant-loop-n g l = l.n ≤ length l.into

abbrev pub decreases-loop-n : goal.decreases-loop-n
decreases-loop-n g l = length l.into - l.n
