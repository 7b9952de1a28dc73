use Prim.Native.Nat.{◌+◌, ◌-◌, ◌≤◌, ◌<◌}
use lib.ListN.{drop}
use Rattle.valuebytes.proofs.Ends.{Scanned}
use Rattle.valuebytes.proofs.scan.value_end.Given as goal

abbrev pub invariant-loop-i : goal.invariant-loop-i
invariant-loop-i l = (0 < l.pending) × (l.pending ≤ l.i - l.at + 1) × Scanned (drop l.at l.s) (l.i - l.at) (drop l.i l.s) l.pending
