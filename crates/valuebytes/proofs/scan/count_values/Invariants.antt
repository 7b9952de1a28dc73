use Prim.Native.Nat.{◌-◌, ◌≤◌}
use lib.ListN.{length, drop}
use Rattle.rules.specs.Limits.{max_ancilla_bytes}
use Rattle.valuebytes.proofs.Many.{Counting}
use Rattle.valuebytes.proofs.scan.count_values.Given as goal

abbrev pub invariant-loop-at : goal.invariant-loop-at
invariant-loop-at l = (l.at ≤ length l.s) × (l.n ≤ l.at) × (length l.s ≤ max_ancilla_bytes) × Counting l.s l.n (drop l.at l.s)

abbrev pub decreases-loop-at : goal.decreases-loop-at
decreases-loop-at l = length l.s - l.at
