use Prim.Native.Nat.{◌≤◌}
use mathlib.Core.Path.{◌≡◌}
use lib.ListN.{length}
use Rattle.typing.specs.Waiting.{Settles}
use Rattle.typing.proofs.namings.settle.Given as goal

abbrev pub invariant-loop-j : goal.invariant-loop-j
invariant-loop-j l = (l.from ≤ l.j) × (l.j ≤ l.to) × (length l.vars ≡ length l.initial.vars) × Settles l.sc l.uses l.initial.vars l.vars l.from l.j
    l.initial.low l.low
