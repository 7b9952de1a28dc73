use Prim.Native.Nat.{◌≤◌}
use mathlib.Core.Path.{◌≡◌}
use lib.ListN.{length}
use Rattle.typing.specs.Checked.{Bound}
use Rattle.typing.proofs.functions.bind_ancillae.Given as goal

abbrev pub invariant-loop-i : goal.invariant-loop-i
invariant-loop-i l = (l.i ≤ l.q) × (length l.vars ≡ length l.initial.vars) × Bound l.subject.entries.program.now l.subject.entries.types.now l.ws
    l.vars l.row l.i
