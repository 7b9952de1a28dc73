use Prim.Native.Nat.{◌<◌}
use Rattle.calls.specs.Entries.{type_of}
use Rattle.valuebytes.specs.Typing.{entries_of}
use Rattle.valuebytes.specs.Stack.{entries_in, cells_in}
use Rattle.valuebytes.proofs.Walking.{Walking}
use Rattle.valuebytes.proofs.typed.has_type_at.Given as goal

abbrev pub invariant-loop-i : goal.invariant-loop-i
invariant-loop-i l = (0 < l.walk.count)
    × Walking l.table.program.now l.table.types.now (entries_in l.walk.cells) (cells_in l.walk.cells) (entries_in l.walk.pending) (cells_in l.walk.pending)
    l.s l.at l.i l.walk.top l.walk.count (type_of (entries_of l.table.program.now l.table.types.now) l.entry)
