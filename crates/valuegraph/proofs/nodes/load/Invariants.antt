use Prim.Native.Nat.{◌-◌}
use lib.ListN.{length}
use Rattle.valuegraph.specs.Loads.{LoadedFrom}
use Rattle.valuegraph.proofs.nodes.load.Given as goal

abbrev pub invariant-loop-byte : goal.invariant-loop-byte
invariant-loop-byte l = LoadedFrom l.initial.ws l.ws l.top l.s (length l.s - length l.yielded) l.free
