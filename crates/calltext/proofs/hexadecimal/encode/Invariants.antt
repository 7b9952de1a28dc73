use Prim.Native.Nat.{◌+◌, ◌<◌, ◌*◌}
use mathlib.Core.Path.{◌≡◌}
use lib.ListN.{length, take}
use Rattle.calltext.specs.Wrote.{Wrote}
use Rattle.calltext.specs.Hexadecimal.{digits_of}
use Rattle.calltext.proofs.hexadecimal.encode.Given as goal

abbrev pub invariant-loop-b : goal.invariant-loop-b
invariant-loop-b l = record {
  room : l.at + 2 * length l.bytes < length l.initial.out;
  some : 0 < length l.bytes;
  ends : l.end ≡ l.at + 2 * l.b-index;
  wrote : Wrote l.initial.out l.out l.at l.end (digits_of (take l.b-index l.bytes));
}
