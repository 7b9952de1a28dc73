use Rattle.octets.proofs.Zeros.{Seen}
use Rattle.octets.proofs.all_zero.Given as goal

abbrev pub invariant-loop-byte : goal.invariant-loop-byte
invariant-loop-byte l = Seen l.s l.byte-index l.seen
