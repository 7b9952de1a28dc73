use Rattle.std.proofs.Common.{◌≡◌, ◌*◌, ◌≤◌, length}
use Rattle.calltext.proofs.Digits.{Decoding}
use Rattle.calltext.proofs.hexadecimal.pairs.Given as goal

abbrev pub invariant-loop-left : goal.invariant-loop-left
invariant-loop-left l = record {
  room : length l.word ≤ 2 * length l.initial.out;
  kept : length l.out ≡ length l.initial.out;
  decodes : Decoding l.word l.initial.out l.out l.left l.n;
}

abbrev pub decreases-loop-left : goal.decreases-loop-left
decreases-loop-left l = length l.left
