use Rattle.std.proofs.Common.{◌≡◌, ◌+◌, ◌≤◌, drop}
use Rattle.calltext.specs.Words.{spaces}
use Rattle.calltext.proofs.words.count_spaces.Given as goal

abbrev pub invariant-loop-byte : goal.invariant-loop-byte
invariant-loop-byte l = (l.n ≤ l.byte-index) × (spaces l.line ≡ l.n + spaces (drop l.byte-index l.line))
