use Rattle.entries.proofs.Unused.{UsedSo}
use Rattle.entries.proofs.testing.test_used.Given as goal

abbrev pub invariant-loop-k : goal.invariant-loop-k
invariant-loop-k l = UsedSo l.terms l.used l.k
