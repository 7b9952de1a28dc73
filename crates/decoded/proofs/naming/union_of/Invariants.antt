use Rattle.decoded.proofs.Sets.{United}
use Rattle.decoded.proofs.naming.union_of.Given as goal

abbrev pub invariant-loop-part : goal.invariant-loop-part
invariant-loop-part l = United l.code l.sets l.from l.names l.part-index
