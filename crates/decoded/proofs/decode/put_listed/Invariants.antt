use Rattle.decoded.specs.Decoding.{Listed}
use Rattle.decoded.proofs.decode.put_listed.Given as goal

abbrev pub invariant-loop-k : goal.invariant-loop-k
invariant-loop-k l = Listed l.initial.code l.code l.row l.p l.from l.k
