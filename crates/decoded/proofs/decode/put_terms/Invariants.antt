use Rattle.decoded.specs.Decoding.{TermRows}
use Rattle.decoded.proofs.decode.put_terms.Given as goal

abbrev pub invariant-loop-t : goal.invariant-loop-t
invariant-loop-t l = TermRows l.initial.code l.code l.p l.terms l.t
