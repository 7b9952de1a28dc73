use Rattle.decoded.specs.Decoding.{FunctionRows}
use Rattle.decoded.proofs.decode.put_functions.Given as goal

abbrev pub invariant-loop-g : goal.invariant-loop-g
invariant-loop-g l = FunctionRows l.initial.code l.code l.p l.functions l.g
