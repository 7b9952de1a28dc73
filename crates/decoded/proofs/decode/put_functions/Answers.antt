use Rattle.decoded.proofs.Decoding.{functions_more}
use Rattle.decoded.proofs.decode.put_functions.Goals as goal

pub loop-g-preserved : goal.loop-g-preserved
loop-g-preserved c =
    functions_more c.loop-g.invariant c.from.ensures c.put_function.ensures
