use native.Mathlib.Omega.{arith}
use Rattle.decoded.proofs.Puts.{heads}
use Rattle.decoded.proofs.decode.put_heads.Goals as goal

pub returns : goal.returns
returns c =
    heads _ _ _ _ _ _ (omega arith)
