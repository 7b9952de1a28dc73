use native.Mathlib.Omega.{arith}
use mathlib.Core.Path.{refl}
use Rattle.decoded.proofs.Puts.{listed_more}
use Rattle.decoded.proofs.decode.put_listed.Goals as goal

pub loop-k-preserved : goal.loop-k-preserved
loop-k-preserved c =
    listed_more c.loop-k.invariant refl (omega (arith, c.loop-k.invariant.lengths)) c.read16.ensures refl
