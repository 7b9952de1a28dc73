use native.Mathlib.Omega.{arith}
use Rattle.octets.proofs.Zeros.{seen_none, seen_more, seen_decided}
use Rattle.octets.proofs.all_zero.Goals as goal

pub loop-byte-init : goal.loop-byte-init
loop-byte-init c =
    seen_none _

pub loop-byte-preserved : goal.loop-byte-preserved
loop-byte-preserved c =
    seen_more _ _ _ c.loop-byte.invariant

pub returns : goal.returns
returns c =
    seen_decided _ _ _ (omega arith) c.loop-byte.invariant
