use native.Mathlib.Omega.{arith}
use Rattle.octets.specs.Numbers.{get16}
use Rattle.octets.proofs.read16.Goals as goal

pub returns : goal.returns
unfolding get16
returns c =
    omega (arith, c.from_be_bytes.ensures)
