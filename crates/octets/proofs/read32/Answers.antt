use Prim.Native.Nat.{◌+◌}
use native.Mathlib.Omega.{arith}
use mathlib.Core.Path.{◌≡◌, ap}
use lib.ListN.{get_or}
use Rattle.octets.specs.Numbers.{get16, get32}
use Rattle.octets.proofs.read32.Goals as goal

pub returns : goal.returns
unfolding get32 get16
returns c =
    let last = ap (λ i. get_or c.args.s.now i 0) (let e : c.args.at + 2 + 1 ≡ c.args.at + 3 = omega arith in e) in
    omega (arith, c.from_be_bytes.ensures, last)
