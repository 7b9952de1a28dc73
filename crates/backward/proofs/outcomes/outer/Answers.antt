use native.Mathlib.Omega.{arith}
use Rattle.backward.proofs.outcomes.outer.Goals as goal

pub overflow_cast-n : goal.overflow_cast-n
overflow_cast-n c =
    omega (arith, c.requires.few)

pub left-requires : goal.left-requires
left-requires c =
    rw c.count_in-n.ensures c.requires

pub returns : goal.returns
returns c =
    rw c.count_in-n.ensures at c.left.ensures
