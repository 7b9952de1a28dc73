use native.Mathlib.Omega.{arith}
use Rattle.entries.proofs.measures.Tally.raised.Goals as goal

pub overflow_add-counted : goal.overflow_add-counted
overflow_add-counted c =
    omega arith

pub returns : goal.returns
returns c =
    omega arith
