use native.Mathlib.Omega.{arith}
use Rattle.calls.specs.Figures.{ceiling}
use Rattle.entries.proofs.measures.joined.Goals as goal

pub returns-then-n-lt-WIDE_CEILING : goal.returns-then-n-lt-WIDE_CEILING
unfolding ceiling
returns-then-n-lt-WIDE_CEILING c =
    omega arith

pub returns : goal.returns
unfolding ceiling
returns c =
    omega arith
