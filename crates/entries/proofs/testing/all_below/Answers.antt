use native.Mathlib.Omega.{arith}
use mathlib.Core.Path.{◌∙◌}
use Rattle.entries.proofs.Turns.{below_none, below_more, below_all, below-stops}
use Rattle.entries.proofs.testing.all_below.Goals as goal

pub loop-i-init : goal.loop-i-init
loop-i-init c =
    (below_none _ _ _)

pub overflow_mul-i : goal.overflow_mul-i
overflow_mul-i c =
    omega arith

pub overflow_add-from : goal.overflow_add-from
overflow_add-from c =
    omega arith

pub read16-requires : goal.read16-requires
read16-requires c =
    omega arith

pub returns-then-limit-t : goal.returns-then-limit-t
returns-then-limit-t c =
    below-stops _ _ _ c.loop-i.i _ (omega arith) (omega (arith, c.from-t.ensures ∙ c.read16.ensures))

pub loop-i-preserved : goal.loop-i-preserved
loop-i-preserved c =
    below_more _ _ _ c.loop-i.i c.loop-i.invariant
    (omega (arith, c.from-t.ensures ∙ c.read16.ensures))

pub returns : goal.returns
returns c =
    below_all _ _ _ c.loop-i.i _ (omega arith) (omega arith) c.loop-i.invariant
