use native.Mathlib.Omega.{arith}
use Rattle.entries.proofs.Unused.{used_start, used-more, used_stop, used-end}
use Rattle.entries.proofs.testing.test_used.Goals as goal

pub loop-k-init : goal.loop-k-init
loop-k-init c =
    (used_start _ _)

pub bounds-used-k : goal.bounds-used-k
bounds-used-k c =
    omega arith

pub bounds-terms-k : goal.bounds-terms-k
bounds-terms-k c =
    omega arith

pub returns-then-used-k-eq0 : goal.returns-then-used-k-eq0
returns-then-used-k-eq0 c =
    used_stop _ _ c.loop-k.k (omega arith) (omega arith) c.loop-k.invariant _ c.from.ensures c.if-used-k-eq0.true

pub loop-k-preserved : goal.loop-k-preserved
loop-k-preserved c =
    (used-more _ _ c.loop-k.k (omega arith) (omega arith) c.loop-k.invariant c.if-used-k-eq0.false)

pub returns : goal.returns
returns c =
    used-end _ _ c.loop-k.k (omega arith) c.loop-k.invariant
