use native.Mathlib.Omega.{arith}
use mathlib.Core.Path.{refl, ◌∙◌}
use lib.ListN.{length-set}
use Rattle.entries.proofs.Turns.{below_at, using_none, using_more, using_stops, using_all}
use Rattle.entries.proofs.testing.use_terms.Goals as goal

pub loop-i-init : goal.loop-i-init
loop-i-init c =
    (refl, using_none _ _ _)

pub overflow_mul-i : goal.overflow_mul-i
overflow_mul-i c =
    omega arith

pub overflow_add-from : goal.overflow_add-from
overflow_add-from c =
    omega arith

pub read16-requires : goal.read16-requires
read16-requires c =
    omega arith

pub bounds-used-t : goal.bounds-used-t
bounds-used-t c =
    omega (
      arith,
      below_at _ _ _ c.loop-i.i _ (omega arith) c.requires.n_value,
      c.from-t.ensures
          ∙ c.read16.ensures,
      c.loop-i.invariant.0,
    )

pub returns-then-used-t-gt0 : goal.returns-then-used-t-gt0
returns-then-used-t-gt0 c =
    using_stops _ _ _ _ c.loop-i.i _ _ (c.from-t.ensures ∙ c.read16.ensures) (omega arith)
    (omega (
      arith,
      below_at _ _ _ c.loop-i.i _ (omega arith) c.requires.n_value,
      c.from-t.ensures
          ∙ c.read16.ensures,
      c.loop-i.invariant.0,
    )) c.if-used-t-gt0.true c.loop-i.invariant.1

pub bounds-used-t-in-loop-i : goal.bounds-used-t-in-loop-i
bounds-used-t-in-loop-i c =
    omega (
      arith,
      below_at _ _ _ c.loop-i.i _ (omega arith) c.requires.n_value,
      c.from-t.ensures
          ∙ c.read16.ensures,
      c.loop-i.invariant.0,
    )

pub loop-i-preserved : goal.loop-i-preserved
loop-i-preserved c = (
  simp length-set c.loop-i.invariant.0,
  using_more _ _ _ _ c.loop-i.i _
      (c.from-t.ensures ∙ c.read16.ensures)
      (omega (
        arith,
        below_at _ _ _ c.loop-i.i _ (omega arith) c.requires.n_value,
        c.from-t.ensures
            ∙ c.read16.ensures,
        c.loop-i.invariant.0,
      )) c.if-used-t-gt0.false c.loop-i.invariant.1,
)

pub returns : goal.returns
returns c =
    using_all _ _ _ _ c.loop-i.i _ (omega arith) (omega arith) c.loop-i.invariant.1
