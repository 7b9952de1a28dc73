use native.Mathlib.Omega.{arith}
use mathlib.Core.Path.{◌∙◌}
use Rattle.entries.proofs.Verdicts.{measured-room}
use Rattle.entries.proofs.Turns.{below_at, plain_none, plain_yes, plain_open, plain_large, plain_more, plain-all, plain-stops}
use Rattle.entries.proofs.figured.Figured.all_plain.Goals as goal

pub loop-i-init : goal.loop-i-init
loop-i-init c =
    (plain_none _ _ _ _)

pub overflow_mul-i : goal.overflow_mul-i
overflow_mul-i c =
    omega arith

pub overflow_add-from : goal.overflow_add-from
overflow_add-from c =
    omega arith

pub read16-requires : goal.read16-requires
read16-requires c =
    omega arith

pub bounds-self-t : goal.bounds-self-t
bounds-self-t c =
    omega (
      arith,
      below_at _ _ _ c.loop-i.i _ (omega arith) c.requires.n_value,
      measured-room c.args.self.now.program.now c.args.self.now.types.now _ _ c.args.self.now.measured,
      c.from-t.ensures
          ∙ c.read16.ensures,
    )

pub returns-then-self-t-gt0 : goal.returns-then-self-t-gt0
returns-then-self-t-gt0 c =
    plain-stops _ _ _ _ c.loop-i.i _ _ (c.from-t.ensures ∙ c.read16.ensures) (omega arith)
    (plain_open _ _ _ c.if-self-t-gt0.true)

pub bounds-self-t-in-loop-i : goal.bounds-self-t-in-loop-i
bounds-self-t-in-loop-i c =
    omega (
      arith,
      measured-room c.args.self.now.program.now c.args.self.now.types.now _ _ c.args.self.now.measured,
      below_at _ _ _ c.loop-i.i _ (omega arith) c.requires.n_value,
      c.from-t.ensures
          ∙ c.read16.ensures,
    )

pub returns-then-self-t-gt-MOST_NODES : goal.returns-then-self-t-gt-MOST_NODES
returns-then-self-t-gt-MOST_NODES c =
    plain-stops _ _ _ _ c.loop-i.i _ _ (c.from-t.ensures ∙ c.read16.ensures) (omega arith)
    (plain_large _ _ _ c.if-self-t-gt-MOST_NODES.true)

pub loop-i-preserved : goal.loop-i-preserved
loop-i-preserved c =
    plain_more _ _ _ _ c.loop-i.i _ (c.from-t.ensures ∙ c.read16.ensures) c.loop-i.invariant
    (plain_yes _ _ _ c.if-self-t-gt0.false c.if-self-t-gt-MOST_NODES.false)

pub returns : goal.returns
returns c =
    plain-all _ _ _ _ c.loop-i.i _ (omega arith) (omega arith) c.loop-i.invariant
