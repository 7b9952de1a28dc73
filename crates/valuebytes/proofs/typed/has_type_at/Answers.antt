use native.Mathlib.Omega.{arith}
use mathlib.Core.Path.{◌∙◌}
use Rattle.rules.specs.Limits.{max_value_bytes}
use Rattle.valuebytes.proofs.Asked.{walk_starts}
use Rattle.valuebytes.proofs.Advancing.{turned_on, turned-off}
use Rattle.valuebytes.proofs.Walking.{walking_off, walking_on, walking_done, walking_stopped}
use Rattle.valuebytes.proofs.typed.has_type_at.Goals as goal

pub loop-i-init : goal.loop-i-init
loop-i-init c = (
  omega (arith, c.new-walk.ensures.start.1),
  walk_starts _ _ c.args.table.now.read _ c.requires.0 c.requires.1 _
      c.new-walk.ensures.cells c.new-walk.ensures.pending c.new-walk.ensures.start _ _,
)

pub advance-requires-clause-stack : goal.advance-requires-clause-stack
advance-requires-clause-stack c =
    c.loop-i.invariant.1.stack

pub advance-requires-clause-pending : goal.advance-requires-clause-pending
advance-requires-clause-pending c =
    c.loop-i.invariant.0

pub advance-requires-clause-room : goal.advance-requires-clause-room
unfolding max_value_bytes
advance-requires-clause-room c =
    let w = c.loop-i.invariant.1 in
    (omega (arith, w.few_cells, c.saturating_add.ensures), omega (arith, w.few_pending, c.saturating_add.ensures))

pub returns-in_err-advance : goal.returns-in_err-advance
returns-in_err-advance c =
    c.from_residual.ensures ∙ walking_off c.loop-i.invariant.1 c.loop-i.invariant.0 (omega arith) (turned-off c.advance.ensures c.in_err-advance.was)

pub returns-then-walk-eq0 : goal.returns-then-walk-eq0
unfolding max_value_bytes
returns-then-walk-eq0 c =
    let on = walking_on c.loop-i.invariant.1 c.loop-i.invariant.0 (omega arith) (omega (arith, c.saturating_add.ensures, c.loop-i.auto.i))
    (turned_on c.advance.ensures c.in_ok-advance.was) in
    walking_done on (omega arith)

pub loop-i-preserved : goal.loop-i-preserved
unfolding max_value_bytes
loop-i-preserved c =
    let on = walking_on c.loop-i.invariant.1 c.loop-i.invariant.0 (omega arith) (omega (arith, c.saturating_add.ensures, c.loop-i.auto.i))
    (turned_on c.advance.ensures c.in_ok-advance.was) in
    (omega arith, on)

pub returns : goal.returns
unfolding max_value_bytes
returns c =
    walking_stopped c.loop-i.invariant.1 c.loop-i.invariant.0 (omega (arith, c.saturating_add.ensures)) (omega arith)
