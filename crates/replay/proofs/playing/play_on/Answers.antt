use mathlib.Core.Path.{◌∙◌}
use Rattle.replay.proofs.Turns.{went, going-starts, going-stops, going-ends, going-further, going-ahead, going-goes}
use native.Mathlib.Omega.{arith}
use Rattle.replay.proofs.playing.play_on.Goals as goal

pub loop-at-init : goal.loop-at-init
loop-at-init c =
    going-starts c.args.program.now c.args.script.now c.args.start c.args.journal.now c.args.answers.now c.args.workspace.now c.requires

pub turn_at-requires-clause-ahead : goal.turn_at-requires-clause-ahead
turn_at-requires-clause-ahead c = c.loop-at.invariant.ahead

pub returns-in_err-at : goal.returns-in_err-at
returns-in_err-at c =
    rw (went c.from_residual.ensures.1)
    (going-stops c.args.program.now c.args.script.now c.args.start c.args.journal.now c.args.answers.now c.args.workspace.now
    c.loop-at.invariant _ _ _ _ _ c.in_err-at.was c.turn_at.ensures)

pub overflow_add-count : goal.overflow_add-count
overflow_add-count c =
    let h = going-ahead c.args.program.now c.args.script.now c.args.start c.args.journal.now c.args.answers.now c.args.workspace.now
    c.loop-at.invariant _ _ _ _ _ c.in_ok-at.was c.turn_at.ensures in
    omega (arith, h.few, h.inside)

pub loop-at-smaller : goal.loop-at-smaller
loop-at-smaller c =
    let h = going-ahead c.args.program.now c.args.script.now c.args.start c.args.journal.now c.args.answers.now c.args.workspace.now
    c.loop-at.invariant _ _ _ _ _ c.in_ok-at.was c.turn_at.ensures in
    let f = going-further c.args.program.now c.args.script.now c.args.start c.args.journal.now c.args.answers.now c.args.workspace.now
    c.loop-at.invariant _ _ _ _ _ c.in_ok-at.was c.turn_at.ensures in
    omega (arith, h.inside, f)

pub loop-at-preserved : goal.loop-at-preserved
loop-at-preserved c =
    going-goes c.args.program.now c.args.script.now c.args.start c.args.journal.now c.args.answers.now c.args.workspace.now
    c.loop-at.invariant _ _ _ _ _ c.in_ok-at.was c.turn_at.ensures
    c.turn_at.auto.journal c.turn_at.auto.answers c.turn_at.auto.workspace

pub returns : goal.returns
returns c =
    going-ends c.args.program.now c.args.script.now c.args.start c.args.journal.now c.args.answers.now c.args.workspace.now c.loop-at.invariant
    c.loop-at-test.false
