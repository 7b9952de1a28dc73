use Rattle.std.proofs.Common.{◌≡◌, sym, ap, ◌∙◌, arith, Err}
use Rattle.replay.specs.Inner.Steps.{stop_of}
use Rattle.replay.proofs.Turns.{went}
use Rattle.replay.proofs.Scans.{reading_starts, reading_over, reading_breaks, reading_stops, reading_further, reading_inside, reading_goes}
use Rattle.replay.proofs.playing.read_all.Goals as goal

pub loop-at-init : goal.loop-at-init
loop-at-init c = reading_starts c.args.script.now c.args.width c.args.room

pub returns-in_err-part : goal.returns-in_err-part
returns-in_err-part c =
    ap stop_of (went c.from_residual.ensures.1 ∙ ap Err c.in_err-part.ensures.place)
    ∙ reading_breaks c.args.script.now c.args.width c.args.room _ _ c.loop-at.invariant c.in_err-part.ensures.said

pub fits-requires : goal.fits-requires
fits-requires c = c.loop-at.invariant.line

pub returns-in_err-at : goal.returns-in_err-at
returns-in_err-at c =
    ap stop_of (went c.from_residual-in_err-at.ensures.1)
    ∙ reading_stops c.args.script.now c.args.width c.args.room _ _ c.loop-at.invariant _ _ c.in_ok-part.ensures.said c.in_err-at.ensures

pub overflow_add-count : goal.overflow_add-count
overflow_add-count c =
    let f = reading_further c.args.script.now c.args.width c.args.room _ _ c.loop-at.invariant _ _ c.in_ok-part.ensures.said c.in_ok-at.ensures in
    let i = reading_inside c.args.script.now c.args.width c.args.room _ _ c.loop-at.invariant _ _ c.in_ok-part.ensures.said c.in_ok-at.ensures in
    omega (arith, c.loop-at.invariant.few)

pub loop-at-smaller : goal.loop-at-smaller
loop-at-smaller c =
    let f = reading_further c.args.script.now c.args.width c.args.room _ _ c.loop-at.invariant _ _ c.in_ok-part.ensures.said c.in_ok-at.ensures in
    let i = reading_inside c.args.script.now c.args.width c.args.room _ _ c.loop-at.invariant _ _ c.in_ok-part.ensures.said c.in_ok-at.ensures in
    omega arith

pub loop-at-preserved : goal.loop-at-preserved
loop-at-preserved c =
    reading_goes c.args.script.now c.args.width c.args.room _ _ c.loop-at.invariant _ _ c.in_ok-part.ensures.said c.in_ok-at.ensures

pub returns : goal.returns
returns c = reading_over c.args.script.now c.args.width c.args.room _ _ c.loop-at.invariant c.loop-at-test.false
