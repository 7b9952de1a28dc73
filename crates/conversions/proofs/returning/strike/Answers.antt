use Rattle.conversions.proofs.Rollbacks.{other-steps, no_room, rolled}
use Rattle.conversions.proofs.returning.strike.Goals as goal

pub returns-then-steps-noted : goal.returns-then-steps-noted
returns-then-steps-noted c =
    other-steps c.args.journal.now c.args.held.now c.args.done c.requires.held_value.0 c.requires.held_value.1
    c.from-steps.ensures c.newest-noted.ensures.steps c.if-steps-noted.true

pub returns-then-not-fits_rollback : goal.returns-then-not-fits_rollback
returns-then-not-fits_rollback c =
    no_room c.args.journal.now c.args.held.now c.args.done c.requires.held_value.0 c.requires.held_value.1
    c.from-steps.ensures c.newest-noted.ensures.steps c.if-steps-noted.false c.fits_rollback.ensures c.if-not-fits_rollback.true

pub returns : goal.returns
returns c =
    rolled c.args.journal.now c.args.held.now c.args.done c.requires.held_value.0 c.requires.held_value.1
    c.from-steps.ensures c.newest-noted.ensures.steps c.if-steps-noted.false c.fits_rollback.ensures
    c.if-not-fits_rollback.false c.write_rollback.ensures
