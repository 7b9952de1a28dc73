use Rattle.conversions.proofs.Opens.{no_record, open_full, open_done}
use Rattle.conversions.proofs.opening.open.Goals as goal

pub returns-then-not-one_value : goal.returns-then-not-one_value
returns-then-not-one_value c =
    no_record c.args.held.now c.args.journal.now c.one_value.ensures c.if-not-one_value.true

pub returns-then-not-fits_open : goal.returns-then-not-fits_open
returns-then-not-fits_open c =
    open_full c.args.held.now c.args.journal.now c.one_value.ensures c.if-not-one_value.false c.fits_open.ensures c.if-not-fits_open.true

pub returns : goal.returns
returns c =
    open_done c.args.held.now c.args.journal.now c.one_value.ensures c.if-not-one_value.false c.fits_open.ensures c.if-not-fits_open.false c.write_open.ensures
