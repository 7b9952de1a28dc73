use Rattle.conversions.proofs.Converts.{convert_kept, convert_unfit}
use Rattle.conversions.proofs.converting.keep.Goals as goal

pub returns : goal.returns
returns c =
    convert_kept c.args.journal.now c.args.held.now c.args.ancillae.now c.fits_convert.ensures
    c.if-not-fits_convert.false c.requires.held_value.0 c.args.done c.requires.len_value c.args.function c.from-steps.ensures
    c.write_convert.ensures

pub returns-then-not-fits_convert : goal.returns-then-not-fits_convert
returns-then-not-fits_convert c =
    convert_unfit c.args.journal.now c.args.held.now c.args.ancillae.now c.fits_convert.ensures
    c.if-not-fits_convert.true c.args.done.steps c.args.function
