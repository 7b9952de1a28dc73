use mathlib.Core.Path.{◌∙◌}
use Rattle.program.proofs.KindCases.{call_fits}
use Rattle.program.proofs.kinds.TermKind.fits.Goals as goal

pub returns-in-Call : goal.returns-in-Call
returns-in-Call c =
    rw c.in-Call.is (c.call_length.ensures ∙ call_fits _)
