use mathlib.Core.Path.{sym, ap}
use lib.ListN.{length}
use lib.Dec.{leb}
use Rattle.journal.proofs.Turns.{open_length}
use Rattle.journal.proofs.writing.fits_open.Goals as goal

pub returns : goal.returns
returns c =
    ap (λ n. leb n (length c.args.journal.now)) (sym (open_length c.args.held.now c.requires))
