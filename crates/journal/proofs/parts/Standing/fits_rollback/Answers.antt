use mathlib.Core.Path.{sym, ap}
use lib.ListN.{length}
use lib.Dec.{leb}
use Rattle.journal.proofs.Turns.{rollback_length}
use Rattle.journal.proofs.parts.Standing.fits_rollback.Goals as goal

pub returns : goal.returns
returns c =
    ap (λ m. leb m (length c.args.self.now.journal.now))
    (sym (rollback_length c.args.self.now.places c.args.self.now.journal.now c.args.held.now c.args.self.now.in_form c.requires))
