use Rattle.std.proofs.Common.{rules}
use Rattle.requests.proofs.Beginning.{enough-types}
use Rattle.conversions.specs.Turns.{rollback_of}
use Rattle.conversions.proofs.Loads.{turn-in-room, refused-in-room}
use Rattle.conversions.proofs.programs.rollback.Goals as goal

pub load_into-requires-clause-typing_bytes_in_bounds : goal.load_into-requires-clause-typing_bytes_in_bounds
load_into-requires-clause-typing_bytes_in_bounds c =
    enough-types _ _ c.requires

pub returns-in_err-loaded : goal.returns-in_err-loaded
returns-in_err-loaded c =
    refused-in-room (λ P. rollback_of P c.args.fuel c.args.journal.now) c.in_err-loaded.ensures (search rules)

pub returns : goal.returns
returns c =
    turn-in-room (λ P. rollback_of P c.args.fuel c.args.journal.now) c.in_ok-loaded.ensures c.rollback.ensures
