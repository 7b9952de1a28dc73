use Rattle.std.proofs.Common.{rules}
use Rattle.readers.proofs.Reading.{stands_in, workshop_malformed, workshop-filled}
use Rattle.readers.proofs.workshop.Goals as goal

pub returns-in_err-journal : goal.returns-in_err-journal
returns-in_err-journal c =
    let p = workshop_malformed _ c.args.output.now (search rules) c.in_err-journal.ensures in record { answer = p.0; fills = p.1 }

pub returns : goal.returns
returns c =
    let p = workshop-filled _ _ (stands_in c.in_ok-journal.journal c.in_ok-journal.ensures)
    (rw c.in_ok-journal.ensures at c.standing_fields.ensures) _ c.fill.ensures in record { answer = p.0; fills = p.1 }
