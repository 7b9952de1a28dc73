use Rattle.journal.proofs.Stands.{standing, entries_are}
use Rattle.journal.proofs.parts.Standing.standing_fields.Goals as goal

pub returns : goal.returns
returns c =
    entries_are (standing _ _ c.args.self.now.in_form)
