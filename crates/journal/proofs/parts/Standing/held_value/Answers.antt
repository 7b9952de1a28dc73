use Rattle.journal.proofs.Stands.{standing, held_is}
use Rattle.journal.proofs.parts.Standing.held_value.Goals as goal

pub returns : goal.returns
returns c =
    held_is (standing _ _ c.args.self.now.in_form)
