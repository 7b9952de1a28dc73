use Rattle.varsets.proofs.Sets.{holds_none}
use Rattle.varsets.proofs.Uses.none.Goals as goal

pub returns : goal.returns
returns c =
    holds_none
