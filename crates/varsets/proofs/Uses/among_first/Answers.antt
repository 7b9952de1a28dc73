use Rattle.varsets.proofs.Sets.{holds-below}
use Rattle.varsets.proofs.Uses.among_first.Goals as goal

pub returns : goal.returns
returns c =
    holds-below c.args.self c.args.n c.first.ensures
