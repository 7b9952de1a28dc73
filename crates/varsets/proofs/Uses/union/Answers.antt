use Rattle.varsets.proofs.Sets.{holds_union}
use Rattle.varsets.proofs.Uses.union.Goals as goal

pub returns : goal.returns
returns c =
    holds_union c.args.self c.args.other
