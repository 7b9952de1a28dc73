use Rattle.types.proofs.Counts.{limit-decided}
use Rattle.types.proofs.basis.Basis.within_limit.Goals as goal

pub returns : goal.returns
returns c =
    limit-decided _ c.node_count.ensures
