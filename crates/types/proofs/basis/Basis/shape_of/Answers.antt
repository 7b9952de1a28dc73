use Rattle.types.proofs.Equal.{node-of}
use Rattle.types.proofs.basis.Basis.shape_of.Goals as goal

pub returns : goal.returns
returns c =
    node-of c.settled.ensures c.plain.ensures
