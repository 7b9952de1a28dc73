use Rattle.types.specs.Codes.{code_at}
use Rattle.types.proofs.nodes.code_at.Goals as goal

pub returns : goal.returns
unfolding code_at
returns c =
    cc
