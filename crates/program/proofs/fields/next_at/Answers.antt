use Rattle.calls.specs.Fields.{next_at}
use Rattle.program.proofs.fields.next_at.Goals as goal

pub returns : goal.returns
unfolding next_at
returns c =
    cc
