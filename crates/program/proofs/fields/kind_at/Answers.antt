use Rattle.calls.specs.Fields.{kind_at}
use Rattle.program.proofs.fields.kind_at.Goals as goal

pub returns : goal.returns
unfolding kind_at
returns c =
    c.byte_at.ensures
