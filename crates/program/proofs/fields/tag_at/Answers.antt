use Rattle.calls.specs.Fields.{tag_at}
use Rattle.program.proofs.fields.tag_at.Goals as goal

pub returns : goal.returns
unfolding tag_at
returns c =
    c.byte_at.ensures
