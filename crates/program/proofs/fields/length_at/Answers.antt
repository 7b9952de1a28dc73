use Rattle.calls.specs.Fields.{length_at}
use Rattle.program.proofs.fields.length_at.Goals as goal

pub returns : goal.returns
unfolding length_at
returns c =
    c.read16.ensures
