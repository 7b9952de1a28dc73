use Rattle.calls.specs.Fields.{parameters_at}
use Rattle.program.proofs.fields.parameters_at.Goals as goal

pub returns : goal.returns
unfolding parameters_at
returns c =
    c.byte_at.ensures
