use Rattle.calls.specs.Fields.{function_length}
use Rattle.program.proofs.fields.function_length.Goals as goal

pub returns : goal.returns
unfolding function_length
returns c =
    cc
