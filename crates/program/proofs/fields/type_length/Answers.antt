use Rattle.program.proofs.KindCases.{type-none}
use Rattle.program.proofs.fields.type_length.Goals as goal

pub returns-in-Err : goal.returns-in-Err
returns-in-Err c =
    type-none _ _ c.in-Err.ensures.1
