use Rattle.program.proofs.KindCases.{term-none}
use Rattle.program.proofs.fields.term_length.Goals as goal

pub returns-in-Err : goal.returns-in-Err
returns-in-Err c =
    term-none _ _ c.in-Err.ensures.1
