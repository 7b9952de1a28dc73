use Rattle.program.proofs.views.function_body.Goals as goal

pub returns : goal.returns
returns c =
    cc
