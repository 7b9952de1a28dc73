use Rattle.typing.proofs.variables.named.Goals as goal

pub returns : goal.returns
returns c =
    record { code = c.code_of.ensures; uses = c.only.ensures }
