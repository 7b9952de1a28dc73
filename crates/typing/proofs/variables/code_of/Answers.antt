use mathlib.Core.Path.{◌∙◌, ap}
use Rattle.types.specs.Codes.{code_at}
use Rattle.typing.proofs.variables.code_of.Goals as goal

pub returns : goal.returns
returns c =
    c.code_at.ensures ∙ ap (code_at _) c.slot.ensures.0
