use Rattle.std.specs.Prelude.{is_some}
use mathlib.Core.Path.{ap, ◌∙◌}
use Rattle.valuebytes.proofs.Asked.{all-found}
use Rattle.valuebytes.proofs.typed.is_of.Goals as goal

pub returns : goal.returns
returns c =
    c.is_some.ensures ∙ ap is_some c.has_type_at.ensures ∙ all-found _ c.requires.s_value _
