use mathlib.Core.Path.{◌∙◌}
use Rattle.valuebytes.proofs.Whole.{value-ends}
use Rattle.valuebytes.proofs.scan.one_value.Goals as goal

pub returns : goal.returns
returns c =
    c.eq.ensures ∙ value-ends _ _ c.value_end.ensures
