use mathlib.Core.Path.{sym, ◌∙◌}
use Rattle.admission.proofs.Right.{right_none, right_not, right-number}
use Rattle.admission.proofs.Callee.values_right.Goals as goal

pub returns-in_default : goal.returns-in_default
returns-in_default c =
    right_none _ _ _ _ (sym c.in_default.is ∙ c.count_values.ensures)

pub returns-then-one_value : goal.returns-then-one_value
returns-then-one_value c =
    right-number _ _ _ _ (sym c.in-Some.is ∙ c.count_values.ensures) c.one_value.ensures c.if-one_value.true c.ancillae.ensures

pub returns-else-one_value : goal.returns-else-one_value
returns-else-one_value c =
    c.if-one_value.false ∙ right_not _ _ _ _ c.one_value.ensures c.if-one_value.false
