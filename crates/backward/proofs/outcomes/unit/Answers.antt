use mathlib.Core.Path.{refl, sym, ap, ◌∙◌}
use Rattle.valuegraph.specs.Nodes.{kind_named}
use Rattle.backward.proofs.Leaves.{unit_named}
use Rattle.backward.proofs.outcomes.unit.Goals as goal

pub returns-in-Unit : goal.returns-in-Unit
returns-in-Unit c =
    record { met = λ _. refl; differs = λ n. absurd (n (unit_named _ (sym c.kind_of.ensures ∙ c.in-Unit.is))) }

pub returns-in_default : goal.returns-in_default
returns-in_default c =
    record { met = λ e. absurd (c.in_default.not-Unit (c.kind_of.ensures ∙ ap kind_named e)); differs = λ _. refl }
