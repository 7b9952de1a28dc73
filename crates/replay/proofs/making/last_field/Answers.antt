use mathlib.Core.Path.{sym, ◌∙◌}
use Rattle.replay.proofs.Fronts.{last_missing, last-there}
use Rattle.replay.proofs.making.last_field.Goals as goal

pub returns-in-Some : goal.returns-in-Some
returns-in-Some c =
    last-there c.args.journal.now _ (sym c.in-Some.is ∙ c.survey.ensures.answer)

pub returns-in-None : goal.returns-in-None
returns-in-None c =
    last_missing c.args.journal.now (sym c.in-None.is ∙ c.survey.ensures.answer)
