use mathlib.Core.Path.{ap, ◌∙◌}
use Rattle.exports.specs.Told.{run_told}
use Rattle.exports.proofs.Numbers.{nurse_is}
use Rattle.exports.proofs.corefun_nurse.Goals as goal

pub returns-clause-answer : goal.returns-clause-answer
returns-clause-answer c = c.told_of.ensures ∙ nurse_is _ ∙ ap run_told c.nurse.ensures.answer
