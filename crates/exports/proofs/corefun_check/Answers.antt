use mathlib.Core.Path.{ap, ◌∙◌}
use Rattle.exports.specs.Told.{check_told}
use Rattle.exports.proofs.Numbers.{check_is}
use Rattle.exports.proofs.corefun_check.Goals as goal

pub returns-clause-answer : goal.returns-clause-answer
returns-clause-answer c = c.told_of.ensures ∙ check_is _ ∙ ap check_told c.check.ensures.answer
