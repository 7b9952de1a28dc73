use mathlib.Core.Path.{ap, ◌∙◌}
use Rattle.exports.specs.Told.{length_told}
use Rattle.exports.proofs.Numbers.{write_is}
use Rattle.exports.proofs.corefun_workshop.Goals as goal

pub returns-clause-answer : goal.returns-clause-answer
returns-clause-answer c = c.told_of.ensures ∙ write_is _ ∙ ap length_told c.workshop.ensures.answer
