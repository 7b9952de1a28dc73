use mathlib.Core.Path.{ap, ◌∙◌}
use Rattle.exports.specs.Told.{run_told}
use Rattle.exports.proofs.Numbers.{run_is}
use Rattle.exports.proofs.corefun_backward.Goals as goal

pub returns-clause-answer : goal.returns-clause-answer
returns-clause-answer c = c.told_of.ensures ∙ run_is _ ∙ ap run_told c.backward.ensures.answer
