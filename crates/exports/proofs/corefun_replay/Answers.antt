use mathlib.Core.Path.{ap, ◌∙◌}
use Rattle.exports.specs.Told.{replay_told}
use Rattle.exports.proofs.Scripts.{booked_as}
use Rattle.exports.proofs.corefun_replay.Goals as goal

pub returns-clause-answer : goal.returns-clause-answer
returns-clause-answer c = c.replay_told.ensures ∙ ap replay_told c.replay.ensures.result.answer

pub returns-clause-book : goal.returns-clause-book
returns-clause-book c = booked_as _ _ _ _ _ _ _ _ c.replay.ensures.result.answer c.replay.ensures.book
