use mathlib.Core.Path.{sym, ap, ◌∙◌}
use Rattle.forward.proofs.Answers.{is_value_lem, is_refused}
use Rattle.forward.proofs.outcomes.status_of.Goals as goal
use Rattle.std.specs.Prelude.{Err}

pub returns-then-answer-lt-STOPPED : goal.returns-then-answer-lt-STOPPED
returns-then-answer-lt-STOPPED c =
    sym (is_value_lem c.if-answer-lt-STOPPED.true)

pub returns : goal.returns
returns c =
    ap Err c.refusal_of.ensures ∙ sym (is_refused c.if-answer-lt-STOPPED.false)
