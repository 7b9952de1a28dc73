use mathlib.Core.Path.{sym, ap, ◌∙◌}
use Rattle.std.proofs.Common.{Err, arith, rules, tests}
use Rattle.replay.proofs.Beginnings.{begins-end, begins-malformed, begins-play}
use Rattle.replay.proofs.Parts.{within}
use Rattle.replay.proofs.Parsed.{ahead-narrow, ahead-goes}
use Rattle.replay.proofs.Turns.{went, step-ends}
use Rattle.replay.proofs.playing.start.Goals as goal

pub returns-then-is_empty : goal.returns-then-is_empty
returns-then-is_empty c =
    begins-end c.args.program.now c.args.script.now c.args.journal.now c.args.answers.now c.args.workspace.now _
    (step-ends c.args.program.now c.args.script.now 0 0 c.args.journal.now c.args.answers.now c.args.workspace.now (search (rules, tests)))

pub returns-in_err-part : goal.returns-in_err-part
returns-in_err-part c =
    rw (went c.from_residual.ensures.1 ∙ ap Err c.in_err-part.ensures.place)
    (begins-malformed c.args.program.now c.args.script.now c.args.journal.now c.args.answers.now c.args.workspace.now _ c.in_err-part.ensures.said)

pub begin-requires-clause-from_le_next : goal.begin-requires-clause-from_le_next
begin-requires-clause-from_le_next c =
    let w = within c.args.script.now 0 (sym c.in_ok-part.ensures.said) in
    (w.ordered, w.inside)

pub begin-requires-clause-n_in_bounds : goal.begin-requires-clause-n_in_bounds
begin-requires-clause-n_in_bounds c =
    ahead-narrow c.args.script.now _ _ 0 0 c.requires _ (sym c.in_ok-part.ensures.said)

pub begin-requires-clause-ahead : goal.begin-requires-clause-ahead
begin-requires-clause-ahead c =
    ahead-goes c.args.script.now _ _ 0 0 c.requires _ (sym c.in_ok-part.ensures.said)

pub returns : goal.returns
returns c =
    begins-play c.args.program.now c.args.script.now c.args.journal.now c.args.answers.now c.args.workspace.now _ _ _ _ _ _
    c.in_ok-part.ensures.said c.begin.ensures
