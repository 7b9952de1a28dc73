use mathlib.Core.Path.{sym, ap, ◌∙◌}
use Rattle.std.proofs.Common.{Err}
use Rattle.replay.proofs.Turns.{went, turn_breaks, turn-plays}
use Rattle.replay.proofs.Parts.{within}
use Rattle.replay.proofs.Parsed.{ahead-narrow, ahead-line}
use Rattle.replay.proofs.playing.turn_at.Goals as goal

pub returns-in_err-part : goal.returns-in_err-part
returns-in_err-part c =
    rw (went c.from_residual.ensures.1 ∙ ap Err c.in_err-part.ensures.place)
    (turn_breaks c.args.program.now c.args.script.now c.args.at c.args.count c.args.journal.now c.args.answers.now c.args.workspace.now _
    c.in_err-part.ensures.said)

pub turn-requires-clause-from_le_next : goal.turn-requires-clause-from_le_next
turn-requires-clause-from_le_next c =
    let w = within c.args.script.now c.args.at (sym c.in_ok-part.ensures.said) in
    (w.ordered, w.inside)

pub turn-requires-clause-n_in_bounds : goal.turn-requires-clause-n_in_bounds
turn-requires-clause-n_in_bounds c =
    let q = sym c.in_ok-part.ensures.said in
    (ahead-narrow c.args.script.now _ _ _ _ c.requires.ahead _ q, ahead-line c.args.script.now _ _ _ _ c.requires.ahead _ q)

pub returns : goal.returns
returns c =
    turn-plays c.args.program.now c.args.script.now c.args.at c.args.count c.args.journal.now c.args.answers.now c.args.workspace.now _ _ _ _ _ _
    c.in_ok-part.ensures.said c.turn.ensures
