use Rattle.replay.proofs.Beginnings.{follow_refused, follow_accepted}
use Rattle.replay.proofs.Parsed.{ahead_as}
use Rattle.replay.proofs.Turns.{went}
use native.Mathlib.Omega.{arith}
use Rattle.replay.proofs.playing.opened_on.Goals as goal

pub returns-in_err-answer : goal.returns-in_err-answer
returns-in_err-answer c =
    rw (went c.from_residual.ensures.1)
    (follow_refused c.args.program.now c.args.script.now c.args.part c.args.journal.now c.args.answers.now c.args.workspace.now _ _ c.in_err-answer.was)

pub copy-requires : goal.copy-requires
copy-requires c = omega (arith, c.requires.ahead.line)

pub play_on-requires : goal.play_on-requires
play_on-requires c = ahead_as _ c.clear_from.auto.journal c.copy.auto.dst c.requires.ahead

pub returns : goal.returns
returns c =
    follow_accepted c.args.program.now c.args.script.now c.args.part c.args.journal.now c.args.answers.now c.args.workspace.now _ _ _ _ _ _ _ _
    c.in_ok-answer.was c.requires.n_in_bounds c.clear_from.ensures c.open_line.ensures
    c.copy.ensures c.play_on.ensures
