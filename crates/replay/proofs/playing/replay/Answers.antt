use mathlib.Core.Path.{ap, ◌∙◌}
use mathlib.Core.Option.{some}
use Rattle.replay.specs.Playing.{reply_of}
use Rattle.replay.proofs.Parsed.{ahead-starts}
use Rattle.replay.proofs.Played.{replay_stops, replay_goes}
use Rattle.replay.proofs.Demand.{replay_booked}
use Rattle.replay.proofs.Turns.{went}
use Rattle.journal.proofs.Ends.{are_bytes}
use Rattle.replay.proofs.playing.replay.Goals as goal

pub returns-in_err-read_all : goal.returns-in_err-read_all
returns-in_err-read_all c =
    let bytes = are_bytes c.args.script.now c.shared_slice_known-2-1.given in
    let m = replay_stops c.args.program.now c.args.script.now c.args.journal.now c.args.answers.now c.args.workspace.now bytes c.from_residual.result
    (ap (λ a. some (reply_of a)) (went c.from_residual.ensures.1) ∙ c.in_err-read_all.ensures) in
    record { result = m; book = replay_booked c.args.program.now c.args.script.now c.args.journal.now c.args.answers.now c.args.workspace.now bytes _ _ _ _ m }

pub start-requires : goal.start-requires
start-requires c = ahead-starts c.args.script.now _ _ c.in_ok-read_all.ensures

pub returns-clause-result : goal.returns-clause-result
returns-clause-result c =
    let bytes = are_bytes c.args.script.now c.shared_slice_known-2-1.given in
    replay_goes c.args.program.now c.args.script.now c.args.journal.now c.args.answers.now c.args.workspace.now bytes _ _ _ _ c.in_ok-read_all.ensures c.start.ensures

pub returns-clause-book : goal.returns-clause-book
returns-clause-book c =
    let bytes = are_bytes c.args.script.now c.shared_slice_known-2-1.given in
    let m = replay_goes c.args.program.now c.args.script.now c.args.journal.now c.args.answers.now c.args.workspace.now bytes _ _ _ _ c.in_ok-read_all.ensures c.start.ensures in
    replay_booked c.args.program.now c.args.script.now c.args.journal.now c.args.answers.now c.args.workspace.now bytes _ _ _ _ m
