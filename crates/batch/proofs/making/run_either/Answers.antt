use mathlib.Core.Path.{sym, ap}
use lib.ListN.{length}
use Rattle.engine.specs.Runs.{run_call}
use Rattle.batch.proofs.Telling.{means_as}
use Rattle.batch.proofs.making.run_either.Goals as goal

pub returns-then-backward : goal.returns-then-backward
unfolding run_call
returns-then-backward c =
    means_as
    (record { answer = c.backward.ensures.answer; fills = c.backward.ensures.fills; clear = c.backward.ensures.clear }) (ap (λ b. run_call b c.args.program.now c.args.function c.args.ancillae.now c.args.value.now c.args.fuel (length c.args.workspace.now) (length c.args.output.now)) (sym c.if-backward.true))

pub returns : goal.returns
unfolding run_call
returns c =
    means_as
    (record { answer = c.forward.ensures.answer; fills = c.forward.ensures.fills; clear = c.forward.ensures.clear })
    (ap (λ b. run_call b c.args.program.now c.args.function c.args.ancillae.now c.args.value.now c.args.fuel (length c.args.workspace.now)
    (length c.args.output.now)) (sym c.if-backward.false))
