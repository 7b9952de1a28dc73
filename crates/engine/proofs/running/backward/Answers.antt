use Rattle.engine.specs.Runs.{run_call}
use Rattle.engine.proofs.running.backward.Goals as goal

pub returns : goal.returns
unfolding run_call
returns c = record { answer = c.call.ensures.answer; fills = c.call.ensures.fills; clear = c.call.ensures.clear }
