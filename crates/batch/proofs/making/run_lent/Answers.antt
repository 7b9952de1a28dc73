use native.Mathlib.Omega.{arith}
use lib.ListN.{length}
use Rattle.engine.specs.Runs.{run_call}
use Rattle.calltext.proofs.Writing.{wrote_as}
use Rattle.batch.proofs.Capping.{run-within}
use Rattle.batch.proofs.Telling.{tells-run, length-within}
use Rattle.batch.proofs.making.run_lent.Goals as goal

pub run_line-requires-clause-answer_in_bounds : goal.run_line-requires-clause-answer_in_bounds
run_line-requires-clause-answer_in_bounds c =
    let fits = length-within c.run_either-answer.result
    (run_call c.args.backward c.args.program.now c.args.function c.args.ancillae.now c.args.value.now c.args.fuel (length c.args.workspace.now)
    (length c.args.output.now)) (length c.args.output.now) c.run_either-answer.ensures.answer
    (λ y e. run-within c.args.backward (length c.args.workspace.now) (length c.args.output.now) c.args.fuel c.args.function c.args.program.now
    c.args.ancillae.now c.args.value.now y e) in
    omega (arith, fits, c.run_either-answer.auto.output)

pub run_line-requires-clause-output_in_bounds : goal.run_line-requires-clause-output_in_bounds
run_line-requires-clause-output_in_bounds c =
    let fits = length-within c.run_either-answer.result
    (run_call c.args.backward c.args.program.now c.args.function c.args.ancillae.now c.args.value.now c.args.fuel (length c.args.workspace.now)
    (length c.args.output.now)) (length c.args.output.now) c.run_either-answer.ensures.answer
    (λ y e. run-within c.args.backward (length c.args.workspace.now) (length c.args.output.now) c.args.fuel c.args.function c.args.program.now
    c.args.ancillae.now c.args.value.now y e) in
    (omega (arith, c.run_either-answer.auto.output, c.requires), omega (arith, c.requires))

pub returns-clause-answer : goal.returns-clause-answer
returns-clause-answer c =
    wrote_as c.run_line.ensures (tells-run c.run_either-answer.result
    (run_call c.args.backward c.args.program.now c.args.function c.args.ancillae.now c.args.value.now c.args.fuel (length c.args.workspace.now)
    (length c.args.output.now)) c.args.output.now c.run_either-answer.ensures.answer c.run_either-answer.ensures.fills)

pub returns-clause-fills : goal.returns-clause-fills
returns-clause-fills c =
    c.run_either-answer.ensures.fills

pub returns-clause-clear : goal.returns-clause-clear
returns-clause-clear c =
    c.run_either-answer.ensures.clear
