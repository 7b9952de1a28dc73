use mathlib.Core.Path.{sym, ap, ◌∙◌}
use lib.ListN.{replicate}
use Rattle.requests.specs.Runs.{is_back}
use Rattle.engine.proofs.Beginning.{enough-le}
use Rattle.engine.proofs.Directions.{call-means, call-short}
use Rattle.engine.proofs.running.call.Goals as goal

pub returns-then-not-enough : goal.returns-then-not-enough
returns-then-not-enough c =
    call-short (is_back c.args.request.now.direction) c.args.program.now c.args.request.now.function c.args.request.now.ancillae.now
    c.args.request.now.value.now c.args.request.now.fuel c.args.workspace.now c.args.output.now (sym c.enough.ensures ∙ c.if-not-enough.true)

pub run_program-answer-requires : goal.run_program-answer-requires
run_program-answer-requires c =
    enough-le _ _ (sym c.enough.ensures ∙ c.if-not-enough.false)

pub returns : goal.returns
returns c =
    call-means (is_back c.args.request.now.direction) _ _ _ _ _ c.args.workspace.now _ (sym c.enough.ensures ∙ c.if-not-enough.false)
    c.run_program-answer.ensures (c.clear.ensures ∙ ap (λ n. replicate n 0) c.run_program-answer.auto.workspace)
