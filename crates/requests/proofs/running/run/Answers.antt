use mathlib.Core.Path.{ap, ◌∙◌}
use Rattle.std.proofs.Common.{rules}
use Rattle.loading.proofs.Loading.{accepted_as}
use Rattle.requests.specs.Runs.{run_of, is_back}
use Rattle.requests.proofs.Rows.{askable, allowed, not_called, ran_as}
use Rattle.requests.proofs.running.run.Goals as goal

pub admit-requires : goal.admit-requires
admit-requires c =
    askable (accepted_as c.args.program.accepted)

pub returns-in_err-admit : goal.returns-in_err-admit
returns-in_err-admit c =
    not_called (accepted_as c.args.program.accepted) c.is_back-by_result.ensures c.in_err-admit.ensures _ _ (search rules)

pub run-requires : goal.run-requires
run-requires c =
    allowed (accepted_as c.args.program.accepted) (c.is_back-by_result.ensures ∙ ap is_back c.in-Forward.is) c.in_ok-admit.ensures c.requires

pub returns-in-Forward : goal.returns-in-Forward
unfolding run_of
returns-in-Forward c =
    rw c.in-Forward.is (ran_as (accepted_as c.args.program.accepted) (c.is_back-by_result.ensures ∙ ap is_back c.in-Forward.is) c.in_ok-admit.ensures _
    (c.run.ensures.means _))

pub run-requires-in-Backward : goal.run-requires-in-Backward
run-requires-in-Backward c =
    allowed (accepted_as c.args.program.accepted) (c.is_back-by_result.ensures ∙ ap is_back c.in-Backward.is) c.in_ok-admit.ensures c.requires

pub returns-in-Backward : goal.returns-in-Backward
unfolding run_of
returns-in-Backward c =
    rw c.in-Backward.is (ran_as (accepted_as c.args.program.accepted) (c.is_back-by_result.ensures ∙ ap is_back c.in-Backward.is) c.in_ok-admit.ensures _
    (c.run-in-Backward.ensures.means _))
