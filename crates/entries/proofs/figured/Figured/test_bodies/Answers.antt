use mathlib.Core.Path.{ap, ◌∙◌}
use Rattle.std.proofs.lemmas.Result.{err_from_is_err_and}
use Rattle.std.specs.Prelude.{Err}
use Rattle.entries.proofs.Whole.{ends-sound, ends_stops}
use Rattle.entries.proofs.figured.Figured.test_bodies.Goals as goal

pub returns-in_err-test_functions : goal.returns-in_err-test_functions
returns-in_err-test_functions c =
    let e = err_from_is_err_and c.from_residual.result c.from_residual.ensures.1 in
    rw (e.1 ∙ ap Err e.2) (λ us M. ends_stops _ _ _ _ (c.test_functions.ensures us M) _ c.in_err-test_functions.was)

pub returns : goal.returns
returns c =
    λ us M. ends-sound _ _ _ _ (c.test_functions.ensures us M) c.in_ok-test_functions.was c.test_used.result
    (λ used N. c.test_used.ensures.answer _ _ _ used N)
