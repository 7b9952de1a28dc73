use mathlib.Core.Path.{ap, ◌∙◌}
use native.Mathlib.Omega.{arith}
use mathlib.Core.List.{[]}
use Rattle.std.proofs.lemmas.Result.{err_from_is_err_and}
use Rattle.std.specs.Prelude.{Err}
use Rattle.rules.specs.Limits.{max_terms}
use Rattle.entries.proofs.Whole.{ends-sound, ends_stops, marks_none}
use Rattle.entries.proofs.figured.Figured.test_uses.Goals as goal

pub test_terms-requires : goal.test_terms-requires
test_terms-requires c =
    omega (arith, c.args.self.now.formed.few_terms)

pub test_bodies-requires : goal.test_bodies-requires
test_bodies-requires c =
    omega (arith, c.args.self.now.formed.few_terms, c.test_terms.auto.used)

pub returns-in_err-test_terms : goal.returns-in_err-test_terms
returns-in_err-test_terms c =
    let e = err_from_is_err_and c.from_residual.result c.from_residual.ensures.1 in
    rw (e.1 ∙ ap Err e.2) (ends_stops _ _ _ _ (c.test_terms.ensures [] (marks_none max_terms)) _ c.in_err-test_terms.was)

pub returns : goal.returns
returns c =
    ends-sound _ _ _ _ (c.test_terms.ensures [] (marks_none max_terms)) c.in_ok-test_terms.was
    c.test_bodies.result c.test_bodies.ensures
