use Rattle.std.proofs.Common.{rules, ◌≡◌, Err}
use Rattle.loading.proofs.Loading.{judge_sound, judge_refused, infer-typed, infer-refused}
use Rattle.loading.proofs.judge.Goals as goal

pub returns-in_err-map_err : goal.returns-in_err-map_err
returns-in_err-map_err c =
    let w : c.from_residual.result ≡ Err c.in_err-map_err.field-0.0 = search rules in
    rw w (judge_refused c.requires.placed _ c.requires.entries_tested c.map_err.ensures.cases c.in_err-map_err.was)

pub check_functions-requires-clause-typeable : goal.check_functions-requires-clause-typeable
check_functions-requires-clause-typeable c =
    judge_sound c.requires.placed _ c.requires.entries_tested c.map_err.ensures.cases c.in_ok-map_err.was (search rules) c.requires.typing_bytes_in_bounds

pub returns-in_err-map_err-2 : goal.returns-in_err-map_err-2
returns-in_err-map_err-2 c =
    let w : c.from_residual-in_err-map_err-2.result ≡ Err c.in_err-map_err-2.field-0.0 = search rules in
    rw w (infer-refused
    (judge_sound c.requires.placed _ c.requires.entries_tested c.map_err.ensures.cases c.in_ok-map_err.was (search rules) c.requires.typing_bytes_in_bounds)
    _ c.check_functions.ensures c.map_err-2.ensures.cases c.in_err-map_err-2.was)

pub returns : goal.returns
returns c =
    infer-typed
    (judge_sound c.requires.placed _ c.requires.entries_tested c.map_err.ensures.cases c.in_ok-map_err.was (search rules) c.requires.typing_bytes_in_bounds)
    _ c.check_functions.ensures c.map_err-2.ensures.cases c.in_ok-map_err-2.was c.requires.signatures_are
