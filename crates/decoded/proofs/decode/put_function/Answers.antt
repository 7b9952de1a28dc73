use native.Mathlib.Omega.{arith}
use borrow.Author.Rules.{rules}
use Rattle.rules.specs.Limits.{max_parameters}
use Rattle.program.proofs.Rooms.{function-room}
use Rattle.decoded.proofs.Decoding as law
use Rattle.decoded.proofs.decode.put_function.Goals as goal

pub function_parameters-n-requires : goal.function_parameters-n-requires
function_parameters-n-requires c =
    omega (arith, function-room c.requires.g_lt_max_functions.1)

pub function_body-body-requires : goal.function_body-body-requires
function_body-body-requires c =
    function-room c.requires.g_lt_max_functions.1

pub function_result-result-requires : goal.function_result-result-requires
function_result-result-requires c =
    omega (arith, function-room c.requires.g_lt_max_functions.1)

pub overflow_add-at : goal.overflow_add-at
overflow_add-at c =
    let h = function-room c.requires.g_lt_max_functions.1 in
    search rules

pub put_listed-requires-clause-row_lt_all_rows : goal.put_listed-requires-clause-row_lt_all_rows
unfolding max_parameters
put_listed-requires-clause-row_lt_all_rows c =
    let h = function-room c.requires.g_lt_max_functions.1 in
    (omega arith, omega (arith, c.requires.g_lt_max_functions.1.few), omega arith)

pub returns : goal.returns
unfolding max_parameters
returns c =
    law.put_function c.put_heads.ensures c.put_listed.ensures c.requires.g_lt_max_functions.1
    c.function_parameters-n.ensures.0 c.function_body-body.ensures
    c.function_result-result.ensures (let e = c.function_parameters-n.ensures.0 in omega
    (arith, c.requires.g_lt_max_functions.1.few))
