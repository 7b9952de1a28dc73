use native.Mathlib.Omega.{arith}
use mathlib.Core.Path.{◌∙◌}
use borrow.Author.Tests.{not-true, not-false}
use Rattle.calls.specs.Named.{below}
use Rattle.program.proofs.Rooms.{function-room}
use Rattle.entries.proofs.Turns.{below-append}
use Rattle.entries.proofs.Functions.{signature-stops, signature_rest}
use Rattle.entries.proofs.testing.signature_below.Goals as goal

pub overflow_add-at : goal.overflow_add-at
overflow_add-at c =
    omega (arith, function-room c.requires)

pub all_below-requires : goal.all_below-requires
all_below-requires c =
    omega (arith, function-room c.requires)

pub returns-then-not-all_below : goal.returns-then-not-all_below
returns-then-not-all_below c =
    signature-stops c.requires (below c.args.limit) (below-append c.args.limit) c.all_below.result
    c.all_below.ensures (not-true c.all_below.result c.if-not-all_below.true-raw)

pub function_parameters-n-requires : goal.function_parameters-n-requires
function_parameters-n-requires c =
    omega (arith, function-room c.requires)

pub overflow_add-at-2 : goal.overflow_add-at-2
overflow_add-at-2 c =
    omega (arith, function-room c.requires)

pub all_below-requires-2 : goal.all_below-requires-2
all_below-requires-2 c =
    omega (arith, function-room c.requires, c.function_parameters-n.ensures.0)

pub returns : goal.returns
returns c =
    c.all_below-2.ensures ∙ signature_rest c.requires (below c.args.limit) (below-append c.args.limit) _
    c.all_below.result c.function_parameters-n.ensures.0 c.all_below.ensures
    (not-false c.all_below.result c.if-not-all_below.false-raw)
