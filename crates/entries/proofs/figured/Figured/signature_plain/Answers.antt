use native.Mathlib.Omega.{arith}
use mathlib.Core.Path.{◌∙◌}
use borrow.Author.Tests.{not-true, not-false}
use Rattle.entries.specs.Marks.{all_plain_in}
use Rattle.program.proofs.Rooms.{function-room}
use Rattle.entries.proofs.Turns.{plain-append}
use Rattle.entries.proofs.Functions.{signature-stops, signature_rest, result-below, parameters-below}
use Rattle.entries.proofs.figured.Figured.signature_plain.Goals as goal

pub overflow_add-at : goal.overflow_add-at
overflow_add-at c =
    omega (arith, function-room c.requires.function_field)

pub all_plain-requires-clause-n_in_bounds : goal.all_plain-requires-clause-n_in_bounds
all_plain-requires-clause-n_in_bounds c =
    omega (arith, function-room c.requires.function_field)

pub all_plain-requires-clause-n_value : goal.all_plain-requires-clause-n_value
all_plain-requires-clause-n_value c =
    result-below c.requires.function_field _ c.requires.at_value

pub returns-then-not-all_plain : goal.returns-then-not-all_plain
returns-then-not-all_plain c =
    signature-stops c.requires.function_field (all_plain_in c.args.self.now.nodes.now c.args.self.now.free.now)
    (plain-append c.args.self.now.nodes.now c.args.self.now.free.now) c.all_plain.result c.all_plain.ensures
    (not-true c.all_plain.result c.if-not-all_plain.true-raw)

pub function_parameters-n-requires : goal.function_parameters-n-requires
function_parameters-n-requires c =
    omega (arith, function-room c.requires.function_field)

pub overflow_add-at-2 : goal.overflow_add-at-2
overflow_add-at-2 c =
    omega (arith, function-room c.requires.function_field)

pub all_plain-requires-2-clause-n_in_bounds : goal.all_plain-requires-2-clause-n_in_bounds
all_plain-requires-2-clause-n_in_bounds c =
    omega (arith, function-room c.requires.function_field, c.function_parameters-n.ensures.0)

pub all_plain-requires-2-clause-n_value : goal.all_plain-requires-2-clause-n_value
all_plain-requires-2-clause-n_value c =
    parameters-below c.requires.function_field _ _ c.function_parameters-n.ensures.0 c.requires.at_value

pub returns : goal.returns
returns c =
    c.all_plain-2.ensures ∙ signature_rest c.requires.function_field (all_plain_in c.args.self.now.nodes.now c.args.self.now.free.now)
    (plain-append c.args.self.now.nodes.now c.args.self.now.free.now) _ c.all_plain.result
    c.function_parameters-n.ensures.0 c.all_plain.ensures
    (not-false c.all_plain.result c.if-not-all_plain.false-raw)
