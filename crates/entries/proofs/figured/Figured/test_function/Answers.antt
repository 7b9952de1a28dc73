use lib.ListN.{length}
use native.Mathlib.Omega.{arith}
use mathlib.Core.Path.{sym, ◌∙◌}
use borrow.Author.Tests.{not-true, not-false}
use Rattle.program.proofs.Rooms.{function-room}
use Rattle.calls.proofs.Entries.{below_wider}
use Rattle.entries.proofs.Functions.{body-decided, body-noted, type-absent, body-absent, used-before, type_not_plain, function-sound}
use Rattle.entries.proofs.figured.Figured.test_function.Goals as goal

pub overflow_add-from : goal.overflow_add-from
overflow_add-from c =
    omega (arith, function-room c.requires.function_field)

pub function_parameters-requires : goal.function_parameters-requires
function_parameters-requires c =
    omega (arith, function-room c.requires.function_field)

pub overflow_add-from-2 : goal.overflow_add-from-2
overflow_add-from-2 c =
    omega (arith, function-room c.requires.function_field, c.function_parameters.ensures.0)

pub returns-then-not-signature_below : goal.returns-then-not-signature_below
returns-then-not-signature_below c =
    type-absent _ _ _ _ _ _ _ (sym c.signature_below.ensures ∙ not-true c.signature_below.result c.if-not-signature_below.true-raw)

pub all_below-requires : goal.all_below-requires
all_below-requires c =
    omega (arith, function-room c.requires.function_field, c.function_parameters.ensures.0)

pub returns-then-not-all_below : goal.returns-then-not-all_below
returns-then-not-all_below c =
    body-absent _ _ _ _ _ _ _ (sym c.signature_below.ensures ∙ not-false c.signature_below.result
    c.if-not-signature_below.false-raw) (body-decided c.requires.function_field _ _ _ _ c.function_parameters.ensures.0
    c.all_below.ensures (not-true c.all_below.result c.if-not-all_below.true-raw))

pub use_terms-requires-clause-n_in_bounds : goal.use_terms-requires-clause-n_in_bounds
use_terms-requires-clause-n_in_bounds c =
    omega (arith, function-room c.requires.function_field, c.function_parameters.ensures.0)

pub use_terms-requires-clause-n_value : goal.use_terms-requires-clause-n_value
use_terms-requires-clause-n_value c =
    below_wider (length c.args.self.now.terms.now) _ _
    (omega arith) (sym c.all_below.ensures ∙ not-false c.all_below.result c.if-not-all_below.false-raw)

pub shape_of-used-then-not-use_terms : goal.shape_of-used-then-not-use_terms
shape_of-used-then-not-use_terms c =
    c.use_terms.auto.used

pub returns-then-not-use_terms : goal.returns-then-not-use_terms
returns-then-not-use_terms c =
    used-before _ _ _ _ _ _ _ _ (sym c.signature_below.ensures ∙ not-false c.signature_below.result
    c.if-not-signature_below.false-raw) (body-decided c.requires.function_field _ _ _ _ c.function_parameters.ensures.0
    c.all_below.ensures (not-false c.all_below.result c.if-not-all_below.false-raw))
    (body-noted c.requires.function_field _ _ _ _ _ c.function_parameters.ensures.0 c.use_terms.ensures
    (not-true c.use_terms.result c.if-not-use_terms.true-raw))

pub signature_plain-requires-clause-function_field : goal.signature_plain-requires-clause-function_field
signature_plain-requires-clause-function_field c =
    c.requires.function_field

pub signature_plain-requires-clause-at_value : goal.signature_plain-requires-clause-at_value
signature_plain-requires-clause-at_value c =
    below_wider (length c.args.self.now.types.now) _ _ (omega arith)
    (sym c.signature_below.ensures ∙ not-false c.signature_below.result c.if-not-signature_below.false-raw)

pub shape_of-used-then-not-signature_plain : goal.shape_of-used-then-not-signature_plain
shape_of-used-then-not-signature_plain c =
    c.use_terms.auto.used

pub returns-then-not-signature_plain : goal.returns-then-not-signature_plain
returns-then-not-signature_plain c =
    type_not_plain _ _ _ _ _ _ _ _ (sym c.signature_below.ensures ∙ not-false c.signature_below.result
    c.if-not-signature_below.false-raw) (body-decided c.requires.function_field _ _ _ _ c.function_parameters.ensures.0
    c.all_below.ensures (not-false c.all_below.result c.if-not-all_below.false-raw))
    (body-noted c.requires.function_field _ _ _ _ _ c.function_parameters.ensures.0 c.use_terms.ensures
    (not-false c.use_terms.result c.if-not-use_terms.false-raw))
    (sym c.signature_plain.ensures ∙ not-true c.signature_plain.result c.if-not-signature_plain.true-raw)

pub shape_of-used : goal.shape_of-used
shape_of-used c =
    c.use_terms.auto.used

pub returns : goal.returns
returns c =
    function-sound _ _ _ _ _ _ _ _ (sym c.signature_below.ensures ∙ not-false c.signature_below.result
    c.if-not-signature_below.false-raw) (body-decided c.requires.function_field _ _ _ _ c.function_parameters.ensures.0
    c.all_below.ensures (not-false c.all_below.result c.if-not-all_below.false-raw))
    (body-noted c.requires.function_field _ _ _ _ _ c.function_parameters.ensures.0 c.use_terms.ensures
    (not-false c.use_terms.result c.if-not-use_terms.false-raw))
    (sym c.signature_plain.ensures ∙ not-false c.signature_plain.result c.if-not-signature_plain.false-raw)
