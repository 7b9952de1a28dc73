use Prim.Native.Nat.{◌+◌}
use native.Mathlib.Omega.{arith}
use mathlib.Core.Path.{ap, refl, subst, sym, ◌∙◌}
use Rattle.std.proofs.lemmas.Result.{err_from_is_err_and}
use Rattle.std.specs.Prelude.{Err}
use Rattle.program.specs.Parts.{FunctionField}
use Rattle.entries.proofs.Verdicts.{going_start, going_more, going_stops, going_end}
use Rattle.entries.proofs.Functions.{functions_from_entry, functions-step, functions-over}
use Rattle.entries.proofs.figured.Figured.test_functions.Goals as goal

pub loop-at-init : goal.loop-at-init
loop-at-init c =
    (refl, going_start _ _)

pub test_function-requires-clause-function_field : goal.test_function-requires-clause-function_field
test_function-requires-clause-function_field c =
    subst (FunctionField _) (sym c.from.ensures) (c.args.self.now.formed.functions c.loop-at.at-index (omega arith))

pub test_function-requires-clause-room : goal.test_function-requires-clause-room
test_function-requires-clause-room c =
    omega (arith, c.requires, c.loop-at.invariant.0)

pub loop-at-preserved : goal.loop-at-preserved
loop-at-preserved c = (
  c.test_function.auto.used ∙ c.loop-at.invariant.0,
  going_more _ _
      (functions_from_entry c.args.self.now.program.now c.args.self.now.types.now c.args.self.now.terms.now c.args.self.now.functions.now
      c.args.self.now.nodes.now c.args.self.now.free.now (c.loop-at.at-index + 1)) _ _ _ _ _
      (functions-step c.args.self.now.program.now c.args.self.now.types.now c.args.self.now.terms.now c.args.self.now.functions.now c.args.self.now.nodes.now
      c.args.self.now.free.now c.args.self.now.measured c.loop-at.at-index _ (omega arith) c.from.ensures)
      c.loop-at.invariant.1 _ c.test_function.ensures c.in_ok-test_function.was,
)

pub shape_of-used-in_err-test_function : goal.shape_of-used-in_err-test_function
shape_of-used-in_err-test_function c =
    c.test_function.auto.used ∙ c.loop-at.invariant.0

pub returns-in_err-test_function : goal.returns-in_err-test_function
returns-in_err-test_function c =
    let e = err_from_is_err_and c.from_residual.result c.from_residual.ensures.1 in
    rw (e.1 ∙ ap Err e.2) (going_stops _ _ (functions_from_entry c.args.self.now.program.now c.args.self.now.types.now c.args.self.now.terms.now
    c.args.self.now.functions.now c.args.self.now.nodes.now c.args.self.now.free.now (c.loop-at.at-index + 1)) _ _ _ _ _
    (functions-step c.args.self.now.program.now c.args.self.now.types.now c.args.self.now.terms.now c.args.self.now.functions.now c.args.self.now.nodes.now
    c.args.self.now.free.now c.args.self.now.measured c.loop-at.at-index _ (omega arith) c.from.ensures)
    c.loop-at.invariant.1 _ c.test_function.ensures _ c.in_err-test_function.was)

pub returns : goal.returns
returns c =
    going_end _ _ _ _ (functions-over c.args.self.now.program.now c.args.self.now.types.now c.args.self.now.terms.now c.args.self.now.functions.now
    c.args.self.now.nodes.now c.args.self.now.free.now c.loop-at.at-index (omega arith)) c.loop-at.invariant.1
