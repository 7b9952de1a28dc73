use native.Mathlib.Omega.{arith}
use mathlib.Core.Path.{refl, sym, ap, ◌∙◌}
use Rattle.std.specs.Prelude.{Err}
use Rattle.std.proofs.lemmas.Result.{err_from_is_err_and}
use Rattle.typing.specs.Checked.{verdict_of}
use Rattle.typing.proofs.Turns.{from_first, from_last, function-typed, function-failed, typeable_kept}
use Rattle.typing.proofs.functions.check_all.Goals as goal

pub loop-g-init : goal.loop-g-init
loop-g-init c =
    (refl, refl, c.requires.figured, from_first _ _ _ _)

pub slice_bounds-check_function-end : goal.slice_bounds-check_function-end
slice_bounds-check_function-end c =
    sym c.loop-g.invariant.1

pub check_function-requires-clause-typeable : goal.check_function-requires-clause-typeable
check_function-requires-clause-typeable c =
    typeable_kept c.loop-g.invariant.0 c.requires.typeable

pub check_function-requires-clause-figured : goal.check_function-requires-clause-figured
check_function-requires-clause-figured c =
    c.loop-g.invariant.2

pub check_function-requires-clause-g_in_bounds : goal.check_function-requires-clause-g_in_bounds
check_function-requires-clause-g_in_bounds c =
    (omega arith, c.requires.signatures_are, omega (arith, c.loop-g.invariant.1))

pub loop-g-preserved : goal.loop-g-preserved
loop-g-preserved c = (
  c.check_function.auto.ws ∙ c.loop-g.invariant.0,
  c.check_function.auto.vars ∙ c.loop-g.invariant.1,
  c.check_function.ensures.1,
  c.loop-g.invariant.3 ∙ function-typed _ _ _ _ _ (omega arith)
      (sym c.check_function.ensures.0 ∙ ap verdict_of c.in_ok-check_function.was),
)

pub returns-in_err-check_function : goal.returns-in_err-check_function
returns-in_err-check_function c =
    let e = err_from_is_err_and c.from_residual.result c.from_residual.ensures.1 in
    ap verdict_of (e.1 ∙ ap Err e.2)
    ∙ function-failed _ _ _ _ _ (omega arith) _ (ap verdict_of (sym c.in_err-check_function.was) ∙ c.check_function.ensures.0)
    ∙ sym c.loop-g.invariant.3

pub returns : goal.returns
returns c =
    sym (c.loop-g.invariant.3 ∙ from_last _ _ _ _ _ (omega arith))
