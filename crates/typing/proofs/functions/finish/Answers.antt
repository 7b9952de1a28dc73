use mathlib.Core.Path.{refl}
use native.Mathlib.Omega.{arith}
use Rattle.rules.specs.Limits.{max_parameters}
use Rattle.program.proofs.Rooms.{function-room}
use Rattle.typing.proofs.Ending.{result-known, parameter_known, result-differs, dynamic-unit, dynamic-used, dynamic-unused}
use borrow.Author.Rules.{rules}
use Rattle.typing.proofs.functions.finish.Goals.{then-is_unit-via-then-is_unit, then-is_unit-via-else-is_unit+then-contains}
use Rattle.typing.proofs.functions.finish.Goals as goal

pub function_result-requires : goal.function_result-requires
function_result-requires c =
    omega (arith, function-room c.requires.signed.formed)

pub same-requires : goal.same-requires
same-requires c =
    (c.requires.known, result-known c.requires.signed _ c.function_result.ensures refl)

pub function_parameters-last-requires : goal.function_parameters-last-requires
function_parameters-last-requires c =
    omega (arith, function-room c.requires.signed.formed)

pub overflow_sub-last : goal.overflow_sub-last
overflow_sub-last c =
    omega (arith, c.requires.signed.formed.some)

pub bounds-row-last : goal.bounds-row-last
unfolding max_parameters
bounds-row-last c =
    omega (arith, c.requires.signed.formed.few)

pub is_unit-requires : goal.is_unit-requires
is_unit-requires c =
    parameter_known c.requires.signed _ (omega (arith, c.requires.signed.formed.some)) refl

pub overflow_cast-last : goal.overflow_cast-last
unfolding max_parameters
overflow_cast-last c =
    search rules

pub contains-requires : goal.contains-requires
unfolding max_parameters
contains-requires c =
    omega (arith, c.requires.signed.formed.few)

pub returns : goal.returns
returns c =
    dynamic-unused c.requires.signed _ _ c.function_result.ensures refl c.same.ensures
    c.if-not-same.false (omega (arith, c.function_parameters-last.ensures)) refl c.is_unit.ensures _ c.contains.ensures
    c.if-is_unit.false c.if-contains.false

pub returns-then-not-same : goal.returns-then-not-same
returns-then-not-same c =
    result-differs c.requires.signed _ _ _ c.function_result.ensures refl c.same.ensures
    c.if-not-same.true

pub returns-then-is_unit : goal.returns-then-is_unit
returns-then-is_unit c = elim c.then-is_unit.branch [
  | then-is_unit-via-then-is_unit w ↦ dynamic-unit c.requires.signed _ _ c.function_result.ensures refl c.same.ensures
      c.if-not-same.false (omega arith) refl c.is_unit.ensures _ w.if-is_unit.true
  | then-is_unit-via-else-is_unit+then-contains w ↦ dynamic-used c.requires.signed _ _ c.function_result.ensures refl c.same.ensures
      c.if-not-same.false (omega arith) refl c.is_unit.ensures _ w.contains.ensures w.if-contains.true
]
