-- A number of one digit is written at once; any other behind the digits of its tenth, which is smaller, so that it ends.
use native.Mathlib.Omega.{arith}
use mathlib.Core.Path.{ap}
use lib.ListN.{length}
use Rattle.calltext.proofs.Writing.{wrote-byte, wrote-both, wrote_as}
use Rattle.calltext.proofs.Figures.{one-digit, more_digits, longer_by_one}
use Rattle.calltext.proofs.decimal.+put_number.Goals as goal

pub bounds-out-at : goal.bounds-out-at
bounds-out-at t c = omega (arith, c.requires, ap length (one-digit _ c.if-n-lt-BASE.true))

pub overflow_add-result : goal.overflow_add-result
overflow_add-result t c = omega (arith, c.requires, ap length (one-digit _ c.if-n-lt-BASE.true))

pub returns-then-n-lt-BASE : goal.returns-then-n-lt-BASE
returns-then-n-lt-BASE t c =
    wrote_as (wrote-byte _ _ _ (omega (arith, c.requires, ap length (one-digit _ c.if-n-lt-BASE.true)))) (one-digit _ c.if-n-lt-BASE.true)

pub put_number-end-requires : goal.put_number-end-requires
put_number-end-requires t c = (omega (arith, c.decreases), omega (arith, c.requires, longer_by_one _ c.if-n-lt-BASE.false))

pub bounds-out-end : goal.bounds-out-end
bounds-out-end t c =
    omega (arith, c.requires, longer_by_one _ c.if-n-lt-BASE.false, c.put_number-end.ensures.ends, c.put_number-end.ensures.kept)

pub overflow_add-result-2 : goal.overflow_add-result-2
overflow_add-result-2 t c =
    omega (arith, c.requires, longer_by_one _ c.if-n-lt-BASE.false, c.put_number-end.ensures.ends, c.put_number-end.ensures.kept)

pub returns : goal.returns
returns t c =
    wrote_as (wrote-both c.put_number-end.ensures
    (wrote-byte _ _ _ (omega (
      arith,
      c.requires,
      longer_by_one _ c.if-n-lt-BASE.false,
      c.put_number-end.ensures.ends,
      c.put_number-end.ensures.kept,
    )))) (more_digits _ c.if-n-lt-BASE.false)
