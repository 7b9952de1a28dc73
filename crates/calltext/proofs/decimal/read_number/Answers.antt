use Rattle.std.proofs.Common.{◌+◌, ◌*◌, ap, arith, rules, tests}
use Rattle.calltext.proofs.Figures.{no_digits, some_digits, stops_other, stops_large, carries, carried-all}
use Rattle.calltext.proofs.decimal.read_number.Goals as goal

pub returns-then-is_empty-clause-said : goal.returns-then-is_empty-clause-said
returns-then-is_empty-clause-said c = no_digits _ _ (search (rules, tests))

pub loop-b-init : goal.loop-b-init
loop-b-init c = record { bounded = c.requires; within = search rules; carries = some_digits _ _ (search (rules, tests)) }

pub returns-then-not-is_ascii_digit-clause-said : goal.returns-then-not-is_ascii_digit-clause-said
returns-then-not-is_ascii_digit-clause-said c =
    stops_other _ _ _ _ c.loop-b.invariant.carries c.loop-b-test.true c.if-not-is_ascii_digit.ensures.cases

pub overflow_mul-next : goal.overflow_mul-next
overflow_mul-next c = record { fits = omega (arith, c.loop-b.invariant.bounded, c.loop-b.invariant.within) }

pub returns-then-most-next-clause-said : goal.returns-then-most-next-clause-said
returns-then-most-next-clause-said c =
    stops_large _ _ _ _ c.loop-b.invariant.carries c.loop-b-test.true (omega (arith, c.if-not-is_ascii_digit.ensures.cases)) (omega (arith, c.if-not-is_ascii_digit.ensures.cases))
    _ (ap (λ k. c.loop-b.n * 10 + k) c.from.ensures) c.if-most-next.true

pub loop-b-preserved : goal.loop-b-preserved
loop-b-preserved c = record {
  bounded = c.requires;
  within = c.if-most-next.false;
  carries = carries _ _ _ _ c.loop-b.invariant.carries c.loop-b-test.true (omega (arith, c.if-not-is_ascii_digit.ensures.cases)) (omega (arith, c.if-not-is_ascii_digit.ensures.cases))
      _ (ap (λ k. c.loop-b.n * 10 + k) c.from.ensures) c.if-most-next.false;
}

pub returns-clause-said : goal.returns-clause-said
returns-clause-said c = carried-all _ _ _ _ c.loop-b.invariant.carries (search rules)
