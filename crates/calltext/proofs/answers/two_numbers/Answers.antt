use native.Mathlib.Omega.{arith}
use Rattle.calltext.specs.Answers.{two_numbers}
use Rattle.calltext.proofs.Writing.{wrote-five}
use Rattle.calltext.proofs.Figures.{at-most_twenty}
use borrow.Author.Rules.{rules}
use Rattle.calltext.proofs.answers.two_numbers.Goals as goal

pub put_number-numbered-requires : goal.put_number-numbered-requires
put_number-numbered-requires c =
    omega (arith, c.put-led.ensures.ends, c.put-led.ensures.kept, c.requires, at-most_twenty c.args.first (search rules))

pub put-parted-requires : goal.put-parted-requires
put-parted-requires c =
    omega (
      arith,
      c.put-led.ensures.ends,
      c.put-led.ensures.kept,
      c.put_number-numbered.ensures.ends,
      c.put_number-numbered.ensures.kept,
      c.requires,
      at-most_twenty c.args.first (search rules),
    )

pub put_number-placed-requires : goal.put_number-placed-requires
put_number-placed-requires c =
    omega (
      arith,
      c.put-led.ensures.ends,
      c.put-led.ensures.kept,
      c.put_number-numbered.ensures.ends,
      c.put_number-numbered.ensures.kept,
      c.put-parted.ensures.ends,
      c.put-parted.ensures.kept,
      c.requires,
      at-most_twenty c.args.first (search rules),
      at-most_twenty c.args.second (search rules),
    )

pub put-requires : goal.put-requires
put-requires c =
    omega (
      arith,
      c.put-led.ensures.ends,
      c.put-led.ensures.kept,
      c.put_number-numbered.ensures.ends,
      c.put_number-numbered.ensures.kept,
      c.put-parted.ensures.ends,
      c.put-parted.ensures.kept,
      c.put_number-placed.ensures.ends,
      c.put_number-placed.ensures.kept,
      c.requires,
      at-most_twenty c.args.first (search rules),
      at-most_twenty c.args.second (search rules),
    )

pub shape_of-out : goal.shape_of-out
shape_of-out c =
    let w = wrote-five c.put-led.ensures c.put_number-numbered.ensures c.put-parted.ensures c.put_number-placed.ensures
    c.put.ensures in
    w.kept

pub returns-clause-tells : goal.returns-clause-tells
unfolding two_numbers
returns-clause-tells c =
    wrote-five c.put-led.ensures c.put_number-numbered.ensures c.put-parted.ensures c.put_number-placed.ensures
    c.put.ensures

pub returns-clause-short : goal.returns-clause-short
unfolding two_numbers
returns-clause-short c =
    omega (
      arith,
      c.put-led.ensures.ends,
      c.put_number-numbered.ensures.ends,
      c.put-parted.ensures.ends,
      c.put_number-placed.ensures.ends,
      c.put.ensures.ends,
      at-most_twenty c.args.first (search rules),
      at-most_twenty c.args.second (search rules),
    )
