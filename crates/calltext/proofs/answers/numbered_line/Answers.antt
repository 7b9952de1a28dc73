use native.Mathlib.Omega.{arith}
use Rattle.calltext.specs.Answers.{numbered_line}
use Rattle.calltext.proofs.Writing.{wrote-five}
use Rattle.calltext.proofs.Figures.{at-most_twenty}
use Rattle.calltext.proofs.Digits.{hex_length}
use borrow.Author.Rules.{rules}
use Rattle.calltext.proofs.answers.numbered_line.Goals as goal

pub put-spaced-requires : goal.put-spaced-requires
put-spaced-requires c =
    omega (
      arith,
      c.put-named.ensures.ends,
      c.put-named.ensures.kept,
      c.encode-valued.ensures.ends,
      c.encode-valued.ensures.kept,
      c.requires,
      hex_length c.args.bytes.now,
    )

pub put_number-counted-requires : goal.put_number-counted-requires
put_number-counted-requires c =
    omega (
      arith,
      c.put-named.ensures.ends,
      c.put-named.ensures.kept,
      c.encode-valued.ensures.ends,
      c.encode-valued.ensures.kept,
      c.put-spaced.ensures.ends,
      c.put-spaced.ensures.kept,
      c.requires,
      hex_length c.args.bytes.now,
      at-most_twenty c.args.number
          (search rules),
    )

pub put-requires : goal.put-requires
put-requires c =
    omega (
      arith,
      c.put-named.ensures.ends,
      c.put-named.ensures.kept,
      c.encode-valued.ensures.ends,
      c.encode-valued.ensures.kept,
      c.put-spaced.ensures.ends,
      c.put-spaced.ensures.kept,
      c.put_number-counted.ensures.ends,
      c.put_number-counted.ensures.kept,
      c.requires,
      hex_length c.args.bytes.now,
      at-most_twenty c.args.number (search rules),
    )

pub shape_of-out : goal.shape_of-out
shape_of-out c =
    let w = wrote-five c.put-named.ensures c.encode-valued.ensures c.put-spaced.ensures c.put_number-counted.ensures
    c.put.ensures in
    w.kept

pub returns : goal.returns
unfolding numbered_line
returns c =
    wrote-five c.put-named.ensures c.encode-valued.ensures c.put-spaced.ensures c.put_number-counted.ensures
    c.put.ensures
