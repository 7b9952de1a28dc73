use native.Mathlib.Omega.{arith}
use Rattle.std.proofs.Common.{◌++◌, ap}
use Rattle.calltext.specs.Text.{text}
use Rattle.calltext.specs.Decimal.{decimal_text}
use Rattle.calltext.proofs.Writing.{wrote-both, wrote_as}
use Rattle.calltext.proofs.Figures.{at-most_twenty}
use Rattle.batch.specs.Answering.{word_error}
use borrow.Author.Rules.{rules}
use Rattle.batch.proofs.replying.word_error.Goals as goal

pub put_number-counted-requires : goal.put_number-counted-requires
put_number-counted-requires c =
    omega (arith, c.put-named.ensures.ends, c.put-named.ensures.kept, c.requires, at-most_twenty c.from.result (search rules))

pub put-requires : goal.put-requires
put-requires c =
    omega (
      arith,
      c.put-named.ensures.ends,
      c.put-named.ensures.kept,
      c.put_number-counted.ensures.ends,
      c.put_number-counted.ensures.kept,
      c.requires,
      at-most_twenty c.from.result (search rules),
    )

pub returns : goal.returns
unfolding word_error
returns c =
    wrote_as (wrote-both (wrote-both c.put-named.ensures c.put_number-counted.ensures) c.put.ensures)
    (ap (λ k. text "error word " ++ decimal_text k ++ c.args.what.now) c.from.ensures)
