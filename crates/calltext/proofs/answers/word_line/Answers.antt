use native.Mathlib.Omega.{arith}
use Rattle.calltext.specs.Answers.{word_line}
use Rattle.calltext.proofs.Writing.{wrote-both}
use Rattle.calltext.proofs.Digits.{hex_length}
use Rattle.calltext.proofs.answers.word_line.Goals as goal

pub put-requires : goal.put-requires
put-requires c =
    omega (
      arith,
      c.put-named.ensures.ends,
      c.put-named.ensures.kept,
      c.encode-told.ensures.ends,
      c.encode-told.ensures.kept,
      c.requires,
      hex_length c.args.bytes.now,
    )

pub returns : goal.returns
unfolding word_line
returns c =
    wrote-both (wrote-both c.put-named.ensures c.encode-told.ensures) c.put.ensures
