use native.Mathlib.Omega.{arith}
use Rattle.calltext.specs.Answers.{held_line}
use Rattle.calltext.proofs.Writing.{wrote-both}
use Rattle.calltext.proofs.Digits.{hex_length}
use Rattle.calltext.proofs.answers.held_line.Goals as goal

pub put-requires : goal.put-requires
put-requires c =
    omega (
      arith,
      c.put_counts-counted.ensures.1,
      c.put_counts-counted.ensures.0.kept,
      c.encode-kept.ensures.ends,
      c.encode-kept.ensures.kept,
      c.requires,
      hex_length c.args.journal.now,
    )

pub returns : goal.returns
unfolding held_line
returns c =
    wrote-both (wrote-both c.put_counts-counted.ensures.0 c.encode-kept.ensures) c.put.ensures
