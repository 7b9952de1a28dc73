use native.Mathlib.Omega.{arith}
use mathlib.Core.Path.{ap}
use Rattle.calltext.proofs.Writing.{wrote_as, wrote-both}
use Rattle.messages.specs.Meanings.{meaning_of}
use Rattle.messages.specs.Replies.{refusal_text}
use Rattle.messages.proofs.Short.{meaning-short}
use Rattle.messages.proofs.replies.refusal_text.Goals as goal

pub put-requires : goal.put-requires
put-requires c =
    omega (
      arith,
      c.put_where-told.ensures.1,
      c.put_where-told.ensures.0.kept,
      c.put_meaning-meant.ensures.ends,
      c.put_meaning-meant.ensures.kept,
      meaning-short c.number.result,
      c.requires,
    )

pub returns : goal.returns
unfolding refusal_text
returns c =
    wrote-both (wrote-both c.put_where-told.ensures.0
    (wrote_as c.put_meaning-meant.ensures (ap meaning_of c.number.ensures))) c.put.ensures
