use Rattle.std.proofs.Common.{ap, length, arith}
use Rattle.calltext.proofs.Saying.{word_shorter}
use Rattle.calltext.proofs.calls.bytes_at.Goals as goal

pub decode-requires : goal.decode-requires
decode-requires c = omega (arith, c.requires, ap length c.word.ensures, word_shorter c.args.k c.args.line.now)
