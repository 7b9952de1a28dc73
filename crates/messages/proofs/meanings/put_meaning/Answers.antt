use Rattle.std.proofs.Common.{ap, length, arith}
use Rattle.calltext.proofs.Writing.{wrote_as}
use Rattle.messages.proofs.Short.{meaning-short}
use Rattle.messages.proofs.meanings.put_meaning.Goals as goal

pub put-requires : goal.put-requires
put-requires c = omega (arith, c.requires, ap length c.meaning.ensures, meaning-short c.args.n)

pub returns : goal.returns
returns c = wrote_as c.put.ensures c.meaning.ensures
