use Prim.Native.Nat.{◌+◌}
use mathlib.Core.Path.{sym, subst}
use lib.ListN.{length}
use Rattle.calltext.specs.Wrote.{Wrote}
use Rattle.calltext.proofs.Writing.{wrote_copy}
use Rattle.calltext.proofs.answers.put.Goals as goal

pub returns : goal.returns
returns c =
    subst (λ l. Wrote c.args.out.now l c.args.at (c.args.at + length c.args.text.now) c.args.text.now) (sym c.copy.ensures)
    (wrote_copy c.args.out.now c.args.at c.args.text.now c.requires)
