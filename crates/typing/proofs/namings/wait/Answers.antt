use native.Mathlib.Omega.{arith}
use Rattle.typing.proofs.Waiting.{put-waits}
use borrow.Author.Rules.{rules}
use Rattle.typing.proofs.namings.wait.Goals as goal

pub returns : goal.returns
returns c =
    put-waits _ _ _ c.requires.0 c.requires.1 (omega (arith, c.from.ensures)) (search rules)
    c.count-n.ensures c.cell-at.ensures.0 c.from.ensures
    c.write16.ensures c.write16-2.ensures c.write16-3.ensures
