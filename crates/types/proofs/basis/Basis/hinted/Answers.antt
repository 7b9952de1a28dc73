use Rattle.types.proofs.Hinting.{hint_right}
use Rattle.types.proofs.basis.Basis.hinted.Goals as goal

pub returns-then-is_pair : goal.returns-then-is_pair
returns-then-is_pair c =
    hint_right (c.is_known.ensures c.if-is_known.true) (c.is_pair.ensures c.if-is_pair.true)
