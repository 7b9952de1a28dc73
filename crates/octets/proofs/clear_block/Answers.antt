use Rattle.octets.proofs.Zeros.{provided_true}
use Rattle.octets.proofs.clear_block.Goals as goal

pub returns-then-all_zero : goal.returns-then-all_zero
returns-then-all_zero c =
    provided_true _ c.all_zero.ensures c.if-all_zero.true
