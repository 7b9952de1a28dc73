use Rattle.scopes.specs.Slots.{unknown}
use Rattle.scopes.proofs.bindings.Bindings.left.Goals as goal

pub returns : goal.returns
unfolding unknown
returns c =
    c.with_cell.ensures
