use Rattle.scopes.specs.Slots.{node_or}
use Rattle.scopes.proofs.bindings.Bindings.node_of.Goals as goal

pub returns : goal.returns
unfolding node_or
returns c = cc
