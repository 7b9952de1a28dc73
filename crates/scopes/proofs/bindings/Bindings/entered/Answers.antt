use Rattle.scopes.specs.Slots.{unknown, scope_in}
use Rattle.scopes.proofs.Meeting.{entered_it}
use Rattle.scopes.proofs.bindings.Bindings.entered.Goals as goal

pub returns : goal.returns
unfolding unknown
returns c =
    entered_it (scope_in c.args.scope) c.count_in-n.ensures c.top-top.ensures c.end_of.ensures c.with_cell-state.ensures
    c.bind.ensures
