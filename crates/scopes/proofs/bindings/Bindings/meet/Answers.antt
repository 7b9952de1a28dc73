use Rattle.scopes.specs.Slots.{unknown, scope_in}
use Rattle.scopes.proofs.Meeting.{looks, old-low, met-bound}
use Rattle.scopes.proofs.bindings.Bindings.meet.Goals as goal

pub seen-requires : goal.seen-requires
seen-requires c =
    looks c.requires.meetable c.base_in.ensures c.from.ensures c.at.ensures c.top-top.ensures

pub same-requires-clause-a_lt_top : goal.same-requires-clause-a_lt_top
same-requires-clause-a_lt_top c =
    (old-low c.requires.meetable c.base_in.ensures c.from.ensures c.at.ensures c.top-top.ensures c.seen.ensures c.in-Some.is, rw c.top-top.ensures c.requires.node_bound)

pub returns-in-None : goal.returns-in-None
unfolding unknown
returns-in-None c =
    met-bound c.args.ws.now c.args.st.now c.args.self (scope_in c.args.scope) c.args.i c.args.node c.requires.meetable c.base_in.ensures c.from.ensures c.at.ensures
    c.seen.ensures c.top-top.ensures c.in-None.is c.with_cell-state.ensures c.bind.ensures
