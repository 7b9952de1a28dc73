use mathlib.Core.Path.{ap}
use Prim.Native.Nat.{◌-◌}
use Rattle.runs.proofs.Ends.{node-room, give-short, store_ready, give_done}
use Rattle.runs.proofs.ended.give.Goals as goal

pub length_of-len-requires : goal.length_of-len-requires
length_of-len-requires c =
    node-room c.requires

pub returns-then-out-from : goal.returns-then-out-from
returns-then-out-from c =
    give-short c.requires c.length_of-len.ensures _ c.from.ensures c.if-out-from.true

pub store-requires : goal.store-requires
store-requires c =
    store_ready c.requires c.length_of-len.ensures _ c.from.ensures c.if-out-from.false

pub returns : goal.returns
returns c =
    give_done c.requires c.length_of-len.ensures _ c.from.ensures c.if-out-from.false c.store.ensures
    (ap (λ n. n - c.args.left) c.from-2.ensures)
