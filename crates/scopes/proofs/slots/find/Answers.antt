use native.Mathlib.Omega.{arith}
use mathlib.Core.Path.{sym}
use Rattle.scopes.specs.Slots.{slots_of, node_or}
use Rattle.scopes.proofs.Marks.{slot_in, slot-out}
use Rattle.scopes.proofs.slots.find.Goals as goal

pub returns-then-n-v : goal.returns-then-n-v
returns-then-n-v c =
    sym (slot-out c.args.ws.now (slots_of c.args.st.now) c.args.base c.args.n c.args.i (omega arith))

pub returns : goal.returns
unfolding node_or
returns c =
    let e = slot_in c.args.ws.now (slots_of c.args.st.now) c.args.base c.args.n c.args.i (omega arith) in
    cc
