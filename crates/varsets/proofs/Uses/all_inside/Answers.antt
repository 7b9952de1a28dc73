use native.Mathlib.Omega.{arith}
use Rattle.varsets.proofs.Inside.{all-ancillae, inside-decides}
use Rattle.varsets.proofs.Uses.all_inside.Goals as goal

pub returns-then-q-ge-ROOM : goal.returns-then-q-ge-ROOM
returns-then-q-ge-ROOM c =
    all-ancillae c.args.self c.args.q c.args.n (omega arith)

pub returns : goal.returns
returns c =
    inside-decides c.args.q c.args.n c.args.self _ (omega arith) c.those_below-scope.ensures
