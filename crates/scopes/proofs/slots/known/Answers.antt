use native.Mathlib.Omega.{arith}
use mathlib.Core.Path.{sym, ap, ◌∙◌}
use Rattle.std.specs.Prelude.{Some}
use Rattle.scopes.specs.Slots.{unknown}
use Rattle.scopes.proofs.Marks.{found-mark, found-node, found-cell, cell_room}
use Rattle.scopes.proofs.slots.known.Goals as goal

pub returns-then-number-lt-UNKNOWN : goal.returns-then-number-lt-UNKNOWN
unfolding unknown
returns-then-number-lt-UNKNOWN c =
    sym (found-node c.args.ws.now c.args.number (omega arith))

pub returns-then-number-eq-UNKNOWN : goal.returns-then-number-eq-UNKNOWN
unfolding unknown
returns-then-number-eq-UNKNOWN c =
    sym (found-mark c.args.ws.now c.args.number (omega arith))

pub left_of-requires : goal.left_of-requires
unfolding unknown
left_of-requires c =
    cell_room c.requires.heap c.requires.slot (omega arith)

pub returns : goal.returns
unfolding unknown
returns c =
    ap Some c.left_of.ensures ∙ sym (found-cell c.args.ws.now c.args.number (omega arith))
