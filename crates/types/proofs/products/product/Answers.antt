use native.Mathlib.Omega.{arith}
use mathlib.Core.Path.{refl}
use Rattle.calls.specs.Figures.{ceiling}
use Rattle.types.proofs.Growing.{known-fits}
use Rattle.types.proofs.Hinting.{made_large, made_found, made-new}
use Rattle.types.proofs.products.product.Goals as goal

pub overflow_add-count : goal.overflow_add-count
unfolding ceiling
overflow_add-count c =
    omega (arith, c.node_count-n.ensures, c.node_count-m.ensures)

pub overflow_add-count-2 : goal.overflow_add-count-2
unfolding ceiling
overflow_add-count-2 c =
    omega (arith, c.node_count-n.ensures, c.node_count-m.ensures)

pub returns-then-count-gt-MOST_NODES : goal.returns-then-count-gt-MOST_NODES
returns-then-count-gt-MOST_NODES c =
    made_large c.requires.sources c.args.left c.args.right
    c.node_count-n.ensures c.node_count-m.ensures refl c.if-count-gt-MOST_NODES.true

pub returns-in-Some : goal.returns-in-Some
returns-in-Some c =
    made_found c.requires.sources c.args.left c.args.right
    c.node_count-n.ensures c.node_count-m.ensures refl c.if-count-gt-MOST_NODES.false
    c.settled-first.ensures c.settled-second.ensures c.in-Some.ensures

pub returns : goal.returns
returns c =
    made-new c.requires.sources c.args.left c.args.right
    c.node_count-n.ensures c.node_count-m.ensures refl c.if-count-gt-MOST_NODES.false
    c.settled-first.ensures c.settled-second.ensures c.requires.room.0
    (known-fits (omega (arith, c.requires.sources.entries.few)) (omega (arith, c.requires.room.1)) c.settled-first.ensures.known)
    (known-fits (omega (arith, c.requires.sources.entries.few)) (omega (arith, c.requires.room.1)) c.settled-second.ensures.known)
    c.requires.room.1 c.put_node.ensures c.put.ensures refl
