use Prim.Native.Nat.{ℕ, ◌+◌}
use native.Mathlib.Omega.{arith}
use mathlib.Core.Path.{ap, ◌∙◌}
use Rattle.valuegraph.specs.Nodes.{kind_number}
use Rattle.valuegraph.proofs.Numbered.{kind_read, single_of}
use Rattle.valuegraph.proofs.Storing.{KindRead, PairRead, length-read, here, store_unit, store_one, lower-parts, left-ready, right-ready, then-right, then-left}
use Rattle.valuegraph.proofs.nodes.+store.Goals.{After-from-in-loop-left, After-left_shorter}
use Rattle.valuegraph.proofs.nodes.+store.Goals as goal

pub bounds-out-place : goal.bounds-out-place
bounds-out-place t c =
    here c.loop-left.invariant

-- the node at hand, its kind, and the number of it that is put
kind-there : {t : ℕ} (c : After-from-in-loop-left t) → KindRead c.args.ws.now c.args.n c.args.out.now c.args.at c.loop-left.x c.loop-left.out
    c.loop-left.place c.from-in-loop-left.result
kind-there c = record {
  storing = c.loop-left.invariant;
  kind = c.from-in-loop-left.ensures ∙ kind_read c.loop-left.invariant.ready.right (omega arith) c.kind_of-kind.ensures;
}

-- a pair, and its parts
pair-there : {t : ℕ} (c : After-left_shorter t) → KindRead c.args.ws.now c.args.n c.args.out.now c.args.at c.loop-left.x c.loop-left.out c.loop-left.place
    c.from-in-loop-left.result → PairRead c.args.ws.now c.args.n c.args.out.now c.args.at c.loop-left.x c.loop-left.out c.loop-left.place
    c.from-in-loop-left.result c.left_of-left.result c.right_of-right.result (c.loop-left.place + 1 + c.from-in-Pair.result)
pair-there c node = record {
  node = node;
  three = c.from-in-loop-left.ensures ∙ ap kind_number c.in-Pair.is;
  left = c.left_of-left.ensures;
  right = c.right_of-right.ensures;
  next = ap (◌+◌ _) (c.from-in-Pair.ensures ∙ c.length_of-in-Pair.ensures);
}

pub returns-in-Unit : goal.returns-in-Unit
returns-in-Unit t c =
    store_unit (kind-there (goal.at.returns-in-Unit t c).After-from-in-loop-left) (c.from-in-loop-left.ensures ∙ ap kind_number c.in-Unit.is)
    (ap (◌+◌ _) (c.from.ensures ∙ c.length_of.ensures ∙ length-read c.requires))

pub store-requires : goal.store-requires
store-requires t c =
    let w = pair-there (goal.at.store-requires t c).After-left_shorter (kind-there (goal.at.store-requires t c).After-from-in-loop-left) in
    (omega (arith, c.decreases, (lower-parts w).0), left-ready w)

pub loop-left-preserved-then-left_shorter : goal.loop-left-preserved-then-left_shorter
loop-left-preserved-then-left_shorter t c =
    (then-right (pair-there (goal.at.loop-left-preserved-then-left_shorter t c).After-left_shorter (kind-there (goal.at.loop-left-preserved-then-left_shorter t c).After-from-in-loop-left)) c.store.ensures c.store.auto.out).0

pub store-requires-else-left_shorter : goal.store-requires-else-left_shorter
store-requires-else-left_shorter t c =
    let w = pair-there (goal.at.store-requires-else-left_shorter t c).After-left_shorter (kind-there (goal.at.store-requires-else-left_shorter t c).After-from-in-loop-left) in
    (omega (arith, c.decreases, (lower-parts w).1), right-ready w)

pub loop-left-preserved-else-left_shorter : goal.loop-left-preserved-else-left_shorter
loop-left-preserved-else-left_shorter t c =
    (then-left (pair-there (goal.at.loop-left-preserved-else-left_shorter t c).After-left_shorter (kind-there (goal.at.loop-left-preserved-else-left_shorter t c).After-from-in-loop-left)) c.store-else-left_shorter.ensures
    c.store-else-left_shorter.auto.out).0

pub loop-left-preserved : goal.loop-left-preserved
loop-left-preserved t c =
    (store_one (kind-there (goal.at.loop-left-preserved t c).After-from-in-loop-left) (rw c.from-in-loop-left.ensures (single_of c.in-Inl.is)) c.left_of-x.ensures).0
