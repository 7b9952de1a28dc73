use Prim.Native.Nat.{ℕ}
use native.Mathlib.Omega.{arith}
use mathlib.Core.Path.{sym, ap, ◌∙◌}
use Rattle.valuegraph.specs.Nodes.{kind_number}
use Rattle.valuegraph.proofs.Numbered.{kind_read, single_of}
use Rattle.valuegraph.proofs.Equal.{Alike, PartRead, compare_done, compare_apart, both-units, compare_one, part-below, part-differs, compare_other}
use Rattle.valuegraph.proofs.nodes.+same.Goals.{After-kind_of, After-part_of-in-Pair}
use Rattle.valuegraph.proofs.nodes.+same.Goals as goal

pub returns-then-not-alike : goal.returns-then-not-alike
returns-then-not-alike t c =
    compare_apart c.loop-x.invariant c.alike.ensures c.if-not-alike.true

-- the two nodes are alike
alike-there : {t : ℕ} (c : After-kind_of t) → Alike c.args.ws.now c.args.top c.args.a c.args.b c.loop-x.x c.loop-x.y (kind_number c.kind_of.result)
alike-there c = record {
  comparing = c.loop-x.invariant;
  alike = sym c.alike.ensures ∙ c.if-not-alike.false;
  kind = kind_read c.requires.heap c.loop-x.invariant.below.0 c.kind_of.ensures;
}

-- and pairs, of which one part each was read
part-there : {t : ℕ} (c : After-part_of-in-Pair t) → PartRead c.args.ws.now c.args.top c.args.a c.args.b c.loop-x.x c.loop-x.y (kind_number c.kind_of.result)
    c.left_shorter-left.result c.part_of.result c.part_of-in-Pair.result
part-there {t} c = record {
  node = alike-there (goal.at.same-requires t c).After-kind_of;
  three = ap kind_number c.in-Pair.is;
  part = c.part_of.ensures;
  part' = c.part_of-in-Pair.ensures;
}

pub returns-in-Unit : goal.returns-in-Unit
returns-in-Unit t c =
    both-units (alike-there (goal.at.returns-in-Unit t c).After-kind_of) (ap kind_number c.in-Unit.is)

pub same-requires : goal.same-requires
same-requires t c =
    let w = part-below (part-there c) in
    (omega (arith, c.decreases, w.0), (c.requires.heap, w.1))

pub returns-then-not-same : goal.returns-then-not-same
returns-then-not-same t c =
    part-differs (part-there (goal.at.returns-then-not-same t c).After-part_of-in-Pair) c.same.ensures c.if-not-same.true

pub loop-x-smaller-in-Pair : goal.loop-x-smaller-in-Pair
loop-x-smaller-in-Pair t c =
    (compare_other (part-there (goal.at.loop-x-smaller-in-Pair t c).After-part_of-in-Pair) c.same.ensures c.if-not-same.false
    c.part_of-x.ensures c.part_of-y.ensures).1

pub loop-x-preserved-in-Pair : goal.loop-x-preserved-in-Pair
loop-x-preserved-in-Pair t c =
    (compare_other (part-there (goal.at.loop-x-preserved-in-Pair t c).After-part_of-in-Pair) c.same.ensures c.if-not-same.false
    c.part_of-x.ensures c.part_of-y.ensures).0

pub loop-x-preserved : goal.loop-x-preserved
loop-x-preserved t c =
    (compare_one (alike-there (goal.at.loop-x-preserved t c).After-kind_of) (single_of c.in-Inl.is) c.left_of-x.ensures c.left_of-y.ensures).0

pub returns : goal.returns
returns t c =
    compare_done c.loop-x.invariant c.loop-x-test.false
