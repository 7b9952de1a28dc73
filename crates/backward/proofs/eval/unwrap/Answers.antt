use Rattle.std.specs.Prelude.{Err}
use native.Mathlib.Omega.{arith}
use mathlib.Core.Path.{refl, ap₂, ◌∙◌}
use Rattle.backward.specs.Outcomes.{mismatch}
use Rattle.backward.proofs.Frames.{row-there}
use Rattle.backward.proofs.Steps.{node-there}
use Rattle.backward.proofs.Stepping.{node_kind, wrapped-node, wrapped-prepared, wrapped-gone, wrapped-differs}
use Rattle.backward.proofs.LastPart.{leads-over, leads-on}
use Rattle.yields.proofs.Read.{kind_same, kind_differs}
use Rattle.backward.proofs.eval.unwrap.Goals as goal

-- inl, inr and roll: the run goes on with the only part.

pub kind_of-found-requires : goal.kind_of-found-requires
kind_of-found-requires c =
    node-there c.requires.prepared_in.prepared.ready c.requires.node_bound.0

pub second_of-part-requires : goal.second_of-part-requires
second_of-part-requires c =
    row-there c.requires.prepared_in.prepared

pub left_of-x-requires : goal.left_of-x-requires
left_of-x-requires c =
    node-there c.requires.prepared_in.prepared.ready c.requires.node_bound.0

pub returns : goal.returns
returns c =
    leads-on refl refl
    (record {
      prepared = record {
        full = c.requires.prepared_in.full;
        prepared = wrapped-prepared c.requires.prepared_in.prepared c.requires.node_bound.0 c.requires.node_bound.1
            (node_kind c.requires.prepared_in c.requires.node_bound.0 c.kind_of-found.ensures) (kind_same c.kind_of-found.result c.args.kind c.ne.ensures c.if-ne.false)
            c.left_of-x.ensures c.second_of-part.ensures;
      };
      there = wrapped-node c.requires.prepared_in.prepared c.requires.node_bound.0 c.requires.node_bound.1
          (node_kind c.requires.prepared_in c.requires.node_bound.0 c.kind_of-found.ensures) (kind_same c.kind_of-found.result c.args.kind c.ne.ensures c.if-ne.false)
          c.left_of-x.ensures;
      spends = omega arith;
      becomes = λ D. wrapped-gone c.requires.prepared_in.prepared c.requires.node_bound.0 c.requires.node_bound.1
          (node_kind c.requires.prepared_in c.requires.node_bound.0 c.kind_of-found.ensures) (kind_same c.kind_of-found.result c.args.kind c.ne.ensures c.if-ne.false)
          c.left_of-x.ensures c.second_of-part.ensures D;
    })

pub returns-then-ne : goal.returns-then-ne
returns-then-ne c =
    leads-over (Err _) refl refl
    (wrapped-differs c.requires.prepared_in.prepared c.requires.node_bound.0 c.requires.node_bound.1
    (node_kind c.requires.prepared_in c.requires.node_bound.0 c.kind_of-found.ensures) (kind_differs c.kind_of-found.result c.args.kind c.ne.ensures c.if-ne.true)
    (c.differ.ensures ∙ ap₂ (λ made has. mismatch made has c.args.t) c.from-made.ensures c.from-has.ensures))
