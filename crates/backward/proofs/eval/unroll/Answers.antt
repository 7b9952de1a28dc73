use native.Mathlib.Omega.{arith}
use mathlib.Core.Path.{refl}
use Rattle.backward.proofs.Frames.{row-there}
use Rattle.backward.proofs.Steps.{roll-single}
use Rattle.backward.proofs.Stepping.{unrolled_prepared, unrolled_gone}
use Rattle.backward.proofs.LastPart.{leads-through}
use Rattle.backward.proofs.eval.unroll.Goals as goal

-- unroll: the run goes on with the only part, over a roll of the value.

pub second_of-part-requires : goal.second_of-part-requires
second_of-part-requires c =
    row-there c.requires.prepared_in.prepared

pub overflow_sub-room : goal.overflow_sub-room
overflow_sub-room c =
    omega (arith, c.requires.prepared_in.prepared.ready.tall)

pub over-requires-clause-prepared_in : goal.over-requires-clause-prepared_in
over-requires-clause-prepared_in c =
    record {
      full = c.requires.prepared_in.full;
      prepared = unrolled_prepared c.requires.prepared_in.prepared c.requires.node_bound.0 c.requires.node_bound.1 c.second_of-part.ensures;
    }

pub over-requires-clause-part_bound : goal.over-requires-clause-part_bound
over-requires-clause-part_bound c =
    (c.requires.node_bound.0, roll-single)

pub shape_of-ws : goal.shape_of-ws
shape_of-ws c =
    c.over.auto.ws

pub returns : goal.returns
returns c =
    leads-through refl (omega arith)
    (λ _ _ _ _ D. unrolled_gone c.requires.prepared_in.prepared c.requires.node_bound.0 c.requires.node_bound.1 c.second_of-part.ensures D)
    c.over.ensures
