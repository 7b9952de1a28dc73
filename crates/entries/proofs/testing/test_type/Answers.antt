use native.Mathlib.Omega.{arith}
use Rattle.program.proofs.Rooms.{type-kind-room}
use Rattle.program.proofs.Lists.{types_in_type_lem}
use Rattle.entries.proofs.Types.{type-answer}
use Rattle.entries.proofs.testing.test_type.Goals as goal

pub overflow_add-at : goal.overflow_add-at
overflow_add-at c =
    omega (arith, type-kind-room c.requires)

pub all_below-requires : goal.all_below-requires
all_below-requires c =
    omega (arith, types_in_type_lem c.requires, c.types_in_type-n.ensures)

pub returns : goal.returns
returns c =
    type-answer c.requires _ _ _ c.types_in_type-n.ensures c.all_below.ensures
