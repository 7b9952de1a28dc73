use native.Mathlib.Omega.{arith}
use Rattle.program.proofs.KindCases.{type-known}
use Rattle.program.proofs.Rooms.{type-kind, type-kind-room}
use Rattle.program.proofs.views.type_kind.Goals as goal

pub kind-requires : goal.kind-requires
kind-requires c =
    type-kind-room c.requires

pub unwrap-requires : goal.unwrap-requires
unwrap-requires c =
    type-known _ _ c.try_from.ensures (omega (arith, c.kind.ensures, type-kind c.requires))
