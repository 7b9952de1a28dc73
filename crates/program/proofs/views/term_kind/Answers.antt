use native.Mathlib.Omega.{arith}
use Rattle.program.proofs.KindCases.{term-known}
use Rattle.program.proofs.Rooms.{term-kind, term-kind-room}
use Rattle.program.proofs.views.term_kind.Goals as goal

pub kind-requires : goal.kind-requires
kind-requires c =
    term-kind-room c.requires

pub unwrap-requires : goal.unwrap-requires
unwrap-requires c =
    term-known _ _ c.try_from.ensures (omega (arith, c.kind.ensures, term-kind c.requires))
