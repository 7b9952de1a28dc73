use native.Mathlib.Omega.{arith}
use Rattle.backward.proofs.Stops.{packed-done, packed-stopped}
use Rattle.backward.proofs.outcomes.packed.Goals as goal

pub returns-in-Ok : goal.returns-in-Ok
returns-in-Ok c =
    rw (c.in-Ok.is, c.from.ensures) (packed-done c.in-Ok.state (omega arith))

pub returns-in-Err : goal.returns-in-Err
returns-in-Err c =
    rw (c.in-Err.is, c.from-in-Err.ensures) (packed-stopped c.stop_of.ensures)
