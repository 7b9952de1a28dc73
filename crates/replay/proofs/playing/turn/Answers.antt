use Rattle.replay.proofs.Turns.{went, call-stops, call-goes}
use native.Mathlib.Omega.{arith}
use Rattle.replay.proofs.playing.turn.Goals as goal

pub returns-in_err-next : goal.returns-in_err-next
returns-in_err-next c =
    rw (went c.from_residual.ensures.1) (call-stops _ _ _ _ _ _ _ _ c.in_err-next.ensures)

pub copy-requires : goal.copy-requires
copy-requires c = omega (arith, c.requires.n_in_bounds.1)

pub returns : goal.returns
returns c =
    call-goes _ _ _ _ _ _ _ _ _ _ _ _ c.in_ok-next.ensures c.make-line.ensures c.copy.ensures
