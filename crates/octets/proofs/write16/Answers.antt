use native.Mathlib.Omega.{arith}
use mathlib.Core.Path.{◌∙◌}
use Rattle.octets.proofs.Pastes.{part-put16}
use Rattle.octets.proofs.write16.Goals as goal

pub returns : goal.returns
returns c =
    part-put16 _ _ _ _ c.requires (omega arith) (c.copy_from_slice.ensures.after ∙ c.to_be_bytes.ensures)
