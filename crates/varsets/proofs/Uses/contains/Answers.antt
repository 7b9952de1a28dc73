use mathlib.Core.Path.{refl}
use Rattle.varsets.specs.Sets.{has}
use Rattle.varsets.proofs.Uses.contains.Goals as goal

pub returns : goal.returns
unfolding has
returns c =
    refl
