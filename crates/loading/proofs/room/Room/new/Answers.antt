use Rattle.std.proofs.Common.{refl}
use Rattle.rules.specs.Limits.{max_parameters}
use Rattle.loading.proofs.room.Room.new.Goals as goal

pub returns : goal.returns
unfolding max_parameters
returns c =
    refl
