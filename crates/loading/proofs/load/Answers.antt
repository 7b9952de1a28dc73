use Rattle.std.proofs.Common.{refl}
use Rattle.rules.specs.Limits.{max_parameters}
use Rattle.loading.proofs.load.Goals as goal

pub load_tallied-tallied-requires-clause-table_value : goal.load_tallied-tallied-requires-clause-table_value
unfolding max_parameters
load_tallied-tallied-requires-clause-table_value c =
    refl
