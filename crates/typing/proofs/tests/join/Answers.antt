use mathlib.Core.Path.{refl}
use Rattle.typing.proofs.Deciding.{joins}
use Rattle.typing.proofs.tests.join.Goals as goal

pub returns : goal.returns
returns c =
    joins refl refl c.union.ensures
