use mathlib.Core.Path.{refl}
use package.Rattle.calls.specs.Fields.{kind_at}
use Rattle.program.proofs.views.kind.Goals as goal

pub returns : goal.returns
unfolding kind_at
returns c =
    refl
