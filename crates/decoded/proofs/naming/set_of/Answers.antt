use mathlib.Core.Path.{ap}
use Rattle.decoded.specs.Naming.{set_in}
use Rattle.decoded.proofs.naming.set_of.Goals as goal

pub returns : goal.returns
unfolding set_in
returns c =
    ap (λ t. set_in c.args.sets.now t) c.from.ensures
