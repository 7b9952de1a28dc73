use Prim.Native.Nat.{◌+◌}
use mathlib.Core.Path.{ap, ◌∙◌}
use Rattle.octets.specs.Numbers.{get16}
use Rattle.types.specs.Figures.{free_at}
use Rattle.types.proofs.figures.Figures.free_of.Goals as goal

pub returns : goal.returns
unfolding free_at
returns c =
    c.read16.ensures ∙ ap (λ at. get16 c.args.self.now.ws.now (at + 2)) c.place.ensures.0
