use Prim.Native.Nat.{◌+◌}
use mathlib.Core.Path.{ap, ◌∙◌}
use Rattle.octets.specs.Numbers.{get16}
use Rattle.types.specs.Figures.{outer_at}
use Rattle.types.proofs.figures.Figures.outer_of.Goals as goal

pub returns : goal.returns
unfolding outer_at
returns c =
    c.read16.ensures ∙ ap (λ at. get16 c.args.self.now.ws.now (at + 4)) c.place.ensures.0
