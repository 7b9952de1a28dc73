use mathlib.Core.Path.{ap, ◌∙◌}
use Rattle.octets.specs.Numbers.{get16}
use Rattle.types.specs.Figures.{number_at}
use Rattle.types.proofs.figures.Figures.number_of.Goals as goal

pub returns : goal.returns
unfolding number_at
returns c =
    c.read16.ensures ∙ ap (get16 c.args.self.now.ws.now) c.place.ensures.0
