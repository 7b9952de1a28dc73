use mathlib.Core.Path.{◌∙◌}
use Rattle.runs.proofs.Loads.{begun-ready, begun}
use Rattle.runs.proofs.begin.load.Goals as goal

pub load-top-requires : goal.load-top-requires
load-top-requires c =
    begun-ready c.requires.beginning c.load_ancillae-start.ensures.loaded

pub returns : goal.returns
returns c =
    record {
      lengths = c.bind.ensures.lengths ∙ c.load_ancillae-start.ensures.lengths;
      begun = begun c.requires.beginning c.load_ancillae-start.ensures.loaded c.load-top.ensures
          c.bind.ensures.slots;
    }
