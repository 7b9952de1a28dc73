use mathlib.Core.Path.{◌∙◌}
use Rattle.runs.proofs.Loads.{begun_with}
use Rattle.runs.proofs.begin.begin.Goals as goal

pub begin-requires : goal.begin-requires
begin-requires c =
    c.load-start.ensures.lengths ∙ c.requires.st_len

pub returns : goal.returns
returns c =
    begun_with c.load-start.ensures c.begin.ensures c.from.ensures
