use Rattle.types.specs.Numbering.{put_figures}
use Rattle.types.proofs.figures.put.Goals as goal

pub returns : goal.returns
unfolding put_figures
returns c =
    cc
