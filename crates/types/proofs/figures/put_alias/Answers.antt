use Rattle.types.specs.Numbering.{put_alias}
use Rattle.types.proofs.figures.put_alias.Goals as goal

pub returns : goal.returns
unfolding put_alias
returns c =
    cc
