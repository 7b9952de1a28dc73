use mathlib.Core.Path.{◌∙◌}
use Rattle.journal.proofs.Writes.{put-head}
use Rattle.journal.proofs.writing.put_head.Goals as goal

pub returns : goal.returns
returns c =
    c.write16.ensures ∙ put-head c.args.journal.now c.args.at c.args.tag c.args.n c.requires.0
