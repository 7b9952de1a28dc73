use Rattle.journal.proofs.Writes.{cleared_from}
use Rattle.replay.proofs.making.clear_from.Goals as goal

pub returns : goal.returns
returns c =
    cleared_from c.args.journal.now c.args.at c.clear.new.s c.requires c.clear.ensures
