use Rattle.calltext.proofs.Writing.{wrote-both}
use Rattle.command.proofs.plays.put_between.Goals as goal

pub returns : goal.returns
returns c =
    wrote-both (wrote-both c.put-named.ensures c.put_figure-counted.ensures.0) c.put.ensures
