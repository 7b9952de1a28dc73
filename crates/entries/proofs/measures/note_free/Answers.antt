use mathlib.Core.Path.{ap}
use lib.ListN.{set}
use Rattle.entries.proofs.measures.note_free.Goals as goal

pub returns : goal.returns
returns c =
    ap (set c.args.free.now c.args.i) c.free_of-f.ensures
