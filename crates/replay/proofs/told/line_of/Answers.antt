use Rattle.replay.proofs.Lines.{line_bytes}
use Rattle.replay.proofs.told.line_of.Goals as goal

pub returns : goal.returns
returns c = rw (c.to_be_bytes.ensures, c.to_be_bytes-2.ensures) (line_bytes c.args.kind c.args.number c.args.detail)
