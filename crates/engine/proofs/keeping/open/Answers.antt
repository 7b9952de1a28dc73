use Rattle.std.proofs.Common.{rules}
use Rattle.calls.specs.Answer.{◌>>=◌}
use Rattle.engine.proofs.Beginning.{enough-room}
use Rattle.engine.proofs.Turns.{open_called}
use Rattle.engine.proofs.keeping.open.Goals as goal

pub serve-requires : goal.serve-requires
serve-requires c = λ e. let room = enough-room 0 _ e in search rules

pub returns : goal.returns
unfolding ◌>>=◌
returns c =
    let p = open_called c.args.«record».now c.args.program.now c.args.workspace.now c.args.journal.now c.serve.ensures.short
    (λ e. (let h = (c.serve.ensures.served e).0 in search rules, (c.serve.ensures.served e).1)) in record { answer = p.0; keeps = p.1.0; clear = p.1.1 }
