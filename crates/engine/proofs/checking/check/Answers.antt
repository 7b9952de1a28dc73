use Rattle.std.proofs.Common.{rules}
use Rattle.calls.specs.Answer.{◌>>=◌}
use Rattle.engine.proofs.Beginning.{enough-room}
use Rattle.engine.proofs.Checks.{check_called}
use Rattle.engine.proofs.checking.check.Goals as goal

pub serve-requires : goal.serve-requires
serve-requires c = λ e. let room = enough-room 0 _ e in search rules

pub returns : goal.returns
returns c =
    let p = check_called c.args.program.now c.args.workspace.now (λ e. let h = c.serve.ensures.short e in (h.0, h.2))
    (λ e. (let h = (c.serve.ensures.served e).0 in search rules, (c.serve.ensures.served e).1)) in record { answer = p.0; clear = p.1 }
