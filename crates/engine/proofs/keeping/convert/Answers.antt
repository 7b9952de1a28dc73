use Rattle.std.proofs.Common.{rules}
use Rattle.calls.specs.Answer.{◌>>=◌}
use Rattle.conversions.specs.Turns.{convert_of}
use Rattle.engine.proofs.Turns.{convert_whole, turn-called}
use Rattle.engine.proofs.keeping.convert.Goals as goal

pub returns : goal.returns
unfolding ◌>>=◌
returns c =
    let p = turn-called (λ P. convert_of P c.args.fuel c.args.function c.args.ancillae.now c.args.journal.now) c.args.fuel c.args.program.now
    c.args.workspace.now c.args.journal.now (convert_whole _ _ _ _ _ _) c.serve.ensures.short
    (λ e. (let h = (c.serve.ensures.served e).0 in search rules, (c.serve.ensures.served e).1)) in record { answer = p.0; keeps = p.1.0; clear = p.1.1 }
