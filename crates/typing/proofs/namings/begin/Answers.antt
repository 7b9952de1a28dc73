use native.Mathlib.Omega.{arith}
use mathlib.Core.Path.{ap, ◌∙◌}
use Rattle.octets.specs.Numbers.{get16}
use Rattle.octets.proofs.Puts.{get16-put16}
use Rattle.typing.specs.Waiting.{count_at}
use Rattle.typing.proofs.namings.begin.Goals as goal

pub returns : goal.returns
returns c =
    ap (λ vars. get16 vars count_at) c.write16.ensures ∙ get16-put16 c.args.vars.now count_at 0 (omega arith) (omega arith)
