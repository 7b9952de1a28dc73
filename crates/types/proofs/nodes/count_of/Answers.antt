use mathlib.Core.Path.{ap, ◌∙◌}
use Prim.Native.Nat.{◌+◌, ◌*◌}
use Rattle.octets.specs.Numbers.{get16}
use Rattle.types.specs.Codes.{count_at}
use Rattle.types.proofs.nodes.count_of.Goals as goal

pub returns : goal.returns
unfolding count_at
returns c =
    c.read16.ensures ∙ ap (λ n. get16 c.args.ws.now (14 * n + 12)) c.from.ensures
