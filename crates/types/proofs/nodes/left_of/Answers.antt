use mathlib.Core.Path.{ap, ◌∙◌}
use Prim.Native.Nat.{◌*◌}
use Rattle.types.specs.Codes.{code_at, left_at}
use Rattle.types.proofs.nodes.left_of.Goals as goal

pub returns : goal.returns
unfolding left_at
returns c =
    c.code_at.ensures ∙ ap (λ n. code_at c.args.ws.now (14 * n)) c.from.ensures
