use native.Mathlib.Omega.{arith}
use mathlib.Core.Path.{sym, ◌∙◌}
use Rattle.backward.proofs.Stops.{says-node, why_here, why_forward}
use Rattle.backward.proofs.outcomes.why.Goals as goal

pub overflow_sub-result : goal.overflow_sub-result
overflow_sub-result c =
    omega (arith, says-node c.args.stop (sym c.status_of.ensures ∙ c.in-Ok.is))

pub returns-in-Ok : goal.returns-in-Ok
returns-in-Ok c =
    why_here c.args.stop (sym c.status_of.ensures ∙ c.in-Ok.is)

pub returns-in-Err : goal.returns-in-Err
returns-in-Err c =
    c.from.ensures ∙ why_forward c.args.stop (sym c.status_of.ensures ∙ c.in-Err.is)
