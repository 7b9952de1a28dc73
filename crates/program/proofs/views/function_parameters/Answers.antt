use native.Mathlib.Omega.{arith}
use package.Rattle.calls.specs.Fields.{parameters_at}
use Rattle.program.proofs.views.function_parameters.Goals as goal

pub returns : goal.returns
unfolding parameters_at
returns c =
    (c.from.ensures, omega arith)
