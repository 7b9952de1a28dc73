use Prim.Native.Nat.{◌-◌}
use mathlib.Core.Path.{sym, ap, ◌∙◌}
use Rattle.program.proofs.Lists.{ancillae-count}
use Rattle.admission.proofs.Parameters.{parameters-room}
use Rattle.admission.proofs.Callee.ancillae.Goals as goal

pub function_parameters-requires : goal.function_parameters-requires
function_parameters-requires c =
    parameters-room c.args.self.now.callable.field

pub returns : goal.returns
returns c =
    ap (λ n. n - 1) c.function_parameters.ensures.0 ∙ sym (ancillae-count _ _)
