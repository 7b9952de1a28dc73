use Prim.Native.Nat.{◌-◌, ◌/◌}
use native.Mathlib.Omega.{arith}
use mathlib.Core.Path.{◌∙◌, ap}
use package.Rattle.calls.specs.Fields.{length_at}
use package.Rattle.calls.specs.Entries.{call_ancillae}
use Rattle.program.proofs.views.call_ancillae.Goals as goal

pub overflow_sub-result : goal.overflow_sub-result
unfolding length_at
overflow_sub-result c =
    omega (arith, c.from-n.ensures ∙ c.read16.ensures)

pub returns : goal.returns
unfolding length_at call_ancillae
returns c =
    ap (λ n. (n - 5) / 2) (c.from-n.ensures ∙ c.read16.ensures)
