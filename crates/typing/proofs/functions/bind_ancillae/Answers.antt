use native.Mathlib.Omega.{arith}
use mathlib.Core.Path.{refl, sym, ap, ◌∙◌}
use lib.ListN.{get_or}
use Rattle.rules.specs.Limits.{max_parameters}
use Rattle.types.specs.Codes.{entry_code}
use Rattle.typing.proofs.Starts.{none_bound, one-bound, ancillae-scoped}
use Rattle.typing.proofs.Ending.{parameter_known}
use Rattle.typing.proofs.functions.bind_ancillae.Goals as goal

pub loop-i-init : goal.loop-i-init
loop-i-init c =
    (omega arith, refl, none_bound c.requires.q_bound.1 c.requires.q_bound.2)

pub bind-requires-clause-scoped : goal.bind-requires-clause-scoped
unfolding max_parameters
bind-requires-clause-scoped c =
    rw c.parameters.ensures.fields (ancillae-scoped c.requires.sources c.loop-i.invariant.2 (omega (arith, c.requires.signed.formed.few)) c.parameters.ensures.none_owed)

pub bind-requires-clause-known : goal.bind-requires-clause-known
unfolding max_parameters
bind-requires-clause-known c = (
  parameter_known c.requires.signed 0 (omega arith) (ap (λ i. entry_code (get_or c.args.row i 0)) c.from.ensures),
  rw c.parameters.ensures.fields (omega (arith, c.requires.signed.formed.few)),
)

pub loop-i-preserved : goal.loop-i-preserved
loop-i-preserved c = (
  omega arith,
  sym c.bind.ensures.lengths ∙ c.loop-i.invariant.1,
  one-bound c.parameters.ensures.fields c.bind.ensures refl (ap (λ i. entry_code (get_or c.args.row i 0)) c.from.ensures) c.loop-i.invariant.2,
)
