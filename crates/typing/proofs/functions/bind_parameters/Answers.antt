use native.Mathlib.Omega.{arith}
use mathlib.Core.Path.{refl}
use Rattle.rules.specs.Limits.{max_parameters}
use Rattle.program.proofs.Rooms.{function-room}
use Rattle.typing.proofs.Starts.{ancillae-scoped, all-bound}
use Rattle.typing.proofs.Ending.{parameter_known}
use Rattle.typing.proofs.functions.bind_parameters.Goals as goal

pub function_parameters-last-requires : goal.function_parameters-last-requires
function_parameters-last-requires c =
    omega (arith, function-room c.requires.signed.formed)

pub overflow_sub-last : goal.overflow_sub-last
overflow_sub-last c =
    omega (arith, c.requires.signed.formed.some)

pub bind_ancillae-requires-clause-sources : goal.bind_ancillae-requires-clause-sources
bind_ancillae-requires-clause-sources c =
    c.requires.sources

pub bind_ancillae-requires-clause-signed : goal.bind_ancillae-requires-clause-signed
bind_ancillae-requires-clause-signed c =
    c.requires.signed

pub bind_ancillae-requires-clause-q_bound : goal.bind_ancillae-requires-clause-q_bound
bind_ancillae-requires-clause-q_bound c =
    (omega (arith, c.requires.signed.formed.some), c.requires.scope_bytes_in_bounds.0, c.requires.scope_bytes_in_bounds.1)

pub bounds-row-last : goal.bounds-row-last
unfolding max_parameters
bounds-row-last c =
    omega (arith, c.requires.signed.formed.few)

pub bind-requires-clause-scoped : goal.bind-requires-clause-scoped
unfolding max_parameters
bind-requires-clause-scoped c =
    rw c.parameters.ensures.fields (ancillae-scoped c.requires.sources c.bind_ancillae.ensures (omega (arith, c.requires.signed.formed.few))
    c.parameters.ensures.none_owed)

pub bind-requires-clause-known : goal.bind-requires-clause-known
unfolding max_parameters
bind-requires-clause-known c = (
  parameter_known c.requires.signed 0 (omega (arith, c.requires.signed.formed.some)) refl,
  rw c.parameters.ensures.fields (omega (arith, c.requires.signed.formed.few)),
)

pub returns : goal.returns
returns c =
    all-bound c.requires.signed c.bind_ancillae.ensures (omega arith) refl refl c.parameters.ensures.fields c.bind.ensures
