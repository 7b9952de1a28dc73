use native.Mathlib.Omega.{arith}
use Rattle.program.proofs.Rooms.{function-room}
use Rattle.program.proofs.Rows.{function-fields}
use Rattle.typing.proofs.Asking.{ready_for}
use Rattle.typing.proofs.Checks.{sources, field, signed, body_there, ready, typed-answer, refused-answer}
use Rattle.typing.proofs.functions.check_function.Goals as goal

pub offset_bounds-subject-g : goal.offset_bounds-subject-g
offset_bounds-subject-g c =
    omega (arith, (function-fields c.requires.typeable.read).few)

pub bounds-subject-g : goal.bounds-subject-g
bounds-subject-g c =
    omega (arith, (function-fields c.requires.typeable.read).few)

pub function_body-body-requires : goal.function_body-body-requires
function_body-body-requires c =
    omega (arith, function-room (field c.requires.typeable c.requires.g_in_bounds.0 c.from-at.ensures))

pub bind_parameters-sc-requires-clause-sources : goal.bind_parameters-sc-requires-clause-sources
bind_parameters-sc-requires-clause-sources c =
    sources c.requires.typeable c.requires.figured

pub bind_parameters-sc-requires-clause-signed : goal.bind_parameters-sc-requires-clause-signed
bind_parameters-sc-requires-clause-signed c =
    signed c.requires.typeable c.requires.g_in_bounds.0 c.from-at.ensures (c.requires.g_in_bounds.1.rows _ c.requires.g_in_bounds.0)

pub bind_parameters-sc-requires-clause-scope_bytes_in_bounds : goal.bind_parameters-sc-requires-clause-scope_bytes_in_bounds
bind_parameters-sc-requires-clause-scope_bytes_in_bounds c =
    (omega (arith, c.requires.g_in_bounds.2, c.begin.auto.vars), c.begin.ensures)

pub infer-requires : goal.infer-requires
infer-requires c =
    ready_for c.requires.g_in_bounds.1 (ready c.requires.typeable c.requires.g_in_bounds.0 c.from-at.ensures c.bind_parameters-sc.ensures
    c.function_body-body.ensures) (body_there c.requires.typeable c.requires.g_in_bounds.0 c.from-at.ensures c.function_body-body.ensures)

pub finish-requires-clause-sources : goal.finish-requires-clause-sources
finish-requires-clause-sources c =
    c.infer.ensures.kept.sources

pub finish-requires-clause-known : goal.finish-requires-clause-known
finish-requires-clause-known c =
    c.infer.ensures.known _ c.in-Ok.is

pub finish-requires-clause-signed : goal.finish-requires-clause-signed
finish-requires-clause-signed c =
    signed c.requires.typeable c.requires.g_in_bounds.0 c.from-at.ensures (c.requires.g_in_bounds.1.rows _ c.requires.g_in_bounds.0)

pub returns-in-Ok : goal.returns-in-Ok
returns-in-Ok c = (
  typed-answer c.requires.typeable c.requires.g_in_bounds.0 c.from-at.ensures c.bind_parameters-sc.ensures c.function_body-body.ensures
      c.infer.ensures c.in-Ok.is c.finish.ensures,
  c.infer.ensures.kept.sources.figures,
)

pub returns-in-Err : goal.returns-in-Err
returns-in-Err c = (
  refused-answer c.requires.typeable c.requires.g_in_bounds.0 c.from-at.ensures c.bind_parameters-sc.ensures c.function_body-body.ensures
      c.infer.ensures c.in-Err.is c.placed.ensures,
  c.infer.ensures.kept.sources.figures,
)
