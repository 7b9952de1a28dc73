use native.Mathlib.Omega.{arith}
use Rattle.backward.proofs.Starting.{start-reads, begin_space, begin_few, begin_inner, begin_leaves, input_there, input_missing}
use Rattle.backward.proofs.Opening.{widen-ready, widened, widened-node, ran-under}
use Rattle.backward.proofs.LastPart.{err_of, unpacked_run}
use Rattle.backward.proofs.start.run.Goals as goal

pub body_of-body-requires : goal.body_of-body-requires
body_of-body-requires c =
    start-reads c.requires.starts

pub scope-scope-requires : goal.scope-scope-requires
scope-scope-requires c =
    let few = begin_space c.requires in
    (omega arith, omega arith, omega arith)

pub widen-wide-requires : goal.widen-wide-requires
widen-wide-requires c =
    widen-ready (begin_inner c.requires c.scope-scope.ensures c.body_of-body.ensures c.none-none.ensures) (begin_few c.requires c.scope-scope.ensures c.body_of-body.ensures)

pub back-requires-clause-prepared_in : goal.back-requires-clause-prepared_in
back-requires-clause-prepared_in c =
    let inner = begin_inner c.requires c.scope-scope.ensures c.body_of-body.ensures c.none-none.ensures in
    let few = begin_few c.requires c.scope-scope.ensures c.body_of-body.ensures in
    widened inner few c.widen-wide.ensures

pub back-requires-clause-node_bound : goal.back-requires-clause-node_bound
back-requires-clause-node_bound c =
    let inner = begin_inner c.requires c.scope-scope.ensures c.body_of-body.ensures c.none-none.ensures in
    let few = begin_few c.requires c.scope-scope.ensures c.body_of-body.ensures in
    widened-node inner few c.widen-wide.ensures c.requires.starts.value

pub returns-in_err-known : goal.returns-in_err-known
returns-in_err-known c =
    let ran = ran-under (begin_inner c.requires c.scope-scope.ensures c.body_of-body.ensures c.none-none.ensures) (begin_few c.requires c.scope-scope.ensures c.body_of-body.ensures) c.widen-wide.ensures
    c.requires.starts.value (unpacked_run c.unpacked.ensures c.back.ensures) in
    rw (err_of c.from_residual.result c.from_residual.ensures.1) (record { lengths = ran.lengths; returns = input_missing c.requires c.scope-scope.ensures c.body_of-body.ensures ran.gone c.in_err-known.was })

pub leave-requires : goal.leave-requires
leave-requires c =
    let ran = ran-under (begin_inner c.requires c.scope-scope.ensures c.body_of-body.ensures c.none-none.ensures) (begin_few c.requires c.scope-scope.ensures c.body_of-body.ensures) c.widen-wide.ensures
    c.requires.starts.value (unpacked_run c.unpacked.ensures c.back.ensures) in
    begin_leaves c.requires c.scope-scope.ensures c.body_of-body.ensures ran.gone c.in_ok-known.was

pub returns : goal.returns
returns c =
    let ran = ran-under (begin_inner c.requires c.scope-scope.ensures c.body_of-body.ensures c.none-none.ensures) (begin_few c.requires c.scope-scope.ensures c.body_of-body.ensures) c.widen-wide.ensures
    c.requires.starts.value (unpacked_run c.unpacked.ensures c.back.ensures) in
    record { lengths = ran.lengths; returns = input_there c.requires c.scope-scope.ensures c.body_of-body.ensures ran.gone c.in_ok-known.was c.leave.ensures }
