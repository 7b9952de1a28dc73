use Rattle.typing.proofs as own
use native.Mathlib.Omega.{arith}
use mathlib.Core.Path.{◌≡◌, refl, ◌∙◌, ap, sym}
use Rattle.program.specs.KindNumbers.{term_kind_number}
use own.Deciding.{differs, unscopes, misuses, stands, stood, none_of}
use own.Passing.{args_end, args_read, args-ready, args-part, args-refused, args_later, args-next, args_want, args_differ, args_done, args_row, args_parameter}
use own.Passing.{call-function, call_differ, call-calls, call-read, call-barred, call-refused, call-ready, call-part, call_want, call_done, call-row, call_parameter, call-parts}
use own.Asking.{ready_for, ready-arguments, ready_branches, one-waits}
use own.Answers.{ready-opened, known_later}
use own.Trees.{read_case, read-call, here, read-var, read_inject, read_let, read_letp, read-pair, read-roll, read_unroll}
use own.Branching.{left-part, right-part, left-ready, left-refused, left-known, right_later, right-known, left-unused, right-refused, meet_left, meet-bound, branches_done}
use own.Branching.{case_full, case_free, case_ready, case_part, case_refused, case_later, case_named, case_no, case_parts, case_done}
use own.Steps.{demand_done, demand-refused, var_done, unit_done, inject_ready, inject_part, inject_whole, inject_no, inject_parts, inject-refused, inject_left, inject_right}
use own.Steps.{roll-ready, roll-part, roll_type, roll_whole, roll-no, roll-refused, roll-known, roll_done}
use own.Steps.{unroll_ready, unroll_part, unroll_type, unroll_whole, unroll_no, unroll_refused, unroll_known, unroll_large, unroll_done}
use own.Called.{read-function, some_parameters}
use own.Binding.{let_full, let_free, let_ready, let_bound, let_body, let_refused, let_stopped, let_later, let_known, let_can_settle, let_done}
use own.Binding.{letp_full, letp_ready, letp_bound, letp_body, letp_refused, letp_stopped, letp_later, letp_no, letp_parts, letp_second, letp_first_known, letp_second_known}
use own.Binding.{letp_can_settle, letp_done}
use own.Pairing.{pair-ready, pair_left, pair-right, pair-refused, pair-stopped, pair_later, pair_up_left, pair-room, pair_done}
use Rattle.typing.proofs.+infer.Goals as goal

-- The functions that type terms meet their contracts. All answers of a cycle stand in this one file: nowhere else can its goals be named.

pub calling::arguments-loop-k-init : goal.calling::arguments-loop-k-init
calling::arguments-loop-k-init t c =
    (refl, refl, c.requires, λ heap vars top r G. G)

pub calling::arguments-listed-part-requires : goal.calling::arguments-listed-part-requires
calling::arguments-listed-part-requires t c =
    args_read c.loop-k.invariant.2.ready c.loop-k.invariant.2.calls c.loop-k-test.true

pub calling::arguments-infer-requires : goal.calling::arguments-infer-requires
calling::arguments-infer-requires t c =
    let part = args-part c.loop-k.invariant.2.ready c.loop-k.invariant.2.calls c.loop-k-test.true c.listed-part.ensures in (
      omega (arith, c.decreases, part.0),
      ready_for c.requires.signed (args-ready c.loop-k.invariant.2.ready c.loop-k.invariant.2.calls
          c.loop-k-test.true c.listed-part.ensures) part.1,
    )

pub calling::arguments-returns-in_err-found : goal.calling::arguments-returns-in_err-found
calling::arguments-returns-in_err-found t c =
    rw (stands c.in_err-found.was c.from_residual.ensures) (c.loop-k.invariant.3 _ _ _ _ (args-refused c.loop-k.invariant.2.ready
    c.loop-k.invariant.2.calls c.loop-k-test.true c.listed-part.ensures c.infer.ensures c.in_err-found.was))

pub calling::arguments-offset_bounds-subject-k : goal.calling::arguments-offset_bounds-subject-k
calling::arguments-offset_bounds-subject-k t c =
    omega (arith, args_row c.loop-k.invariant.2.ready c.loop-k.invariant.2.calls c.loop-k-test.true)

pub calling::arguments-bounds-subject-k : goal.calling::arguments-bounds-subject-k
calling::arguments-bounds-subject-k t c =
    omega (arith, args_row c.loop-k.invariant.2.ready c.loop-k.invariant.2.calls c.loop-k-test.true)

pub calling::arguments-same-requires-clause-known : goal.calling::arguments-same-requires-clause-known
calling::arguments-same-requires-clause-known t c = (
  c.infer.ensures.known _ c.in_ok-found.was,
  args_want c.loop-k.invariant.2.ready c.loop-k.invariant.2.calls c.loop-k-test.true c.listed-part.ensures c.infer.ensures c.in_ok-found.was
      (args_parameter c.loop-k.invariant.2.ready c.loop-k.invariant.2.calls c.loop-k-test.true c.requires.signed) refl,
)

pub calling::arguments-returns-then-not-same : goal.calling::arguments-returns-then-not-same
calling::arguments-returns-then-not-same t c =
    rw (differs {A = Unit {0}} c.from.ensures)
    (c.loop-k.invariant.3 _ _ _ _ (args_differ c.loop-k.invariant.2.ready c.loop-k.invariant.2.calls c.loop-k-test.true c.listed-part.ensures
    c.infer.ensures c.in_ok-found.was (args_parameter c.loop-k.invariant.2.ready c.loop-k.invariant.2.calls c.loop-k-test.true c.requires.signed)
    refl c.same.ensures c.if-not-same.true))

pub calling::arguments-loop-k-preserved : goal.calling::arguments-loop-k-preserved
calling::arguments-loop-k-preserved t c = (
  c.infer.auto.ws ∙ c.loop-k.invariant.0,
  c.infer.auto.vars ∙ c.loop-k.invariant.1,
  ready-arguments c.requires.signed (args_later c.loop-k.invariant.2.ready c.loop-k.invariant.2.calls c.loop-k-test.true c.listed-part.ensures
      c.infer.ensures) (args-next c.loop-k.invariant.2.ready c.loop-k.invariant.2.calls c.loop-k-test.true c.listed-part.ensures c.infer.ensures),
  λ heap vars top r G. c.loop-k.invariant.3 heap vars top r (args_done c.loop-k.invariant.2.ready c.loop-k.invariant.2.calls c.loop-k-test.true
      c.listed-part.ensures c.infer.ensures c.in_ok-found.was (args_parameter c.loop-k.invariant.2.ready c.loop-k.invariant.2.calls
      c.loop-k-test.true c.requires.signed) refl c.same.ensures c.if-not-same.false G),
)

pub calling::arguments-returns : goal.calling::arguments-returns
calling::arguments-returns t c =
    c.loop-k.invariant.3 _ _ _ _ (args_end c.loop-k.invariant.2.ready c.loop-k.invariant.2.calls (let e : c.loop-k.k ≡ c.args.count = omega arith in
    e))

pub calling::call-first-requires : goal.calling::call-first-requires
calling::call-first-requires t c =
    omega (arith, (read-call c.requires.ready.entries c.requires.here).0)

pub calling::call-bounds-subject-g : goal.calling::call-bounds-subject-g
calling::call-bounds-subject-g t c =
    call-function c.requires c.from-g.ensures c.first.ensures

pub calling::call-call_ancillae-count-requires : goal.calling::call-call_ancillae-count-requires
calling::call-call_ancillae-count-requires t c =
    let read = read-call c.requires.ready.entries c.requires.here in
    (omega (arith, read.0), read.1)

pub calling::call-function_parameters-own-requires : goal.calling::call-function_parameters-own-requires
calling::call-function_parameters-own-requires t c =
    omega (arith, read-function c.requires.ready.entries (call-function c.requires c.from-g.ensures c.first.ensures) c.from-h.ensures)

pub calling::call-overflow_sub-own : goal.calling::call-overflow_sub-own
calling::call-overflow_sub-own t c =
    omega (
      arith,
      c.function_parameters-own.ensures,
      (some_parameters c.requires.ready.entries (call-function c.requires c.from-g.ensures c.first.ensures) c.from-h.ensures).0,
    )

pub calling::call-returns-then-count-own : goal.calling::call-returns-then-count-own
calling::call-returns-then-count-own t c =
    let parts = call-parts c.requires c.from-g.ensures c.first.ensures c.from-h.ensures c.call_ancillae-count.ensures
    c.function_parameters-own.ensures.0 in
    call_differ parts c.if-count-own.true (differs c.from.ensures) refl

pub calling::call-arguments-requires : goal.calling::call-arguments-requires
calling::call-arguments-requires t c =
    let parts = call-parts c.requires c.from-g.ensures c.first.ensures c.from-h.ensures c.call_ancillae-count.ensures
    c.function_parameters-own.ensures.0 in (
      omega (arith, c.decreases),
      ready-arguments c.requires.signed (call-barred parts c.if-count-own.false c.none.ensures) (call-calls parts c.if-count-own.false),
    )

pub calling::call-returns-in_err-arguments : goal.calling::call-returns-in_err-arguments
calling::call-returns-in_err-arguments t c =
    let parts = call-parts c.requires c.from-g.ensures c.first.ensures c.from-h.ensures c.call_ancillae-count.ensures
    c.function_parameters-own.ensures.0 in
    rw (stands c.in_err-arguments.was c.from_residual.ensures) (call-refused parts c.if-count-own.false c.none.ensures c.arguments.ensures
    c.in_err-arguments.was)

pub calling::call-listed-part-requires : goal.calling::call-listed-part-requires
calling::call-listed-part-requires t c =
    let parts = call-parts c.requires c.from-g.ensures c.first.ensures c.from-h.ensures c.call_ancillae-count.ensures
    c.function_parameters-own.ensures.0 in
    (call-read parts c.if-count-own.false).0

pub calling::call-bounds-subject-g-in_ok-arguments : goal.calling::call-bounds-subject-g-in_ok-arguments
calling::call-bounds-subject-g-in_ok-arguments t c =
    let parts = call-parts c.requires c.from-g.ensures c.first.ensures c.from-h.ensures c.call_ancillae-count.ensures
    c.function_parameters-own.ensures.0 in
    omega (arith, call-row parts c.if-count-own.false)

pub calling::call-bounds-subject-count : goal.calling::call-bounds-subject-count
calling::call-bounds-subject-count t c =
    let parts = call-parts c.requires c.from-g.ensures c.first.ensures c.from-h.ensures c.call_ancillae-count.ensures
    c.function_parameters-own.ensures.0 in
    omega (arith, call-row parts c.if-count-own.false)

pub calling::call-function_result-requires : goal.calling::call-function_result-requires
calling::call-function_result-requires t c =
    let parts = call-parts c.requires c.from-g.ensures c.first.ensures c.from-h.ensures c.call_ancillae-count.ensures
    c.function_parameters-own.ensures.0 in
    (call-read parts c.if-count-own.false).1

pub calling::call-infer-requires : goal.calling::call-infer-requires
calling::call-infer-requires t c =
    let parts = call-parts c.requires c.from-g.ensures c.first.ensures c.from-h.ensures c.call_ancillae-count.ensures
    c.function_parameters-own.ensures.0 in
    let part = call-part parts c.if-count-own.false c.none.ensures c.arguments.ensures c.in_ok-arguments.was c.listed-part.ensures in (
      omega (arith, c.decreases, part.0),
      ready_for c.requires.signed (call-ready parts c.if-count-own.false c.none.ensures c.arguments.ensures
          c.in_ok-arguments.was c.listed-part.ensures) part.1,
    )

pub calling::call-returns-in_err-found : goal.calling::call-returns-in_err-found
calling::call-returns-in_err-found t c =
    let parts = call-parts c.requires c.from-g.ensures c.first.ensures c.from-h.ensures c.call_ancillae-count.ensures
    c.function_parameters-own.ensures.0 in
    rw (stood c.in_err-found.was c.from_residual-in_err-found.ensures)
    (call_done parts c.if-count-own.false c.none.ensures c.arguments.ensures c.in_ok-arguments.was c.listed-part.ensures (call_parameter parts
    c.if-count-own.false c.requires.signed) c.function_result.ensures
    refl refl (demand-refused c.infer.ensures _ _ _ c.in_err-found.was))

pub calling::call-expect-requires-clause-known : goal.calling::call-expect-requires-clause-known
calling::call-expect-requires-clause-known t c =
    let parts = call-parts c.requires c.from-g.ensures c.first.ensures c.from-h.ensures c.call_ancillae-count.ensures
    c.function_parameters-own.ensures.0 in (
      c.infer.ensures.known _ c.in_ok-found.was,
      known_later (call-ready parts c.if-count-own.false c.none.ensures c.arguments.ensures c.in_ok-arguments.was
          c.listed-part.ensures).scoped.sources c.infer.ensures.kept (call_want parts c.if-count-own.false c.none.ensures c.arguments.ensures
          c.in_ok-arguments.was c.listed-part.ensures (call_parameter parts c.if-count-own.false c.requires.signed) c.function_result.ensures
          refl refl).0,
    )

pub calling::call-returns : goal.calling::call-returns
calling::call-returns t c =
    let parts = call-parts c.requires c.from-g.ensures c.first.ensures c.from-h.ensures c.call_ancillae-count.ensures
    c.function_parameters-own.ensures.0 in
    let want = call_want parts c.if-count-own.false c.none.ensures c.arguments.ensures c.in_ok-arguments.was c.listed-part.ensures (call_parameter
    parts c.if-count-own.false c.requires.signed) c.function_result.ensures
    refl refl in
    call_done parts c.if-count-own.false c.none.ensures c.arguments.ensures c.in_ok-arguments.was c.listed-part.ensures (call_parameter parts
    c.if-count-own.false c.requires.signed) c.function_result.ensures
    refl refl
    (demand_done c.infer.ensures (call-ready parts c.if-count-own.false c.none.ensures c.arguments.ensures c.in_ok-arguments.was
    c.listed-part.ensures).scoped.sources want.0 want.1 c.in_ok-found.was c.expect.ensures)

pub binds::arms-second-left-requires : goal.binds::arms-second-left-requires
binds::arms-second-left-requires t c =
    omega (arith, read_case c.requires.ready.entries c.requires.here)

pub binds::arms-third-right-requires : goal.binds::arms-third-right-requires
binds::arms-third-right-requires t c =
    read_case c.requires.ready.entries c.requires.here

pub binds::arms-infer-requires : goal.binds::arms-infer-requires
binds::arms-infer-requires t c =
    let left = left-part c.requires c.second-left.ensures c.third-right.ensures in (
      omega (arith, c.decreases, left.0),
      ready_for c.requires.signed (ready-opened (left-ready c.requires c.second-left.ensures
          c.third-right.ensures) c.bind-one.ensures) left.1,
    )

pub binds::arms-returns-in_err-f : goal.binds::arms-returns-in_err-f
binds::arms-returns-in_err-f t c =
    rw (stood c.in_err-f.was c.from_residual.ensures) (left-refused c.requires c.second-left.ensures c.third-right.ensures c.bind-one.ensures
    c.infer.ensures c.in_err-f.was)

pub binds::arms-returns-then-not-spent : goal.binds::arms-returns-then-not-spent
binds::arms-returns-then-not-spent t c =
    left-unused c.requires c.second-left.ensures c.third-right.ensures c.bind-one.ensures c.infer.ensures c.in_ok-f.was c.spent.ensures
    c.if-not-spent.true
    (misuses c.from.ensures) refl

pub binds::arms-spent-requires-clause-known : goal.binds::arms-spent-requires-clause-known
binds::arms-spent-requires-clause-known t c =
    (left-known c.requires c.second-left.ensures c.third-right.ensures c.bind-one.ensures c.infer.ensures, c.requires.free)

pub binds::arms-bind-two-requires-clause-scoped : goal.binds::arms-bind-two-requires-clause-scoped
binds::arms-bind-two-requires-clause-scoped t c =
    (right_later c.requires c.second-left.ensures c.third-right.ensures c.bind-one.ensures c.infer.ensures).scoped

pub binds::arms-bind-two-requires-clause-known : goal.binds::arms-bind-two-requires-clause-known
binds::arms-bind-two-requires-clause-known t c =
    (right-known c.requires c.second-left.ensures c.third-right.ensures c.bind-one.ensures c.infer.ensures, c.requires.free)

pub binds::arms-infer-requires-2 : goal.binds::arms-infer-requires-2
binds::arms-infer-requires-2 t c =
    let right = right-part c.requires c.second-left.ensures c.third-right.ensures in (
      omega (arith, c.decreases, right.0),
      ready_for c.requires.signed (ready-opened (right_later c.requires c.second-left.ensures
          c.third-right.ensures c.bind-one.ensures c.infer.ensures) c.bind-two.ensures) right.1,
    )

pub binds::arms-returns-in_err-g : goal.binds::arms-returns-in_err-g
binds::arms-returns-in_err-g t c =
    rw (stood c.in_err-g.was c.from_residual-in_err-g.ensures)
    (right-refused c.requires c.second-left.ensures c.third-right.ensures c.bind-one.ensures c.infer.ensures c.in_ok-f.was c.spent.ensures
    c.if-not-spent.false
    c.bind-two.ensures c.infer-2.ensures c.in_err-g.was)

pub binds::arms-meet-requires-clause-known : goal.binds::arms-meet-requires-clause-known
binds::arms-meet-requires-clause-known t c = (
  meet_left c.requires c.second-left.ensures c.third-right.ensures c.bind-one.ensures c.infer.ensures c.in_ok-f.was c.spent.ensures
      c.if-not-spent.false
      c.bind-two.ensures c.infer-2.ensures,
  c.infer-2.ensures.known _ c.in_ok-g.was,
  meet-bound c.requires c.second-left.ensures c.third-right.ensures c.bind-one.ensures c.infer.ensures c.in_ok-f.was c.spent.ensures
      c.if-not-spent.false
      c.bind-two.ensures c.infer-2.ensures,
  c.requires.free,
)

pub binds::arms-returns : goal.binds::arms-returns
binds::arms-returns t c =
    branches_done c.requires c.second-left.ensures c.third-right.ensures c.bind-one.ensures c.infer.ensures c.in_ok-f.was c.spent.ensures
    c.if-not-spent.false
    c.bind-two.ensures c.infer-2.ensures c.in_ok-g.was c.meet.ensures

pub binds::choose-returns-then-sc-eq-MOST_VARIABLES : goal.binds::choose-returns-then-sc-eq-MOST_VARIABLES
binds::choose-returns-then-sc-eq-MOST_VARIABLES t c =
    case_full c.requires c.if-sc-eq-MOST_VARIABLES.true (unscopes c.from.ensures) refl

pub binds::choose-first-sum-requires : goal.binds::choose-first-sum-requires
binds::choose-first-sum-requires t c =
    omega (arith, read_case c.requires.ready.entries c.requires.here)

pub binds::choose-infer-requires : goal.binds::choose-infer-requires
binds::choose-infer-requires t c =
    let part = case_part c.requires c.if-sc-eq-MOST_VARIABLES.false c.first-sum.ensures in (
      omega (arith, c.decreases, part.0),
      ready_for c.requires.signed (case_ready c.requires c.if-sc-eq-MOST_VARIABLES.false c.first-sum.ensures)
          part.1,
    )

pub binds::choose-returns-in_err-one : goal.binds::choose-returns-in_err-one
binds::choose-returns-in_err-one t c =
    rw (stood c.in_err-one.was c.from_residual.ensures) (case_refused c.requires c.if-sc-eq-MOST_VARIABLES.false c.first-sum.ensures c.infer.ensures
    c.in_err-one.was)

pub binds::choose-returns-in_default : goal.binds::choose-returns-in_default
binds::choose-returns-in_default t c =
    case_no c.requires c.if-sc-eq-MOST_VARIABLES.false c.first-sum.ensures c.infer.ensures c.in_ok-one.was c.shape_of.ensures
    c.in_default.not-Sum (differs c.from-in_default.ensures) refl

pub binds::choose-arms-requires : goal.binds::choose-arms-requires
binds::choose-arms-requires t c = (
  omega (arith, c.decreases),
  ready_branches c.requires.signed (case_later c.requires c.if-sc-eq-MOST_VARIABLES.false c.first-sum.ensures c.infer.ensures) c.requires.here
      (case_free c.requires c.if-sc-eq-MOST_VARIABLES.false c.first-sum.ensures)
      (case_parts c.requires c.if-sc-eq-MOST_VARIABLES.false c.first-sum.ensures c.infer.ensures c.in_ok-one.was c.shape_of.ensures
      c.in-Sum.is).0 (case_parts c.requires c.if-sc-eq-MOST_VARIABLES.false c.first-sum.ensures c.infer.ensures c.in_ok-one.was
      c.shape_of.ensures c.in-Sum.is).1 (case_named c.requires c.if-sc-eq-MOST_VARIABLES.false c.first-sum.ensures c.infer.ensures
      c.in_ok-one.was c.shape_of.ensures),
)

pub binds::choose-returns : goal.binds::choose-returns
binds::choose-returns t c =
    case_done c.requires c.if-sc-eq-MOST_VARIABLES.false c.first-sum.ensures c.infer.ensures c.in_ok-one.was c.shape_of.ensures c.in-Sum.is
    c.arms.ensures

pub binds::let_one-returns-then-sc-eq-MOST_VARIABLES : goal.binds::let_one-returns-then-sc-eq-MOST_VARIABLES
binds::let_one-returns-then-sc-eq-MOST_VARIABLES t c =
    let_full c.requires c.if-sc-eq-MOST_VARIABLES.true (unscopes c.from.ensures) refl

pub binds::let_one-first-bound-requires : goal.binds::let_one-first-bound-requires
binds::let_one-first-bound-requires t c =
    omega (arith, read_let c.requires.ready.entries c.requires.here)

pub binds::let_one-second-body-requires : goal.binds::let_one-second-body-requires
binds::let_one-second-body-requires t c =
    read_let c.requires.ready.entries c.requires.here

pub binds::let_one-infer-requires : goal.binds::let_one-infer-requires
binds::let_one-infer-requires t c =
    let bound = let_bound c.requires c.if-sc-eq-MOST_VARIABLES.false c.first-bound.ensures c.second-body.ensures in (
      omega (arith, c.decreases, bound.0),
      ready_for c.requires.signed (let_ready c.requires c.if-sc-eq-MOST_VARIABLES.false c.first-bound.ensures
          c.second-body.ensures c.marked-lent.ensures) bound.1,
    )

pub binds::let_one-returns-in_err-one : goal.binds::let_one-returns-in_err-one
binds::let_one-returns-in_err-one t c =
    rw (stood c.in_err-one.was c.from_residual.ensures)
    (let_refused c.requires c.if-sc-eq-MOST_VARIABLES.false c.first-bound.ensures c.second-body.ensures
    c.marked-lent.ensures c.infer.ensures c.in_err-one.was)

pub binds::let_one-bind-inner-requires-clause-scoped : goal.binds::let_one-bind-inner-requires-clause-scoped
binds::let_one-bind-inner-requires-clause-scoped t c =
    (let_later c.requires c.if-sc-eq-MOST_VARIABLES.false c.first-bound.ensures c.second-body.ensures
    c.marked-lent.ensures c.infer.ensures).scoped

pub binds::let_one-bind-inner-requires-clause-known : goal.binds::let_one-bind-inner-requires-clause-known
binds::let_one-bind-inner-requires-clause-known t c =
    (c.infer.ensures.known _ c.in_ok-one.was, let_free c.requires c.if-sc-eq-MOST_VARIABLES.false c.first-bound.ensures c.second-body.ensures)

pub binds::let_one-infer-requires-2 : goal.binds::let_one-infer-requires-2
binds::let_one-infer-requires-2 t c =
    let body = let_body c.requires c.if-sc-eq-MOST_VARIABLES.false c.first-bound.ensures c.second-body.ensures in
    let later = let_later c.requires c.if-sc-eq-MOST_VARIABLES.false c.first-bound.ensures c.second-body.ensures
    c.marked-lent.ensures c.infer.ensures in
    (omega (arith, c.decreases, body.0), ready_for c.requires.signed (ready-opened later c.bind-inner.ensures) body.1)

pub binds::let_one-returns-in_err-two : goal.binds::let_one-returns-in_err-two
binds::let_one-returns-in_err-two t c =
    rw (stood c.in_err-two.was c.from_residual-in_err-two.ensures)
    (let_stopped c.requires c.if-sc-eq-MOST_VARIABLES.false c.first-bound.ensures c.second-body.ensures
    c.marked-lent.ensures c.infer.ensures c.in_ok-one.was c.bind-inner.ensures c.infer-2.ensures c.in_err-two.was)

pub binds::let_one-close_one-requires-clause-known : goal.binds::let_one-close_one-requires-clause-known
binds::let_one-close_one-requires-clause-known t c = (
  let_known c.requires c.if-sc-eq-MOST_VARIABLES.false c.first-bound.ensures c.second-body.ensures
      c.marked-lent.ensures c.infer.ensures c.in_ok-one.was c.bind-inner.ensures c.infer-2.ensures,
  let_free c.requires c.if-sc-eq-MOST_VARIABLES.false
      c.first-bound.ensures c.second-body.ensures,
)

pub binds::let_one-close_one-requires-clause-settleable : goal.binds::let_one-close_one-requires-clause-settleable
binds::let_one-close_one-requires-clause-settleable t c =
    let_can_settle c.requires c.if-sc-eq-MOST_VARIABLES.false c.first-bound.ensures c.second-body.ensures
    c.marked-lent.ensures c.infer.ensures c.in_ok-one.was c.bind-inner.ensures c.infer-2.ensures
    c.count-from.ensures c.count-to.ensures

pub binds::let_one-returns : goal.binds::let_one-returns
binds::let_one-returns t c =
    let_done c.requires c.if-sc-eq-MOST_VARIABLES.false c.first-bound.ensures c.second-body.ensures
    c.marked-lent.ensures c.infer.ensures c.in_ok-one.was c.bind-inner.ensures c.infer-2.ensures
    c.count-from.ensures c.count-to.ensures c.in_ok-two.was c.close_one.ensures

pub binds::let_two-returns-then-sc-gt-MOST_VARIABLES : goal.binds::let_two-returns-then-sc-gt-MOST_VARIABLES
binds::let_two-returns-then-sc-gt-MOST_VARIABLES t c =
    letp_full c.requires c.if-sc-gt-MOST_VARIABLES.true (unscopes c.from.ensures) refl

pub binds::let_two-first-bound-requires : goal.binds::let_two-first-bound-requires
binds::let_two-first-bound-requires t c =
    omega (arith, read_letp c.requires.ready.entries c.requires.here)

pub binds::let_two-second-body-requires : goal.binds::let_two-second-body-requires
binds::let_two-second-body-requires t c =
    read_letp c.requires.ready.entries c.requires.here

pub binds::let_two-infer-requires : goal.binds::let_two-infer-requires
binds::let_two-infer-requires t c =
    let bound = letp_bound c.requires c.if-sc-gt-MOST_VARIABLES.false c.first-bound.ensures c.second-body.ensures in (
      omega (arith, c.decreases, bound.0),
      ready_for c.requires.signed (letp_ready c.requires c.if-sc-gt-MOST_VARIABLES.false c.first-bound.ensures
          c.second-body.ensures c.marked-lent.ensures) bound.1,
    )

pub binds::let_two-returns-in_err-one : goal.binds::let_two-returns-in_err-one
binds::let_two-returns-in_err-one t c =
    rw (stood c.in_err-one.was c.from_residual.ensures)
    (letp_refused c.requires c.if-sc-gt-MOST_VARIABLES.false c.first-bound.ensures c.second-body.ensures
    c.marked-lent.ensures c.infer.ensures c.in_err-one.was)

pub binds::let_two-returns-in_default : goal.binds::let_two-returns-in_default
binds::let_two-returns-in_default t c =
    letp_no c.requires c.if-sc-gt-MOST_VARIABLES.false c.first-bound.ensures c.second-body.ensures
    c.marked-lent.ensures c.infer.ensures c.in_ok-one.was c.shape_of.ensures
    c.in_default.not-Product (differs c.from-in_default.ensures) refl

pub binds::let_two-bind-middle-requires-clause-scoped : goal.binds::let_two-bind-middle-requires-clause-scoped
binds::let_two-bind-middle-requires-clause-scoped t c =
    (letp_later c.requires c.if-sc-gt-MOST_VARIABLES.false c.first-bound.ensures c.second-body.ensures
    c.marked-lent.ensures c.infer.ensures).scoped

pub binds::let_two-bind-middle-requires-clause-known : goal.binds::let_two-bind-middle-requires-clause-known
binds::let_two-bind-middle-requires-clause-known t c = (
  (letp_parts c.requires c.if-sc-gt-MOST_VARIABLES.false c.first-bound.ensures c.second-body.ensures
      c.marked-lent.ensures c.infer.ensures c.in_ok-one.was c.shape_of.ensures c.in-Product.is).0,
  omega (arith, c.if-sc-gt-MOST_VARIABLES.false),
)

pub binds::let_two-bind-inner-requires-clause-known : goal.binds::let_two-bind-inner-requires-clause-known
binds::let_two-bind-inner-requires-clause-known t c = (
  (letp_parts c.requires c.if-sc-gt-MOST_VARIABLES.false c.first-bound.ensures c.second-body.ensures
      c.marked-lent.ensures c.infer.ensures c.in_ok-one.was c.shape_of.ensures c.in-Product.is).1,
  letp_second c.requires
      c.if-sc-gt-MOST_VARIABLES.false c.first-bound.ensures c.second-body.ensures
      c.marked-lent.ensures c.infer.ensures c.in_ok-one.was c.shape_of.ensures c.in-Product.is c.bind-middle.ensures,
)

pub binds::let_two-infer-requires-2 : goal.binds::let_two-infer-requires-2
binds::let_two-infer-requires-2 t c =
    let body = letp_body c.requires c.if-sc-gt-MOST_VARIABLES.false c.first-bound.ensures c.second-body.ensures in
    let later = letp_later c.requires c.if-sc-gt-MOST_VARIABLES.false c.first-bound.ensures c.second-body.ensures
    c.marked-lent.ensures c.infer.ensures in (
      omega (arith, c.decreases, body.0),
      ready_for c.requires.signed (ready-opened (ready-opened later c.bind-middle.ensures) c.bind-inner.ensures) body.1,
    )

pub binds::let_two-returns-in_err-two : goal.binds::let_two-returns-in_err-two
binds::let_two-returns-in_err-two t c =
    rw (stood c.in_err-two.was c.from_residual-in_err-two.ensures)
    (letp_stopped c.requires c.if-sc-gt-MOST_VARIABLES.false c.first-bound.ensures c.second-body.ensures
    c.marked-lent.ensures c.infer.ensures c.in_ok-one.was c.shape_of.ensures c.in-Product.is c.bind-middle.ensures
    c.bind-inner.ensures c.infer-2.ensures c.in_err-two.was)

pub binds::let_two-close_two-requires-clause-known : goal.binds::let_two-close_two-requires-clause-known
binds::let_two-close_two-requires-clause-known t c = (
  letp_first_known c.requires c.if-sc-gt-MOST_VARIABLES.false c.first-bound.ensures c.second-body.ensures
      c.marked-lent.ensures c.infer.ensures c.in_ok-one.was c.shape_of.ensures c.in-Product.is c.bind-middle.ensures
      c.bind-inner.ensures c.infer-2.ensures,
  letp_second_known c.requires c.if-sc-gt-MOST_VARIABLES.false c.first-bound.ensures c.second-body.ensures
      c.marked-lent.ensures c.infer.ensures c.in_ok-one.was c.shape_of.ensures c.in-Product.is c.bind-middle.ensures
      c.bind-inner.ensures c.infer-2.ensures,
  omega (arith, c.if-sc-gt-MOST_VARIABLES.false),
)

pub binds::let_two-close_two-requires-clause-settleable : goal.binds::let_two-close_two-requires-clause-settleable
binds::let_two-close_two-requires-clause-settleable t c =
    letp_can_settle c.requires c.if-sc-gt-MOST_VARIABLES.false c.first-bound.ensures c.second-body.ensures
    c.marked-lent.ensures c.infer.ensures c.in_ok-one.was c.shape_of.ensures c.in-Product.is c.bind-middle.ensures
    c.bind-inner.ensures c.infer-2.ensures
    c.count-from.ensures c.count-to.ensures

pub binds::let_two-returns : goal.binds::let_two-returns
binds::let_two-returns t c =
    letp_done c.requires c.if-sc-gt-MOST_VARIABLES.false c.first-bound.ensures c.second-body.ensures
    c.marked-lent.ensures c.infer.ensures c.in_ok-one.was c.shape_of.ensures c.in-Product.is c.bind-middle.ensures
    c.bind-inner.ensures c.infer-2.ensures
    c.count-from.ensures c.count-to.ensures c.in_ok-two.was c.close_two.ensures

pub infer::infer-variable-requires : goal.infer::infer-variable-requires
infer::infer-variable-requires t c =
    read-var c.requires.ready.entries (here c.requires.there c.offset-at.ensures c.term_kind.ensures (ap term_kind_number c.in-Variable.is))

pub infer::infer-variable-requires-in-Variable : goal.infer::infer-variable-requires-in-Variable
infer::infer-variable-requires-in-Variable t c =
    (c.requires.ready.scoped.few, c.requires.ready.scoped.slots, one-waits c.requires)

pub infer::infer-returns-in-Variable : goal.infer::infer-returns-in-Variable
infer::infer-returns-in-Variable t c =
    var_done c.requires.ready (here c.requires.there c.offset-at.ensures c.term_kind.ensures (ap term_kind_number c.in-Variable.is))
    c.variable.ensures c.variable-in-Variable.ensures

pub infer::infer-returns-in-Unit : goal.infer::infer-returns-in-Unit
infer::infer-returns-in-Unit t c =
    unit_done c.requires.ready (here c.requires.there c.offset-at.ensures c.term_kind.ensures (ap term_kind_number c.in-Unit.is)) c.unit.ensures

pub infer::inject-first-requires : goal.infer::inject-first-requires
infer::inject-first-requires t c =
    omega (arith, read_inject c.requires.ready.entries _ c.requires.here c.requires.least c.requires.most)

pub infer::inject-second-part-requires : goal.infer::inject-second-part-requires
infer::inject-second-part-requires t c =
    read_inject c.requires.ready.entries _ c.requires.here c.requires.least c.requires.most

pub infer::inject-shape_of-requires : goal.infer::inject-shape_of-requires
infer::inject-shape_of-requires t c =
    inject_whole c.requires c.first.ensures c.second-part.ensures refl

pub infer::inject-returns-in_default : goal.infer::inject-returns-in_default
infer::inject-returns-in_default t c =
    inject_no c.requires c.first.ensures c.second-part.ensures refl
    c.shape_of.ensures c.in_default.not-Sum (differs c.from.ensures) refl

pub infer::inject-infer-requires : goal.infer::inject-infer-requires
infer::inject-infer-requires t c =
    let part = inject_part c.requires c.first.ensures c.second-part.ensures refl in (
      omega (arith, c.decreases, part.0),
      ready_for c.requires.signed (inject_ready c.requires c.first.ensures c.second-part.ensures refl) part.1,
    )

pub infer::inject-kind-requires : goal.infer::inject-kind-requires
infer::inject-kind-requires t c =
    omega (arith, read_inject c.requires.ready.entries _ c.requires.here c.requires.least c.requires.most)

pub infer::inject-returns-in_err-found : goal.infer::inject-returns-in_err-found
infer::inject-returns-in_err-found t c =
    rw (stood c.in_err-found.was c.from_residual.ensures)
    (inject-refused c.requires c.first.ensures c.second-part.ensures refl c.shape_of.ensures c.in-Sum.is c.infer.ensures c.in_err-found.was)

pub infer::inject-expect-requires-clause-known : goal.infer::inject-expect-requires-clause-known
infer::inject-expect-requires-clause-known t c = (
  c.infer.ensures.known _ c.in_ok-found.was,
  known_later c.requires.ready.scoped.sources c.infer.ensures.kept (inject_parts c.requires c.first.ensures c.second-part.ensures refl
      c.shape_of.ensures c.in-Sum.is).0,
)

pub infer::inject-expect-requires-2-clause-known : goal.infer::inject-expect-requires-2-clause-known
infer::inject-expect-requires-2-clause-known t c = (
  c.infer.ensures.known _ c.in_ok-found.was,
  known_later c.requires.ready.scoped.sources c.infer.ensures.kept (inject_parts c.requires c.first.ensures c.second-part.ensures refl
      c.shape_of.ensures c.in-Sum.is).1,
)

pub infer::inject-returns-then-kind-eq-INL : goal.infer::inject-returns-then-kind-eq-INL
infer::inject-returns-then-kind-eq-INL t c =
    inject_left c.requires c.first.ensures c.second-part.ensures refl
    c.shape_of.ensures c.in-Sum.is (sym c.kind.ensures ∙ c.if-kind-eq-INL.true)
    (demand_done c.infer.ensures c.requires.ready.scoped.sources (inject_parts c.requires c.first.ensures c.second-part.ensures refl
    c.shape_of.ensures c.in-Sum.is).0
    (inject_whole c.requires c.first.ensures c.second-part.ensures refl) c.in_ok-found.was c.expect.ensures)

pub infer::inject-returns : goal.infer::inject-returns
infer::inject-returns t c =
    inject_right c.requires c.first.ensures c.second-part.ensures refl
    c.shape_of.ensures c.in-Sum.is (λ q. c.if-kind-eq-INL.false (c.kind.ensures ∙ q))
    (demand_done c.infer.ensures c.requires.ready.scoped.sources (inject_parts c.requires c.first.ensures c.second-part.ensures refl
    c.shape_of.ensures c.in-Sum.is).1
    (inject_whole c.requires c.first.ensures c.second-part.ensures refl) c.in_ok-found.was c.expect-2.ensures)

pub infer::pair-first-left-requires : goal.infer::pair-first-left-requires
infer::pair-first-left-requires t c =
    omega (arith, read-pair c.requires.ready.entries c.requires.here)

pub infer::pair-second-right-requires : goal.infer::pair-second-right-requires
infer::pair-second-right-requires t c =
    read-pair c.requires.ready.entries c.requires.here

pub infer::pair-infer-requires : goal.infer::pair-infer-requires
infer::pair-infer-requires t c =
    let left = pair_left c.requires c.first-left.ensures c.second-right.ensures in
    (omega (arith, c.decreases, left.0), ready_for c.requires.signed (pair-ready c.requires c.first-left.ensures c.second-right.ensures) left.1)

pub infer::pair-returns-in_err-one : goal.infer::pair-returns-in_err-one
infer::pair-returns-in_err-one t c =
    rw (stood c.in_err-one.was c.from_residual.ensures) (pair-refused c.requires c.first-left.ensures c.second-right.ensures c.infer.ensures
    c.in_err-one.was)

pub infer::pair-infer-requires-2 : goal.infer::pair-infer-requires-2
infer::pair-infer-requires-2 t c =
    let right = pair-right c.requires c.first-left.ensures c.second-right.ensures in (
      omega (arith, c.decreases, right.0),
      ready_for c.requires.signed (pair_later c.requires c.first-left.ensures c.second-right.ensures
          c.infer.ensures) right.1,
    )

pub infer::pair-returns-in_err-two : goal.infer::pair-returns-in_err-two
infer::pair-returns-in_err-two t c =
    rw (stood c.in_err-two.was c.from_residual-in_err-two.ensures)
    (pair-stopped c.requires c.first-left.ensures c.second-right.ensures c.infer.ensures c.in_ok-one.was c.infer-2.ensures c.in_err-two.was)

pub infer::pair-pair_up-requires-clause-known : goal.infer::pair-pair_up-requires-clause-known
infer::pair-pair_up-requires-clause-known t c = (
  pair_up_left c.requires c.first-left.ensures c.second-right.ensures c.infer.ensures c.in_ok-one.was c.infer-2.ensures,
  c.infer-2.ensures.known _
      c.in_ok-two.was,
)

pub infer::pair-pair_up-requires-clause-room : goal.infer::pair-pair_up-requires-clause-room
infer::pair-pair_up-requires-clause-room t c =
    pair-room c.requires c.first-left.ensures c.second-right.ensures c.infer.ensures c.in_ok-one.was c.infer-2.ensures

pub infer::pair-returns : goal.infer::pair-returns
infer::pair-returns t c =
    pair_done c.requires c.first-left.ensures c.second-right.ensures c.infer.ensures c.in_ok-one.was c.infer-2.ensures c.in_ok-two.was
    c.pair_up.ensures

pub infer::roll-first-i-requires : goal.infer::roll-first-i-requires
infer::roll-first-i-requires t c =
    omega (arith, read-roll c.requires.ready.entries c.requires.here)

pub infer::roll-second-part-requires : goal.infer::roll-second-part-requires
infer::roll-second-part-requires t c =
    read-roll c.requires.ready.entries c.requires.here

pub infer::roll-unfolded-requires : goal.infer::roll-unfolded-requires
infer::roll-unfolded-requires t c =
    roll_type c.requires c.first-i.ensures c.second-part.ensures

pub infer::roll-returns-in_default : goal.infer::roll-returns-in_default
infer::roll-returns-in_default t c =
    roll-no c.requires c.first-i.ensures c.second-part.ensures c.unfolded.ensures (none_of c.in_default.not-Some) (differs c.from.ensures) refl

pub infer::roll-infer-requires : goal.infer::roll-infer-requires
infer::roll-infer-requires t c =
    let part = roll-part c.requires c.first-i.ensures c.second-part.ensures in
    (omega (arith, c.decreases, part.0), ready_for c.requires.signed (roll-ready c.requires c.first-i.ensures c.second-part.ensures) part.1)

pub infer::roll-returns-in_err-found : goal.infer::roll-returns-in_err-found
infer::roll-returns-in_err-found t c =
    rw (stood c.in_err-found.was c.from_residual.ensures)
    (roll-refused c.requires c.first-i.ensures c.second-part.ensures c.unfolded.ensures c.in-Some.is c.infer.ensures c.in_err-found.was)

pub infer::roll-expect-requires-clause-known : goal.infer::roll-expect-requires-clause-known
infer::roll-expect-requires-clause-known t c = (
  c.infer.ensures.known _ c.in_ok-found.was,
  known_later c.requires.ready.scoped.sources c.infer.ensures.kept (roll-known c.requires c.first-i.ensures c.second-part.ensures
      c.unfolded.ensures c.in-Some.is),
)

pub infer::roll-returns : goal.infer::roll-returns
infer::roll-returns t c =
    roll_done c.requires c.first-i.ensures c.second-part.ensures c.unfolded.ensures c.in-Some.is refl
    (demand_done c.infer.ensures c.requires.ready.scoped.sources (roll-known c.requires c.first-i.ensures c.second-part.ensures c.unfolded.ensures
    c.in-Some.is)
    (roll_whole c.requires c.first-i.ensures c.second-part.ensures refl) c.in_ok-found.was c.expect.ensures)

pub infer::unroll-first-i-requires : goal.infer::unroll-first-i-requires
infer::unroll-first-i-requires t c =
    omega (arith, read_unroll c.requires.ready.entries c.requires.here)

pub infer::unroll-second-part-requires : goal.infer::unroll-second-part-requires
infer::unroll-second-part-requires t c =
    read_unroll c.requires.ready.entries c.requires.here

pub infer::unroll-unfolded-requires : goal.infer::unroll-unfolded-requires
infer::unroll-unfolded-requires t c =
    unroll_type c.requires c.first-i.ensures c.second-part.ensures

pub infer::unroll-returns-in_default : goal.infer::unroll-returns-in_default
infer::unroll-returns-in_default t c =
    unroll_no c.requires c.first-i.ensures c.second-part.ensures c.unfolded.ensures (none_of c.in_default.not-Some) (differs c.from.ensures) refl

pub infer::unroll-within_limit-requires-clause-known : goal.infer::unroll-within_limit-requires-clause-known
infer::unroll-within_limit-requires-clause-known t c =
    unroll_known c.requires c.first-i.ensures c.second-part.ensures c.unfolded.ensures c.in-Some.is

pub infer::unroll-returns-then-not-within_limit : goal.infer::unroll-returns-then-not-within_limit
infer::unroll-returns-then-not-within_limit t c =
    unroll_large c.requires c.first-i.ensures c.second-part.ensures c.unfolded.ensures c.in-Some.is c.within_limit.ensures
    c.if-not-within_limit.true (differs c.from-then-not-within_limit.ensures) refl

pub infer::unroll-infer-requires : goal.infer::unroll-infer-requires
infer::unroll-infer-requires t c =
    let part = unroll_part c.requires c.first-i.ensures c.second-part.ensures in
    (omega (arith, c.decreases, part.0), ready_for c.requires.signed (unroll_ready c.requires c.first-i.ensures c.second-part.ensures) part.1)

pub infer::unroll-returns-in_err-found : goal.infer::unroll-returns-in_err-found
infer::unroll-returns-in_err-found t c =
    rw (stood c.in_err-found.was c.from_residual.ensures)
    (unroll_refused c.requires c.first-i.ensures c.second-part.ensures c.unfolded.ensures c.in-Some.is c.within_limit.ensures
    c.if-not-within_limit.false c.infer.ensures c.in_err-found.was)

pub infer::unroll-expect-requires-clause-known : goal.infer::unroll-expect-requires-clause-known
infer::unroll-expect-requires-clause-known t c = (
  c.infer.ensures.known _ c.in_ok-found.was,
  known_later c.requires.ready.scoped.sources c.infer.ensures.kept (unroll_whole c.requires c.first-i.ensures c.second-part.ensures refl),
)

pub infer::unroll-returns : goal.infer::unroll-returns
infer::unroll-returns t c =
    unroll_done c.requires c.first-i.ensures c.second-part.ensures c.unfolded.ensures c.in-Some.is c.within_limit.ensures c.if-not-within_limit.false
    refl (demand_done c.infer.ensures c.requires.ready.scoped.sources
    (unroll_whole c.requires c.first-i.ensures c.second-part.ensures refl) (unroll_known c.requires c.first-i.ensures c.second-part.ensures
    c.unfolded.ensures c.in-Some.is) c.in_ok-found.was c.expect.ensures)
