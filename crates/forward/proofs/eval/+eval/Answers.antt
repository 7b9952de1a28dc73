use Prim.Native.Nat.{◌+◌}
use Rattle.forward.proofs as own
use native.Mathlib.Omega.{arith}
use Rattle.program.specs.KindNumbers.{term_kind_number}
use mathlib.Core.Path.{ap, ◌∙◌, refl, sym}
use mathlib.Core.Logic.{inl as left, inr as right}
use own.Answers.{is_value_lem, is_refused}
use own.Bounds.{row_read, scope-there, body-read, lower-part, find_ready, lt_le, argument-read}
use own.Placing.{few-count, all_to_place, place-room, place-less, place-next, place-ready, place-refused, place-last, place-more}
use own.Calling.{call-refused, call-ready, call_done}
use own.Lending.{value_kind, called-ready, called-ran, later_in, as_ready, case_check, entered, entered_done, variable-step, make_ready, unit-step, under-ready, twice_done, with_slots, placed_at, placed-out, under_done}
use Rattle.valuegraph.proofs.Heaps.{value_inl, value_inr, value-pair}
use own.Runs.{later}
use own.Leaves.{node-there}
use Rattle.valuegraph.specs.Nodes.{kind_number, kind_named}
use Rattle.valuegraph.specs.declared.kinds.Kind.TheVariants.{Pair}
use Rattle.yields.proofs.Read.{kind_same, kind_differs}
use own.Binds.{case_first, case_second, case_third, case_refused, case_stuck, case_left, case_right, let_first, let_second, let_refused, let_done, bind_room, letp_first, letp_second, letp_refused, letp_stuck, letp_done}
use own.Steps.{term-spent, term_high, pair-first, pair-second, pair-refused, pair-refused_2, pair_done, unroll_ready, unroll_refused, unroll_done, wrap_ready, wrap_refused, wrap_single, wrap_done}
use Rattle.rules.specs.Limits.{max_height, max_parameters}
use Rattle.scopes.specs.Slots.{Machine}
use Rattle.forward.proofs.eval.+eval.Goals as goal

-- The functions of forward evaluation meet their contracts. (One file, however long: the check reads the answers of a cycle of calls from it alone.)

pub call-third_of-requires : goal.call-third_of-requires
call-third_of-requires t c =
    row_read c.requires.ready_in.ready

pub call-place-r-requires : goal.call-place-r-requires
call-place-r-requires t c = (
  omega (arith, c.decreases),
  (
    c.requires.ready_in,
    (all_to_place c.requires.t_value
        (c.from-count.ensures ∙ c.third_of.ensures)),
  ),
)

pub call-shape_of-ws-then-r-ge-STOPPED : goal.call-shape_of-ws-then-r-ge-STOPPED
call-shape_of-ws-then-r-ge-STOPPED t c =
    c.place-r.auto.ws

pub call-returns-then-r-ge-STOPPED : goal.call-returns-then-r-ge-STOPPED
call-returns-then-r-ge-STOPPED t c =
    record {
      lengths = c.place-r.ensures.lengths;
      ran = call-refused c.requires.ready_in.ready (all_to_place c.requires.t_value (c.from-count.ensures ∙ c.third_of.ensures))
          c.place-r.ensures.places (is_refused c.if-r-ge-STOPPED.true);
    }

pub call-first_of-requires : goal.call-first_of-requires
call-first_of-requires t c =
    row_read c.requires.ready_in.ready

pub call-body_of-body-requires : goal.call-body_of-body-requires
call-body_of-body-requires t c =
    body-read c.requires.ready_in.ready _ c.requires.t_value c.first_of.ensures

pub call-overflow_add-count : goal.call-overflow_add-count
call-overflow_add-count t c =
    omega (arith, few-count c.requires.ready_in.ready (all_to_place c.requires.t_value (c.from-count.ensures ∙ c.third_of.ensures)))

pub call-scope-inner-requires : goal.call-scope-inner-requires
call-scope-inner-requires t c =
    let few = few-count c.requires.ready_in.ready (all_to_place c.requires.t_value
    (c.from-count.ensures ∙ c.third_of.ensures)) in
    (omega (arith, scope-there c.requires.ready_in.ready), omega arith, omega arith)

pub call-overflow_sub-room : goal.call-overflow_sub-room
call-overflow_sub-room t c =
    omega (arith, c.requires.ready_in.ready.tall)

pub call-eval-requires : goal.call-eval-requires
call-eval-requires t c = (
  omega (arith, c.decreases, c.place-r.ensures.places.ran.spends),
  called-ready _
      (c.place-r.ensures.lengths ∙ c.requires.ready_in.full)
      (c.scope-inner.ensures ∙ ap (λ b. record { base = b; q = c.from-count.result; n = c.from-count.result + 1 })
      c.end_of.ensures) (call-ready c.requires.ready_in.ready
      (all_to_place c.requires.t_value (c.from-count.ensures ∙ c.third_of.ensures)) c.place-r.ensures.places
      (is_value_lem c.if-r-ge-STOPPED.false) _ _ c.first_of.ensures c.body_of-body.ensures),
)

pub call-shape_of-ws : goal.call-shape_of-ws
call-shape_of-ws t c =
    c.eval.auto.ws ∙ c.place-r.auto.ws

pub call-returns : goal.call-returns
call-returns t c =
    record {
      lengths = c.eval.ensures.lengths ∙ c.place-r.ensures.lengths;
      ran = call_done c.requires.ready_in.ready (all_to_place c.requires.t_value (c.from-count.ensures ∙ c.third_of.ensures))
          c.place-r.ensures.places (is_value_lem c.if-r-ge-STOPPED.false) _ _ c.first_of.ensures c.body_of-body.ensures
          (called-ran _ (c.scope-inner.ensures ∙ ap (λ b. record { base = b; q = c.from-count.result; n = c.from-count.result + 1 })
          c.end_of.ensures) c.eval.ensures);
    }

pub choose-first_of-sum-requires : goal.choose-first_of-sum-requires
choose-first_of-sum-requires t c =
    row_read c.requires.ready_in.ready

pub choose-overflow_sub-below : goal.choose-overflow_sub-below
choose-overflow_sub-below t c =
    omega (arith, c.requires.ready_in.ready.tall)

pub choose-eval-r-requires : goal.choose-eval-r-requires
choose-eval-r-requires t c =
    (omega (arith, c.decreases), as_ready c.requires.ready_in (case_first c.requires.ready_in.ready c.requires.t_value _ c.first_of-sum.ensures))

pub choose-shape_of-ws-then-r-ge-STOPPED : goal.choose-shape_of-ws-then-r-ge-STOPPED
choose-shape_of-ws-then-r-ge-STOPPED t c =
    c.eval-r.auto.ws

pub choose-returns-then-r-ge-STOPPED : goal.choose-returns-then-r-ge-STOPPED
choose-returns-then-r-ge-STOPPED t c =
    record {
      lengths = c.eval-r.ensures.lengths;
      ran = case_refused c.requires.ready_in.ready c.requires.t_value _
          c.first_of-sum.ensures c.eval-r.ensures.ran (is_refused c.if-r-ge-STOPPED.true);
    }

pub choose-kind_of-requires : goal.choose-kind_of-requires
choose-kind_of-requires t c =
    node-there c.eval-r.ensures.ran.graph (c.eval-r.ensures.ran.node _ (is_value_lem c.if-r-ge-STOPPED.false))

pub choose-left_of-part-requires : goal.choose-left_of-part-requires
choose-left_of-part-requires t c =
    node-there c.eval-r.ensures.ran.graph (c.eval-r.ensures.ran.node _ (is_value_lem c.if-r-ge-STOPPED.false))

pub choose-second_of-requires : goal.choose-second_of-requires
choose-second_of-requires t c =
    row_read c.requires.ready_in.ready

pub choose-under-requires : goal.choose-under-requires
choose-under-requires t c = (
  omega (arith, c.decreases, c.eval-r.ensures.ran.spends),
  (
    as_ready (later_in c.requires.ready_in c.eval-r.ensures)
        (case_second (later c.requires.ready_in.ready c.eval-r.ensures.ran) c.requires.t_value _ c.second_of.ensures),
    lower-part c.left_of-part.ensures (value_inl _ _ c.eval-r.ensures.ran.graph.right _
        (c.eval-r.ensures.ran.node _ (is_value_lem c.if-r-ge-STOPPED.false)) (sym (value_kind c.eval-r.ensures (is_value_lem c.if-r-ge-STOPPED.false) c.kind_of.ensures) ∙ ap kind_number c.in-Inl.is)).1
        (c.eval-r.ensures.ran.node _ (is_value_lem c.if-r-ge-STOPPED.false)),
  ),
)

pub choose-shape_of-ws-in-Inl : goal.choose-shape_of-ws-in-Inl
choose-shape_of-ws-in-Inl t c =
    c.under.auto.ws ∙ c.eval-r.auto.ws

pub choose-returns-in-Inl : goal.choose-returns-in-Inl
choose-returns-in-Inl t c =
    record {
      lengths = c.under.ensures.lengths ∙ c.eval-r.ensures.lengths;
      ran = case_left c.requires.ready_in.ready
          c.requires.t_value _ c.first_of-sum.ensures c.eval-r.ensures.ran (is_value_lem c.if-r-ge-STOPPED.false) _
          c.left_of-part.ensures _ c.under.ensures.ran (sym (value_kind c.eval-r.ensures (is_value_lem c.if-r-ge-STOPPED.false) c.kind_of.ensures) ∙ ap kind_number c.in-Inl.is)
          c.second_of.ensures;
    }

pub choose-third_of-requires : goal.choose-third_of-requires
choose-third_of-requires t c =
    row_read c.requires.ready_in.ready

pub choose-under-out-requires : goal.choose-under-out-requires
choose-under-out-requires t c = (
  omega (arith, c.decreases, c.eval-r.ensures.ran.spends),
  (
    as_ready (later_in c.requires.ready_in c.eval-r.ensures)
        (case_third (later c.requires.ready_in.ready c.eval-r.ensures.ran) c.requires.t_value _ c.third_of.ensures),
    lower-part
        c.left_of-part.ensures (value_inr _ _ c.eval-r.ensures.ran.graph.right _
        (c.eval-r.ensures.ran.node _ (is_value_lem c.if-r-ge-STOPPED.false)) (sym (value_kind c.eval-r.ensures (is_value_lem c.if-r-ge-STOPPED.false) c.kind_of.ensures) ∙ ap kind_number c.in-Inr.is)).1
        (c.eval-r.ensures.ran.node _ (is_value_lem c.if-r-ge-STOPPED.false)),
  ),
)

pub choose-first_match-requires : goal.choose-first_match-requires
choose-first_match-requires t c =
    case_check c.requires.ready_in c.requires.t_value c.eval-r.ensures c.under-out.ensures

pub choose-shape_of-ws-in-Inr : goal.choose-shape_of-ws-in-Inr
choose-shape_of-ws-in-Inr t c =
    c.under-out.auto.ws ∙ c.eval-r.auto.ws

pub choose-returns-in-Inr : goal.choose-returns-in-Inr
choose-returns-in-Inr t c =
    record {
      lengths = c.under-out.ensures.lengths ∙ c.eval-r.ensures.lengths;
      ran = case_right c.requires.ready_in.ready
          c.requires.t_value _ c.first_of-sum.ensures c.eval-r.ensures.ran (is_value_lem c.if-r-ge-STOPPED.false) _
          c.left_of-part.ensures _ c.under-out.ensures.ran (sym (value_kind c.eval-r.ensures (is_value_lem c.if-r-ge-STOPPED.false) c.kind_of.ensures) ∙ ap kind_number c.in-Inr.is)
          c.third_of.ensures _ c.first_match.ensures;
    }

pub choose-shape_of-ws-in_default : goal.choose-shape_of-ws-in_default
choose-shape_of-ws-in_default t c =
    c.eval-r.auto.ws

pub choose-returns-in_default : goal.choose-returns-in_default
choose-returns-in_default t c =
    record {
      lengths = c.eval-r.ensures.lengths;
      ran = case_stuck c.requires.ready_in.ready c.requires.t_value _
          c.first_of-sum.ensures c.eval-r.ensures.ran (is_value_lem c.if-r-ge-STOPPED.false)
          (λ e. c.in_default.not-Inl (c.kind_of.ensures ∙ ap kind_named e)) (λ e. c.in_default.not-Inr (c.kind_of.ensures ∙ ap kind_named e)) _
          c.refuse.ensures.status refl;
    }

pub eval-returns-then-fuel-eq0 : goal.eval-returns-then-fuel-eq0
eval-returns-then-fuel-eq0 t c =
    record {
      lengths = refl;
      ran = term-spent c.requires.ready _ c.refuse.ensures.status refl (sym c.fuel.ensures ∙ c.if-fuel-eq0.true);
    }

pub eval-returns-then-room-eq0 : goal.eval-returns-then-room-eq0
eval-returns-then-room-eq0 t c =
    record {
      lengths = refl;
      ran = term_high c.requires.ready (λ e. c.if-fuel-eq0.false (c.fuel.ensures ∙ e)) _
          c.refuse-then-room-eq0.ensures.status refl c.if-room-eq0.true;
    }

pub eval-spend-requires : goal.eval-spend-requires
eval-spend-requires t c =
    (c.requires.full, omega arith)

pub eval-term_kind-requires-clause-rows : goal.eval-term_kind-requires-clause-rows
eval-term_kind-requires-clause-rows t c =
    c.requires.ready.rows

pub eval-term_kind-requires-clause-t_lt_count : goal.eval-term_kind-requires-clause-t_lt_count
eval-term_kind-requires-clause-t_lt_count t c =
    c.requires.ready.term

pub eval-first_of-requires : goal.eval-first_of-requires
eval-first_of-requires t c =
    row_read c.requires.ready

pub eval-variable-requires : goal.eval-variable-requires
eval-variable-requires t c =
    find_ready (entered c.requires c.fuel.ensures c.if-fuel-eq0.false c.if-room-eq0.false c.spend.ensures).0

pub eval-make_unit-requires : goal.eval-make_unit-requires
eval-make_unit-requires t c =
    make_ready (entered c.requires c.fuel.ensures c.if-fuel-eq0.false c.if-room-eq0.false c.spend.ensures).0

pub eval-wrap-requires : goal.eval-wrap-requires
eval-wrap-requires t c =
    let s = entered c.requires c.fuel.ensures c.if-fuel-eq0.false c.if-room-eq0.false c.spend.ensures in
    (omega (arith, c.decreases, s.1), (s.0, left (sym c.term_kind.ensures ∙ ap term_kind_number c.in-Inl.is, refl)))

pub eval-wrap-requires-in-Inr : goal.eval-wrap-requires-in-Inr
eval-wrap-requires-in-Inr t c =
    let s = entered c.requires c.fuel.ensures c.if-fuel-eq0.false c.if-room-eq0.false c.spend.ensures in
    (omega (arith, c.decreases, s.1), (s.0, right (left (sym c.term_kind.ensures ∙ ap term_kind_number c.in-Inr.is, refl))))

pub eval-pair-requires : goal.eval-pair-requires
eval-pair-requires t c =
    let s = entered c.requires c.fuel.ensures c.if-fuel-eq0.false c.if-room-eq0.false c.spend.ensures in
    (omega (arith, c.decreases, s.1), (s.0, sym c.term_kind.ensures ∙ ap term_kind_number c.in-Pair.is))

pub eval-let_one-requires : goal.eval-let_one-requires
eval-let_one-requires t c =
    let s = entered c.requires c.fuel.ensures c.if-fuel-eq0.false c.if-room-eq0.false c.spend.ensures in
    (omega (arith, c.decreases, s.1), (s.0, sym c.term_kind.ensures ∙ ap term_kind_number c.in-Let.is))

pub eval-let_two-requires : goal.eval-let_two-requires
eval-let_two-requires t c =
    let s = entered c.requires c.fuel.ensures c.if-fuel-eq0.false c.if-room-eq0.false c.spend.ensures in
    (omega (arith, c.decreases, s.1), (s.0, sym c.term_kind.ensures ∙ ap term_kind_number c.in-LetPair.is))

pub eval-choose-requires : goal.eval-choose-requires
eval-choose-requires t c =
    let s = entered c.requires c.fuel.ensures c.if-fuel-eq0.false c.if-room-eq0.false c.spend.ensures in
    (omega (arith, c.decreases, s.1), (s.0, sym c.term_kind.ensures ∙ ap term_kind_number c.in-Case.is))

pub eval-call-requires : goal.eval-call-requires
eval-call-requires t c =
    let s = entered c.requires c.fuel.ensures c.if-fuel-eq0.false c.if-room-eq0.false c.spend.ensures in
    (omega (arith, c.decreases, s.1), (s.0, sym c.term_kind.ensures ∙ ap term_kind_number c.in-Call.is))

pub eval-wrap-requires-in-Roll : goal.eval-wrap-requires-in-Roll
eval-wrap-requires-in-Roll t c =
    let s = entered c.requires c.fuel.ensures c.if-fuel-eq0.false c.if-room-eq0.false c.spend.ensures in
    (omega (arith, c.decreases, s.1), (s.0, right (right (sym c.term_kind.ensures ∙ ap term_kind_number c.in-Roll.is, refl))))

pub eval-unroll-requires : goal.eval-unroll-requires
eval-unroll-requires t c =
    let s = entered c.requires c.fuel.ensures c.if-fuel-eq0.false c.if-room-eq0.false c.spend.ensures in
    (omega (arith, c.decreases, s.1), (s.0, sym c.term_kind.ensures ∙ ap term_kind_number c.in-Unroll.is))

pub eval-returns-in-Variable : goal.eval-returns-in-Variable
eval-returns-in-Variable t c =
    entered_done c.requires c.fuel.ensures c.if-fuel-eq0.false c.if-room-eq0.false c.spend.ensures (variable-step (entered c.requires c.fuel.ensures c.if-fuel-eq0.false c.if-room-eq0.false c.spend.ensures).0
    (sym c.term_kind.ensures ∙ ap term_kind_number c.in-Variable.is) c.first_of.ensures c.variable.ensures)

pub eval-shape_of-ws-in-Unit : goal.eval-shape_of-ws-in-Unit
eval-shape_of-ws-in-Unit t c =
    c.make_unit.auto.ws

pub eval-returns-in-Unit : goal.eval-returns-in-Unit
eval-returns-in-Unit t c =
    entered_done c.requires c.fuel.ensures c.if-fuel-eq0.false c.if-room-eq0.false c.spend.ensures (unit-step (entered c.requires c.fuel.ensures c.if-fuel-eq0.false c.if-room-eq0.false c.spend.ensures).0
    (sym c.term_kind.ensures ∙ ap term_kind_number c.in-Unit.is) c.make_unit.ensures)

pub eval-shape_of-ws-in-Inl : goal.eval-shape_of-ws-in-Inl
eval-shape_of-ws-in-Inl t c =
    c.wrap.auto.ws

pub eval-returns-in-Inl : goal.eval-returns-in-Inl
eval-returns-in-Inl t c =
    entered_done c.requires c.fuel.ensures c.if-fuel-eq0.false c.if-room-eq0.false c.spend.ensures c.wrap.ensures

pub eval-shape_of-ws-in-Inr : goal.eval-shape_of-ws-in-Inr
eval-shape_of-ws-in-Inr t c =
    c.wrap-in-Inr.auto.ws

pub eval-returns-in-Inr : goal.eval-returns-in-Inr
eval-returns-in-Inr t c =
    entered_done c.requires c.fuel.ensures c.if-fuel-eq0.false c.if-room-eq0.false c.spend.ensures c.wrap-in-Inr.ensures

pub eval-shape_of-ws-in-Pair : goal.eval-shape_of-ws-in-Pair
eval-shape_of-ws-in-Pair t c =
    c.pair.auto.ws

pub eval-returns-in-Pair : goal.eval-returns-in-Pair
eval-returns-in-Pair t c =
    entered_done c.requires c.fuel.ensures c.if-fuel-eq0.false c.if-room-eq0.false c.spend.ensures c.pair.ensures

pub eval-shape_of-ws-in-Let : goal.eval-shape_of-ws-in-Let
eval-shape_of-ws-in-Let t c =
    c.let_one.auto.ws

pub eval-returns-in-Let : goal.eval-returns-in-Let
eval-returns-in-Let t c =
    entered_done c.requires c.fuel.ensures c.if-fuel-eq0.false c.if-room-eq0.false c.spend.ensures c.let_one.ensures

pub eval-shape_of-ws-in-LetPair : goal.eval-shape_of-ws-in-LetPair
eval-shape_of-ws-in-LetPair t c =
    c.let_two.auto.ws

pub eval-returns-in-LetPair : goal.eval-returns-in-LetPair
eval-returns-in-LetPair t c =
    entered_done c.requires c.fuel.ensures c.if-fuel-eq0.false c.if-room-eq0.false c.spend.ensures c.let_two.ensures

pub eval-shape_of-ws-in-Case : goal.eval-shape_of-ws-in-Case
eval-shape_of-ws-in-Case t c =
    c.choose.auto.ws

pub eval-returns-in-Case : goal.eval-returns-in-Case
eval-returns-in-Case t c =
    entered_done c.requires c.fuel.ensures c.if-fuel-eq0.false c.if-room-eq0.false c.spend.ensures c.choose.ensures

pub eval-shape_of-ws-in-Call : goal.eval-shape_of-ws-in-Call
eval-shape_of-ws-in-Call t c =
    c.call.auto.ws

pub eval-returns-in-Call : goal.eval-returns-in-Call
eval-returns-in-Call t c =
    entered_done c.requires c.fuel.ensures c.if-fuel-eq0.false c.if-room-eq0.false c.spend.ensures c.call.ensures

pub eval-shape_of-ws-in-Roll : goal.eval-shape_of-ws-in-Roll
eval-shape_of-ws-in-Roll t c =
    c.wrap-in-Roll.auto.ws

pub eval-returns-in-Roll : goal.eval-returns-in-Roll
eval-returns-in-Roll t c =
    entered_done c.requires c.fuel.ensures c.if-fuel-eq0.false c.if-room-eq0.false c.spend.ensures c.wrap-in-Roll.ensures

pub eval-shape_of-ws-in-Unroll : goal.eval-shape_of-ws-in-Unroll
eval-shape_of-ws-in-Unroll t c =
    c.unroll.auto.ws

pub eval-returns-in-Unroll : goal.eval-returns-in-Unroll
eval-returns-in-Unroll t c =
    entered_done c.requires c.fuel.ensures c.if-fuel-eq0.false c.if-room-eq0.false c.spend.ensures c.unroll.ensures

pub let_one-first_of-bound-requires : goal.let_one-first_of-bound-requires
let_one-first_of-bound-requires t c =
    row_read c.requires.ready_in.ready

pub let_one-overflow_sub-room : goal.let_one-overflow_sub-room
let_one-overflow_sub-room t c =
    omega (arith, c.requires.ready_in.ready.tall)

pub let_one-eval-r-requires : goal.let_one-eval-r-requires
let_one-eval-r-requires t c =
    (omega (arith, c.decreases), as_ready c.requires.ready_in (let_first c.requires.ready_in.ready c.requires.t_value _ c.first_of-bound.ensures))

pub let_one-shape_of-ws-then-r-ge-STOPPED : goal.let_one-shape_of-ws-then-r-ge-STOPPED
let_one-shape_of-ws-then-r-ge-STOPPED t c =
    c.eval-r.auto.ws

pub let_one-returns-then-r-ge-STOPPED : goal.let_one-returns-then-r-ge-STOPPED
let_one-returns-then-r-ge-STOPPED t c =
    record {
      lengths = c.eval-r.ensures.lengths;
      ran = let_refused c.requires.ready_in.ready c.requires.t_value _ _ c.first_of-bound.ensures refl c.eval-r.ensures.ran
          (is_refused c.if-r-ge-STOPPED.true);
    }

pub let_one-second_of-body-requires : goal.let_one-second_of-body-requires
let_one-second_of-body-requires t c =
    row_read c.requires.ready_in.ready

pub let_one-overflow_sub-room-2 : goal.let_one-overflow_sub-room-2
let_one-overflow_sub-room-2 t c =
    omega (arith, c.requires.ready_in.ready.tall)

pub let_one-under-requires : goal.let_one-under-requires
let_one-under-requires t c = (
  omega (arith, c.decreases, c.eval-r.ensures.ran.spends),
  (
    as_ready (later_in c.requires.ready_in c.eval-r.ensures)
        (let_second (later c.requires.ready_in.ready c.eval-r.ensures.ran) c.requires.t_value _ c.second_of-body.ensures),
    (c.eval-r.ensures.ran.node _ (is_value_lem c.if-r-ge-STOPPED.false)),
  ),
)

pub let_one-shape_of-ws : goal.let_one-shape_of-ws
let_one-shape_of-ws t c =
    c.under.auto.ws ∙ c.eval-r.auto.ws

pub let_one-returns : goal.let_one-returns
let_one-returns t c =
    record {
      lengths = c.under.ensures.lengths ∙ c.eval-r.ensures.lengths;
      ran = let_done c.requires.ready_in.ready
          c.requires.t_value _ _ c.first_of-bound.ensures c.second_of-body.ensures c.eval-r.ensures.ran
          (is_value_lem c.if-r-ge-STOPPED.false) c.under.ensures.ran;
    }

pub let_two-first_of-bound-requires : goal.let_two-first_of-bound-requires
let_two-first_of-bound-requires t c =
    row_read c.requires.ready_in.ready

pub let_two-overflow_sub-below : goal.let_two-overflow_sub-below
let_two-overflow_sub-below t c =
    omega (arith, c.requires.ready_in.ready.tall)

pub let_two-eval-r-requires : goal.let_two-eval-r-requires
let_two-eval-r-requires t c =
    (omega (arith, c.decreases), as_ready c.requires.ready_in (letp_first c.requires.ready_in.ready c.requires.t_value _ c.first_of-bound.ensures))

pub let_two-shape_of-ws-then-r-ge-STOPPED : goal.let_two-shape_of-ws-then-r-ge-STOPPED
let_two-shape_of-ws-then-r-ge-STOPPED t c =
    c.eval-r.auto.ws

pub let_two-returns-then-r-ge-STOPPED : goal.let_two-returns-then-r-ge-STOPPED
let_two-returns-then-r-ge-STOPPED t c =
    record {
      lengths = c.eval-r.ensures.lengths;
      ran = letp_refused c.requires.ready_in.ready c.requires.t_value _ _ c.first_of-bound.ensures refl c.eval-r.ensures.ran
          (is_refused c.if-r-ge-STOPPED.true);
    }

pub let_two-kind_of-requires : goal.let_two-kind_of-requires
let_two-kind_of-requires t c =
    node-there c.eval-r.ensures.ran.graph (c.eval-r.ensures.ran.node _ (is_value_lem c.if-r-ge-STOPPED.false))

pub let_two-shape_of-ws-then-ne : goal.let_two-shape_of-ws-then-ne
let_two-shape_of-ws-then-ne t c =
    c.eval-r.auto.ws

pub let_two-returns-then-ne : goal.let_two-returns-then-ne
let_two-returns-then-ne t c =
    record {
      lengths = c.eval-r.ensures.lengths;
      ran = letp_stuck c.requires.ready_in.ready c.requires.t_value _ _
          c.first_of-bound.ensures refl c.eval-r.ensures.ran (is_value_lem c.if-r-ge-STOPPED.false)
          (λ e. kind_differs c.kind_of.result Pair c.ne.ensures c.if-ne.true (value_kind c.eval-r.ensures (is_value_lem c.if-r-ge-STOPPED.false) c.kind_of.ensures ∙ e)) _ c.refuse.ensures.status refl;
    }

pub let_two-left_of-x-requires : goal.let_two-left_of-x-requires
let_two-left_of-x-requires t c =
    node-there c.eval-r.ensures.ran.graph (c.eval-r.ensures.ran.node _ (is_value_lem c.if-r-ge-STOPPED.false))

pub let_two-right_of-y-requires : goal.let_two-right_of-y-requires
let_two-right_of-y-requires t c =
    node-there c.eval-r.ensures.ran.graph (c.eval-r.ensures.ran.node _ (is_value_lem c.if-r-ge-STOPPED.false))

pub let_two-bind-requires : goal.let_two-bind-requires
let_two-bind-requires t c = (
  c.eval-r.ensures.lengths ∙ c.requires.ready_in.full,
  rw c.end_of.ensures
      (bind_room (letp_second (later c.requires.ready_in.ready c.eval-r.ensures.ran) c.requires.t_value _ refl)),
)

pub let_two-second_of-body-requires : goal.let_two-second_of-body-requires
let_two-second_of-body-requires t c =
    row_read c.requires.ready_in.ready

pub let_two-wider-requires : goal.let_two-wider-requires
unfolding max_height max_parameters
let_two-wider-requires t c = (
  omega (arith, c.requires.ready_in.ready.variables, c.requires.ready_in.ready.full),
  omega
      (arith, c.requires.ready_in.ready.variables, c.requires.ready_in.ready.full),
)

pub let_two-under-requires : goal.let_two-under-requires
let_two-under-requires t c = (
  omega (arith, c.decreases, c.eval-r.ensures.ran.spends, ap (λ (m : Machine). m.fuel) c.bind.ensures.machine),
  (
    under-ready _ (as_ready (later_in c.requires.ready_in c.eval-r.ensures)
        (letp_second (later c.requires.ready_in.ready c.eval-r.ensures.ran) c.requires.t_value _ c.second_of-body.ensures))
        (lower-part c.left_of-x.ensures (value-pair _ _ c.eval-r.ensures.ran.graph.right _
        (c.eval-r.ensures.ran.node _ (is_value_lem c.if-r-ge-STOPPED.false)) (sym (value_kind c.eval-r.ensures (is_value_lem c.if-r-ge-STOPPED.false) c.kind_of.ensures) ∙ kind_same c.kind_of.result Pair c.ne.ensures c.if-ne.false)).1
        (c.eval-r.ensures.ran.node _ (is_value_lem c.if-r-ge-STOPPED.false))) c.bind.ensures c.end_of.ensures
        c.wider.ensures,
    rw (ap (λ (m : Machine). m.top) c.bind.ensures.machine)
        (lower-part c.right_of-y.ensures (value-pair _ _ c.eval-r.ensures.ran.graph.right _
        (c.eval-r.ensures.ran.node _ (is_value_lem c.if-r-ge-STOPPED.false)) (sym (value_kind c.eval-r.ensures (is_value_lem c.if-r-ge-STOPPED.false) c.kind_of.ensures) ∙ kind_same c.kind_of.result Pair c.ne.ensures c.if-ne.false)).2
        (c.eval-r.ensures.ran.node _ (is_value_lem c.if-r-ge-STOPPED.false))),
  ),
)

pub let_two-shape_of-ws : goal.let_two-shape_of-ws
let_two-shape_of-ws t c =
    c.under.auto.ws ∙ c.eval-r.auto.ws

pub let_two-returns : goal.let_two-returns
let_two-returns t c =
    record {
      lengths = c.under.ensures.lengths ∙ c.bind.ensures.lengths ∙ c.eval-r.ensures.lengths;
      ran = letp_done
          c.requires.ready_in.ready c.requires.t_value _ _ c.first_of-bound.ensures c.second_of-body.ensures
          c.eval-r.ensures.ran (is_value_lem c.if-r-ge-STOPPED.false) (sym (value_kind c.eval-r.ensures (is_value_lem c.if-r-ge-STOPPED.false) c.kind_of.ensures) ∙ kind_same c.kind_of.result Pair c.ne.ensures c.if-ne.false) _ _
          c.left_of-x.ensures c.right_of-y.ensures
          (twice_done _ (as_ready (later_in c.requires.ready_in c.eval-r.ensures)
          (letp_second (later c.requires.ready_in.ready c.eval-r.ensures.ran) c.requires.t_value _ c.second_of-body.ensures))
          (lower-part c.left_of-x.ensures (value-pair _ _ c.eval-r.ensures.ran.graph.right _
          (c.eval-r.ensures.ran.node _ (is_value_lem c.if-r-ge-STOPPED.false)) (sym (value_kind c.eval-r.ensures (is_value_lem c.if-r-ge-STOPPED.false) c.kind_of.ensures) ∙ kind_same c.kind_of.result Pair c.ne.ensures c.if-ne.false)).1
          (c.eval-r.ensures.ran.node _ (is_value_lem c.if-r-ge-STOPPED.false))) c.bind.ensures c.end_of.ensures
          c.wider.ensures c.under.ensures);
    }

pub pair-first_of-left-requires : goal.pair-first_of-left-requires
pair-first_of-left-requires t c =
    row_read c.requires.ready_in.ready

pub pair-overflow_sub-room : goal.pair-overflow_sub-room
pair-overflow_sub-room t c =
    omega (arith, c.requires.ready_in.ready.tall)

pub pair-eval-r-requires : goal.pair-eval-r-requires
pair-eval-r-requires t c =
    (omega (arith, c.decreases), as_ready c.requires.ready_in (pair-first c.requires.ready_in.ready c.requires.t_value _ c.first_of-left.ensures))

pub pair-shape_of-ws-then-r-ge-STOPPED : goal.pair-shape_of-ws-then-r-ge-STOPPED
pair-shape_of-ws-then-r-ge-STOPPED t c =
    c.eval-r.auto.ws

pub pair-returns-then-r-ge-STOPPED : goal.pair-returns-then-r-ge-STOPPED
pair-returns-then-r-ge-STOPPED t c =
    record {
      lengths = c.eval-r.ensures.lengths;
      ran = pair-refused c.requires.ready_in.ready c.requires.t_value _ _ c.first_of-left.ensures refl c.eval-r.ensures.ran
          (is_refused c.if-r-ge-STOPPED.true);
    }

pub pair-second_of-right-requires : goal.pair-second_of-right-requires
pair-second_of-right-requires t c =
    row_read c.requires.ready_in.ready

pub pair-overflow_sub-room-2 : goal.pair-overflow_sub-room-2
pair-overflow_sub-room-2 t c =
    omega (arith, c.requires.ready_in.ready.tall)

pub pair-eval-r2-requires : goal.pair-eval-r2-requires
pair-eval-r2-requires t c = (
  omega (arith, c.decreases, c.eval-r.ensures.ran.spends),
  as_ready (later_in c.requires.ready_in c.eval-r.ensures)
      (pair-second (later c.requires.ready_in.ready c.eval-r.ensures.ran) c.requires.t_value _ c.second_of-right.ensures),
)

pub pair-shape_of-ws-then-r2-ge-STOPPED : goal.pair-shape_of-ws-then-r2-ge-STOPPED
pair-shape_of-ws-then-r2-ge-STOPPED t c =
    c.eval-r2.auto.ws ∙ c.eval-r.auto.ws

pub pair-returns-then-r2-ge-STOPPED : goal.pair-returns-then-r2-ge-STOPPED
pair-returns-then-r2-ge-STOPPED t c =
    record {
      lengths = c.eval-r2.ensures.lengths ∙ c.eval-r.ensures.lengths;
      ran = pair-refused_2 c.requires.ready_in.ready
          c.requires.t_value _ _ c.first_of-left.ensures c.second_of-right.ensures c.eval-r.ensures.ran
          (is_value_lem c.if-r-ge-STOPPED.false) c.eval-r2.ensures.ran (is_refused c.if-r2-ge-STOPPED.true);
    }

pub pair-make_pair-requires-clause-make_ready : goal.pair-make_pair-requires-clause-make_ready
pair-make_pair-requires-clause-make_ready t c =
    make_ready (later_in (later_in c.requires.ready_in c.eval-r.ensures) c.eval-r2.ensures)

pub pair-make_pair-requires-clause-left_bound : goal.pair-make_pair-requires-clause-left_bound
pair-make_pair-requires-clause-left_bound t c = (
  lt_le (c.eval-r.ensures.ran.node _ (is_value_lem c.if-r-ge-STOPPED.false)) c.eval-r2.ensures.ran.grows,
  c.eval-r2.ensures.ran.node _
      (is_value_lem c.if-r2-ge-STOPPED.false),
)

pub pair-shape_of-ws : goal.pair-shape_of-ws
pair-shape_of-ws t c =
    c.make_pair.auto.ws ∙ c.eval-r2.auto.ws ∙ c.eval-r.auto.ws

pub pair-returns : goal.pair-returns
pair-returns t c =
    record {
      lengths = c.make_pair.ensures.lengths ∙ c.eval-r2.ensures.lengths ∙
          c.eval-r.ensures.lengths;
      ran = with_slots (pair_done c.requires.ready_in.ready c.requires.t_value _ _ c.first_of-left.ensures
          c.second_of-right.ensures c.eval-r.ensures.ran (is_value_lem c.if-r-ge-STOPPED.false) c.eval-r2.ensures.ran
          (is_value_lem c.if-r2-ge-STOPPED.false) c.make_pair.ensures.makes) c.make_pair.ensures.slots;
    }

pub place-argument_of-argument-requires : goal.place-argument_of-argument-requires
place-argument_of-argument-requires t c =
    argument-read c.requires.ready_in.ready c.requires.calls

pub place-overflow_sub-room : goal.place-overflow_sub-room
place-overflow_sub-room t c =
    omega (arith, c.requires.ready_in.ready.tall)

pub place-eval-r-requires : goal.place-eval-r-requires
place-eval-r-requires t c = (
  omega (arith, c.decreases, few-count c.requires.ready_in.ready c.requires.calls, c.requires.calls.next),
  as_ready c.requires.ready_in
      (place-ready c.requires.ready_in.ready c.requires.calls _ c.argument_of-argument.ensures),
)

pub place-shape_of-ws-then-r-ge-STOPPED : goal.place-shape_of-ws-then-r-ge-STOPPED
place-shape_of-ws-then-r-ge-STOPPED t c =
    c.eval-r.auto.ws

pub place-returns-then-r-ge-STOPPED : goal.place-returns-then-r-ge-STOPPED
place-returns-then-r-ge-STOPPED t c =
    record {
      lengths = c.eval-r.ensures.lengths;
      places = place-refused c.requires.ready_in.ready c.requires.calls _ c.argument_of-argument.ensures c.eval-r.ensures.ran
          (is_refused c.if-r-ge-STOPPED.true);
    }

pub place-overflow_add-at : goal.place-overflow_add-at
unfolding max_height max_parameters
place-overflow_add-at t c =
    omega (arith, place-room c.requires.ready_in.ready c.requires.calls)

pub place-bind-requires : goal.place-bind-requires
place-bind-requires t c = (
  c.eval-r.ensures.lengths ∙ c.requires.ready_in.full,
  omega
      (arith, place-room c.requires.ready_in.ready c.requires.calls),
)

pub place-shape_of-ws-then-k-end : goal.place-shape_of-ws-then-k-end
place-shape_of-ws-then-k-end t c =
    c.eval-r.auto.ws

pub place-returns-then-k-end : goal.place-returns-then-k-end
place-returns-then-k-end t c =
    record {
      lengths = c.bind.ensures.lengths ∙ c.eval-r.ensures.lengths;
      places = placed-out c.eval-r.result c.bind.ensures
          (place-last c.requires.ready_in.ready c.requires.calls _ c.argument_of-argument.ensures c.eval-r.ensures.ran
          (is_value_lem c.if-r-ge-STOPPED.false) c.if-k-end.true _
          (placed_at c.args.scope c.args.k c.bind.ensures c.end_of.ensures refl));
    }

pub place-overflow_add-next : goal.place-overflow_add-next
place-overflow_add-next t c =
    omega (arith, place-less c.requires.ready_in.ready c.requires.calls c.if-k-end.false)

pub place-place-others-requires : goal.place-place-others-requires
place-place-others-requires t c = (
  omega (arith, c.decreases, few-count c.requires.ready_in.ready c.requires.calls, c.requires.calls.next, c.eval-r.ensures.ran.spends),
  (later_in c.requires.ready_in c.eval-r.ensures, place-next c.requires.ready_in.ready c.requires.calls c.if-k-end.false),
)

pub place-bind-requires-2 : goal.place-bind-requires-2
place-bind-requires-2 t c = (
  c.place-others.ensures.lengths ∙ c.eval-r.ensures.lengths ∙ c.requires.ready_in.full,
  omega
      (arith, place-room c.requires.ready_in.ready c.requires.calls),
)

pub place-shape_of-ws : goal.place-shape_of-ws
place-shape_of-ws t c =
    c.place-others.auto.ws ∙ c.eval-r.auto.ws

pub place-returns : goal.place-returns
place-returns t c =
    record {
      lengths = c.bind-2.ensures.lengths ∙ c.place-others.ensures.lengths ∙ c.eval-r.ensures.lengths;
      places = placed-out
          c.place-others.result c.bind-2.ensures (place-more c.requires.ready_in.ready c.requires.calls _ c.argument_of-argument.ensures
          c.eval-r.ensures.ran (is_value_lem c.if-r-ge-STOPPED.false) (place-less c.requires.ready_in.ready c.requires.calls c.if-k-end.false)
          c.place-others.ensures.places _ (placed_at c.args.scope c.args.k c.bind-2.ensures c.end_of.ensures refl));
    }

pub under-bind-requires : goal.under-bind-requires
under-bind-requires t c =
    (c.requires.ready_in.full, rw c.end_of.ensures (bind_room c.requires.ready_in.ready))

pub under-wider-requires : goal.under-wider-requires
unfolding max_height max_parameters
under-wider-requires t c = (
  omega (arith, c.requires.ready_in.ready.variables, c.requires.ready_in.ready.full),
  omega
      (arith, c.requires.ready_in.ready.variables, c.requires.ready_in.ready.full),
)

pub under-eval-requires : goal.under-eval-requires
under-eval-requires t c = (
  omega (arith, c.decreases, ap (λ (m : Machine). m.fuel) c.bind.ensures.machine),
  under-ready _ c.requires.ready_in c.requires.node_bound
      c.bind.ensures c.end_of.ensures c.wider.ensures,
)

pub under-shape_of-ws : goal.under-shape_of-ws
under-shape_of-ws t c =
    c.eval.auto.ws

pub under-returns : goal.under-returns
under-returns t c =
    under_done _ c.requires.ready_in c.requires.node_bound c.bind.ensures c.end_of.ensures c.wider.ensures c.eval.ensures

pub unroll-second_of-part-requires : goal.unroll-second_of-part-requires
unroll-second_of-part-requires t c =
    row_read c.requires.ready_in.ready

pub unroll-overflow_sub-room : goal.unroll-overflow_sub-room
unroll-overflow_sub-room t c =
    omega (arith, c.requires.ready_in.ready.tall)

pub unroll-eval-r-requires : goal.unroll-eval-r-requires
unroll-eval-r-requires t c =
    (omega (arith, c.decreases), as_ready c.requires.ready_in (unroll_ready c.requires.ready_in.ready c.requires.t_value _ c.second_of-part.ensures))

pub unroll-shape_of-ws-then-r-ge-STOPPED : goal.unroll-shape_of-ws-then-r-ge-STOPPED
unroll-shape_of-ws-then-r-ge-STOPPED t c =
    c.eval-r.auto.ws

pub unroll-returns-then-r-ge-STOPPED : goal.unroll-returns-then-r-ge-STOPPED
unroll-returns-then-r-ge-STOPPED t c =
    record {
      lengths = c.eval-r.ensures.lengths;
      ran = unroll_refused c.requires.ready_in.ready c.requires.t_value _ c.second_of-part.ensures c.eval-r.ensures.ran
          (is_refused c.if-r-ge-STOPPED.true);
    }

pub unroll-unrolled-requires : goal.unroll-unrolled-requires
unroll-unrolled-requires t c =
    node-there c.eval-r.ensures.ran.graph (c.eval-r.ensures.ran.node _ (is_value_lem c.if-r-ge-STOPPED.false))

pub unroll-shape_of-ws : goal.unroll-shape_of-ws
unroll-shape_of-ws t c =
    c.eval-r.auto.ws

pub unroll-returns : goal.unroll-returns
unroll-returns t c =
    record {
      lengths = c.eval-r.ensures.lengths;
      ran = unroll_done c.requires.ready_in.ready c.requires.t_value _
          c.second_of-part.ensures c.eval-r.ensures.ran (is_value_lem c.if-r-ge-STOPPED.false)
          (c.unrolled.ensures.is _ c.eval-r.ensures.ran.graph (c.eval-r.ensures.ran.node _ (is_value_lem c.if-r-ge-STOPPED.false))
          (omega (arith, c.requires.ready_in.ready.small, c.eval-r.ensures.ran.owes)));
    }

pub wrap-second_of-part-requires : goal.wrap-second_of-part-requires
wrap-second_of-part-requires t c =
    row_read c.requires.ready_in.ready

pub wrap-overflow_sub-room : goal.wrap-overflow_sub-room
wrap-overflow_sub-room t c =
    omega (arith, c.requires.ready_in.ready.tall)

pub wrap-eval-r-requires : goal.wrap-eval-r-requires
wrap-eval-r-requires t c =
    (omega (arith, c.decreases), as_ready c.requires.ready_in (wrap_ready c.requires.ready_in.ready _ c.requires.wraps _ c.second_of-part.ensures))

pub wrap-shape_of-ws-then-r-ge-STOPPED : goal.wrap-shape_of-ws-then-r-ge-STOPPED
wrap-shape_of-ws-then-r-ge-STOPPED t c =
    c.eval-r.auto.ws

pub wrap-returns-then-r-ge-STOPPED : goal.wrap-returns-then-r-ge-STOPPED
wrap-returns-then-r-ge-STOPPED t c =
    record {
      lengths = c.eval-r.ensures.lengths;
      ran = wrap_refused c.requires.ready_in.ready _ c.requires.wraps _ c.second_of-part.ensures c.eval-r.ensures.ran
          (is_refused c.if-r-ge-STOPPED.true);
    }

pub wrap-make_single-requires-clause-make_ready : goal.wrap-make_single-requires-clause-make_ready
wrap-make_single-requires-clause-make_ready t c =
    make_ready (later_in c.requires.ready_in c.eval-r.ensures)

pub wrap-make_single-requires-clause-part_bound : goal.wrap-make_single-requires-clause-part_bound
wrap-make_single-requires-clause-part_bound t c =
    ((c.eval-r.ensures.ran.node _ (is_value_lem c.if-r-ge-STOPPED.false)), wrap_single c.requires.ready_in.ready _ c.requires.wraps)

pub wrap-shape_of-ws : goal.wrap-shape_of-ws
wrap-shape_of-ws t c =
    c.make_single.auto.ws ∙ c.eval-r.auto.ws

pub wrap-returns : goal.wrap-returns
wrap-returns t c =
    record {
      lengths = c.make_single.ensures.lengths ∙ c.eval-r.ensures.lengths;
      ran = with_slots (wrap_done c.requires.ready_in.ready _ c.requires.wraps _ c.second_of-part.ensures c.eval-r.ensures.ran
          (is_value_lem c.if-r-ge-STOPPED.false) c.make_single.ensures.makes) c.make_single.ensures.slots;
    }
