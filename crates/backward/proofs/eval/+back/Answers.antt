use Rattle.backward.proofs as own
use own.LastPart.{err_of, going_start, going-spent, going_high, going_entered, going-node, going_less, going-over, going_falls, going_on, unpacked_run, leads-over, leads-stopped, leads-on, leads-through, leaf-leads}
use native.Mathlib.Omega.{arith}
use Rattle.program.specs.KindNumbers.{term_kind_number}
use mathlib.Core.Path.{refl, ◌∙◌, ap, ◌≡◌, sym}
use native.Mathlib.Nat.{pos_of_ne-zero}
use Rattle.scopes.specs.Slots.{Machine}
use own.Bound.{entered_cell, entered_there, entered_prepared, entered_node, entered_stopped, entered_leaves, entered_left}
use Rattle.forward.proofs.Bounds.{argument-read, body-read}
use Rattle.forward.proofs.Placing.{all_to_place}
use own.Frames.{row-there, few-ancillae, view_yields}
use own.Gathering.{scope-ready}
use own.Calling.{all-arguments}
use own.Called.{called-refused, called-space, called_widens, called-widened, called-ran, called_stops, called-leaves, called-dynamic, called_input, called_done}
use own.Scoping.{case_that, let_widens, let_widened, let_ran, let_stopped, let_leaves, let_cell, let_outer, let_node, let_gone, letp_ready, letp_widens, letp_widened, letp_ran, letp_stopped, letp_leaves, letp_leaves_first, letp_cell, letp_outer, letp_both, letp_gone, case_asked, case_widens, case_widened, case_ran, case_stopped, case_leaves, case_cell, case_outer, case_node, case_gone}
use Rattle.valuegraph.specs.Nodes.{kind_at as nodeKind, kind_number, kind_named}
use Rattle.valuegraph.specs.declared.kinds.Kind.TheVariants.{Pair}
use Rattle.forward.proofs.Lending.{value_kind}
use Rattle.yields.proofs.Read.{kind_same, kind_differs}
use Rattle.std.specs.Prelude.{Ok, Err}
use Rattle.backward.specs.declared.outcomes.Refusal.TheVariants.{Stuck}
use own.Chosen.{chosen-sum, chosen-few, chosen-stopped, chosen-stuck, chosen-room, chosen-node, left-part, left-prepared, left-gone, right-part, right-prepared, right-gone}
use own.Leaving.{left_behind}
use own.Opening.{marked}
use own.Matched.{side-single}
use own.Steps.{node-there}
use own.Stepping.{node_kind, paired-stuck, paired-nodes, paired-first, paired-stopped, paired-second, paired-node, paired-gone}
use mathlib.Core.Logic.{inl as left, inr as right}
use own.Arriving.{variable_meetable, variable-step, unit-step}
use Rattle.backward.proofs.eval.+back.Goals as goal

-- The functions of backward evaluation meet their contracts. (One file, however long: the check reads the answers of a cycle of calls from it alone.)

pub back-loop-known-init : goal.back-loop-known-init
back-loop-known-init t c =
    going_start c.requires.prepared_in c.requires.node_bound

pub back-shape_of-ws-then-height-eq0 : goal.back-shape_of-ws-then-height-eq0
back-shape_of-ws-then-height-eq0 t c =
    c.loop-known.invariant.workspace

pub back-returns-then-height-eq0 : goal.back-returns-then-height-eq0
back-returns-then-height-eq0 t c =
    going_high c.loop-known.invariant c.requires.prepared_in c.fuel.ensures c.loop-known-test.true c.if-height-eq0.true c.packed.ensures

pub back-spend-requires : goal.back-spend-requires
back-spend-requires t c =
    (c.loop-known.invariant.lengths ∙ c.requires.prepared_in.full, pos_of_ne-zero (λ e. c.loop-known-test.true (c.fuel.ensures ∙ e)))

pub back-step-requires : goal.back-step-requires
back-step-requires t c = (
  omega (
    arith,
    c.decreases,
    going_less c.loop-known.invariant c.fuel.ensures c.loop-known-test.true c.if-height-eq0.false
        c.spend.ensures,
  ),
  (
    going_entered c.loop-known.invariant c.fuel.ensures c.loop-known-test.true c.if-height-eq0.false
        c.spend.ensures,
    going-node c.loop-known.invariant c.fuel.ensures c.loop-known-test.true c.if-height-eq0.false
        c.spend.ensures,
  ),
)

pub back-shape_of-ws-in-Err : goal.back-shape_of-ws-in-Err
back-shape_of-ws-in-Err t c =
    c.step.auto.ws ∙ c.loop-known.invariant.workspace

pub back-returns-in-Err : goal.back-returns-in-Err
back-returns-in-Err t c =
    going-over c.loop-known.invariant c.fuel.ensures c.loop-known-test.true c.if-height-eq0.false c.spend.ensures c.step.ensures
    c.requires.prepared_in (Err c.in-Err.why) c.in-Err.is c.packed-in-Err.ensures

pub back-shape_of-ws-in-Ok-Over : goal.back-shape_of-ws-in-Ok-Over
back-shape_of-ws-in-Ok-Over t c =
    c.step.auto.ws ∙ c.loop-known.invariant.workspace

pub back-returns-in-Ok-Over : goal.back-returns-in-Ok-Over
back-returns-in-Ok-Over t c =
    going-over c.loop-known.invariant c.fuel.ensures c.loop-known-test.true c.if-height-eq0.false c.spend.ensures c.step.ensures
    c.requires.prepared_in (Ok c.in-Ok-Over.state) (c.in-Ok-Over.is ∙ ap Ok c.in-Ok-Over.field-0-is) c.packed-in-Ok-Over.ensures

pub back-overflow_sub-height : goal.back-overflow_sub-height
back-overflow_sub-height t c =
    omega (arith, c.if-height-eq0.false)

pub back-loop-known-smaller : goal.back-loop-known-smaller
back-loop-known-smaller t c =
    going_falls c.loop-known.invariant c.fuel.ensures c.loop-known-test.true c.if-height-eq0.false c.spend.ensures
    c.step.ensures (c.in-Ok-On.is ∙ ap Ok c.in-Ok-On.field-0-is)

pub back-loop-known-preserved : goal.back-loop-known-preserved
back-loop-known-preserved t c =
    going_on c.loop-known.invariant c.fuel.ensures c.loop-known-test.true c.if-height-eq0.false c.spend.ensures c.step.ensures
    (c.in-Ok-On.is ∙ ap Ok c.in-Ok-On.field-0-is) c.step.auto.ws

pub back-shape_of-ws : goal.back-shape_of-ws
back-shape_of-ws t c =
    c.loop-known.invariant.workspace

pub back-returns : goal.back-returns
back-returns t c =
    going-spent c.loop-known.invariant c.requires.prepared_in c.fuel.ensures c.loop-known-test.false c.packed-2.ensures

pub branch-entered-known-requires-clause-cell_ready : goal.branch-entered-known-requires-clause-cell_ready
branch-entered-known-requires-clause-cell_ready t c =
    entered_cell c.requires.prepared_bound

pub branch-entered-known-requires-clause-scope_bound : goal.branch-entered-known-requires-clause-scope_bound
branch-entered-known-requires-clause-scope_bound t c =
    entered_there c.requires.prepared_bound

pub branch-wider-wide-requires : goal.branch-wider-wide-requires
branch-wider-wide-requires t c =
    (omega (arith, entered_there c.requires.prepared_bound), omega (arith, c.requires.prepared_bound.few))

pub branch-back-requires : goal.branch-back-requires
branch-back-requires t c = (
  omega (arith, c.decreases, ap (λ (m : Machine). m.fuel) c.entered-known.ensures.machine),
  (
    entered_prepared c.requires.prepared_bound c.requires.part_bound.0 c.entered-known.ensures c.wider-wide.result c.wider-wide.ensures,
    entered_node c.requires.prepared_bound c.requires.part_bound.0 c.entered-known.ensures c.requires.part_bound.1,
  ),
)

pub branch-shape_of-ws-in_err-inner : goal.branch-shape_of-ws-in_err-inner
branch-shape_of-ws-in_err-inner t c =
    c.back.auto.ws ∙ c.entered-known.auto.ws

pub branch-returns-in_err-inner : goal.branch-returns-in_err-inner
branch-returns-in_err-inner t c =
    rw ((err_of c.from_residual.result c.from_residual.ensures.1) ∙ sym c.in_err-inner.was) (entered_stopped c.requires.prepared_bound c.requires.part_bound.0 c.entered-known.ensures c.requires.part_bound.1
    c.wider-wide.result c.wider-wide.ensures
    (unpacked_run c.unpacked.ensures c.back.ensures) c.in_err-inner.was)

pub branch-outer-requires : goal.branch-outer-requires
branch-outer-requires t c =
    entered_leaves c.requires.prepared_bound c.requires.part_bound.0 c.entered-known.ensures c.requires.part_bound.1
    c.wider-wide.result c.wider-wide.ensures
    (unpacked_run c.unpacked.ensures c.back.ensures) c.in_ok-inner.was

pub branch-shape_of-ws : goal.branch-shape_of-ws
branch-shape_of-ws t c =
    c.outer.auto.ws ∙ c.back.auto.ws ∙ c.entered-known.auto.ws

pub branch-returns : goal.branch-returns
branch-returns t c =
    entered_left c.requires.prepared_bound c.requires.part_bound.0 c.entered-known.ensures c.requires.part_bound.1
    c.wider-wide.result c.wider-wide.ensures
    (unpacked_run c.unpacked.ensures c.back.ensures) c.in_ok-inner.was c.outer.ensures

pub call-third_of-requires : goal.call-third_of-requires
call-third_of-requires t c =
    row-there c.requires.prepared_in.prepared

pub call-gather-requires-clause-ready_in : goal.call-gather-requires-clause-ready_in
call-gather-requires-clause-ready_in t c =
    record { full = c.requires.prepared_in.full; ready = scope-ready c.requires.prepared_in.prepared }

pub call-gather-requires-clause-calls : goal.call-gather-requires-clause-calls
call-gather-requires-clause-calls t c =
    all_to_place c.requires.node_bound.1 (c.from-k.ensures ∙ c.third_of.ensures)

pub call-shape_of-ws-in_err-gather : goal.call-shape_of-ws-in_err-gather
call-shape_of-ws-in_err-gather t c =
    c.gather.auto.ws

pub call-returns-in_err-gather : goal.call-returns-in_err-gather
call-returns-in_err-gather t c =
    let calls = all_to_place c.requires.node_bound.1 (c.from-k.ensures ∙ c.third_of.ensures) in
    leads-over (Err _) (err_of c.from_residual.result c.from_residual.ensures.1) c.gather.ensures.lengths
    (called-refused c.requires.prepared_in.prepared c.requires.node_bound.0 calls c.gather.ensures.gathers c.in_err-gather.was)

pub call-first_of-requires : goal.call-first_of-requires
call-first_of-requires t c =
    row-there c.requires.prepared_in.prepared

pub call-body_of-body-requires : goal.call-body_of-body-requires
call-body_of-body-requires t c =
    body-read (scope-ready c.requires.prepared_in.prepared) _ c.requires.node_bound.1 c.first_of.ensures

pub call-scope-callee-requires : goal.call-scope-callee-requires
call-scope-callee-requires t c =
    let calls = all_to_place c.requires.node_bound.1 (c.from-k.ensures ∙ c.third_of.ensures) in
    let few = called-space c.requires.prepared_in.prepared c.requires.node_bound.0 calls c.gather.ensures.gathers c.in_ok-gather.was
    c.first_of.ensures c.body_of-body.ensures in
    (omega (arith, c.requires.prepared_in.prepared.space), omega arith, omega arith)

pub call-overflow_sub-h : goal.call-overflow_sub-h
call-overflow_sub-h t c =
    omega (arith, c.requires.prepared_in.prepared.ready.tall)

pub call-widen-wide-requires : goal.call-widen-wide-requires
call-widen-wide-requires t c =
    let calls = all_to_place c.requires.node_bound.1 (c.from-k.ensures ∙ c.third_of.ensures) in
    called_widens c.requires.prepared_in c.requires.node_bound.0 calls c.gather.ensures.gathers c.in_ok-gather.was
    c.first_of.ensures c.body_of-body.ensures c.end_of.ensures c.scope-callee.ensures c.gather.ensures.lengths
    c.none-args.ensures

pub call-back-requires : goal.call-back-requires
call-back-requires t c =
    let calls = all_to_place c.requires.node_bound.1 (c.from-k.ensures ∙ c.third_of.ensures) in (
      omega (arith, c.decreases, c.gather.ensures.gathers.moves.spends, ap (λ (m : Machine). m.fuel) c.widen-wide.ensures.machine),
      called-widened c.requires.prepared_in c.requires.node_bound.0 calls c.gather.ensures.gathers c.in_ok-gather.was
          c.first_of.ensures c.body_of-body.ensures c.end_of.ensures c.scope-callee.ensures c.gather.ensures.lengths
          c.none-args.ensures c.widen-wide.ensures,
    )

pub call-shape_of-ws-in_err-inner : goal.call-shape_of-ws-in_err-inner
call-shape_of-ws-in_err-inner t c =
    c.back.auto.ws ∙ c.gather.auto.ws

pub call-returns-in_err-inner : goal.call-returns-in_err-inner
call-returns-in_err-inner t c =
    let calls = all_to_place c.requires.node_bound.1 (c.from-k.ensures ∙ c.third_of.ensures) in
    let ran = called-ran c.requires.prepared_in c.requires.node_bound.0 calls c.gather.ensures.gathers c.in_ok-gather.was
    c.first_of.ensures c.body_of-body.ensures c.end_of.ensures c.scope-callee.ensures
    c.gather.ensures.lengths c.none-args.ensures c.widen-wide.ensures
    (unpacked_run c.unpacked.ensures c.back.ensures) in
    leads-stopped c.in_err-inner.was (err_of c.from_residual-in_err-inner.result c.from_residual-in_err-inner.ensures.1) (ran.lengths ∙ c.gather.ensures.lengths)
    (called_stops c.requires.prepared_in.prepared c.requires.node_bound.0 calls c.gather.ensures.gathers c.in_ok-gather.was
    c.first_of.ensures c.body_of-body.ensures c.end_of.ensures c.scope-callee.ensures ran.gone
    c.in_err-inner.was)

pub call-leave-x-requires : goal.call-leave-x-requires
call-leave-x-requires t c =
    let calls = all_to_place c.requires.node_bound.1 (c.from-k.ensures ∙ c.third_of.ensures) in
    let ran = called-ran c.requires.prepared_in c.requires.node_bound.0 calls c.gather.ensures.gathers c.in_ok-gather.was
    c.first_of.ensures c.body_of-body.ensures c.end_of.ensures c.scope-callee.ensures c.gather.ensures.lengths
    c.none-args.ensures c.widen-wide.ensures
    (unpacked_run c.unpacked.ensures c.back.ensures) in
    called-leaves c.requires.prepared_in.prepared c.requires.node_bound.0 calls c.gather.ensures.gathers c.in_ok-gather.was
    c.first_of.ensures c.body_of-body.ensures c.end_of.ensures c.scope-callee.ensures ran.gone c.in_ok-inner.was

pub call-argument_of-dynamic-requires : goal.call-argument_of-dynamic-requires
call-argument_of-dynamic-requires t c =
    let calls = all_to_place c.requires.node_bound.1 (c.from-k.ensures ∙ c.third_of.ensures) in
    argument-read (scope-ready c.requires.prepared_in.prepared) (all-arguments calls)

pub call-shape_of-ws : goal.call-shape_of-ws
call-shape_of-ws t c =
    c.back.auto.ws ∙ c.gather.auto.ws

pub call-returns : goal.call-returns
call-returns t c =
    let calls = all_to_place c.requires.node_bound.1 (c.from-k.ensures ∙ c.third_of.ensures) in
    let ran = called-ran c.requires.prepared_in c.requires.node_bound.0 calls c.gather.ensures.gathers c.in_ok-gather.was
    c.first_of.ensures c.body_of-body.ensures c.end_of.ensures c.scope-callee.ensures
    c.gather.ensures.lengths c.none-args.ensures c.widen-wide.ensures
    (unpacked_run c.unpacked.ensures c.back.ensures) in
    leads-on refl (ran.lengths ∙ c.gather.ensures.lengths)
    (record {
      prepared = record {
        full = ran.lengths ∙ c.gather.ensures.lengths ∙ c.requires.prepared_in.full;
        prepared = called-dynamic
            c.requires.prepared_in.prepared c.requires.node_bound.0 calls c.gather.ensures.gathers c.in_ok-gather.was
            c.first_of.ensures c.body_of-body.ensures c.end_of.ensures c.scope-callee.ensures ran.gone c.in_ok-inner.was
            c.argument_of-dynamic.ensures;
      };
      there = called_input c.requires.prepared_in.prepared c.requires.node_bound.0 calls
          c.gather.ensures.gathers c.in_ok-gather.was c.first_of.ensures c.body_of-body.ensures c.end_of.ensures
          c.scope-callee.ensures ran.gone c.in_ok-inner.was c.argument_of-dynamic.ensures c.leave-x.ensures;
      spends = omega
          (arith, c.gather.ensures.gathers.moves.spends, ran.gone.ran.moves.spends);
      becomes = λ D. called_done
          c.requires.prepared_in.prepared c.requires.node_bound.0 calls c.gather.ensures.gathers c.in_ok-gather.was
          c.first_of.ensures c.body_of-body.ensures c.end_of.ensures c.scope-callee.ensures ran.gone c.in_ok-inner.was
          c.argument_of-dynamic.ensures c.leave-x.ensures D;
    })

pub choose-chooses_by_ancilla-requires-clause-rows : goal.choose-chooses_by_ancilla-requires-clause-rows
choose-chooses_by_ancilla-requires-clause-rows t c =
    c.requires.prepared_in.prepared.ready.machine.rows

pub choose-chooses_by_ancilla-requires-clause-t_bound : goal.choose-chooses_by_ancilla-requires-clause-t_bound
choose-chooses_by_ancilla-requires-clause-t_bound t c =
    (c.requires.prepared_in.prepared.ready.term, c.requires.node_bound.1)

pub choose-chosen-requires : goal.choose-chosen-requires
choose-chosen-requires t c = (
  omega (arith, c.decreases),
  (
    c.requires.prepared_in,
    (
      c.requires.node_bound.0,
      case_that c.requires.node_bound.1 c.ancillae_in-q.ensures c.count_in-n.ensures
          c.chooses_by_ancilla.ensures c.if-chooses_by_ancilla.true,
    ),
  ),
)

pub choose-shape_of-ws-then-chooses_by_ancilla : goal.choose-shape_of-ws-then-chooses_by_ancilla
choose-shape_of-ws-then-chooses_by_ancilla t c =
    c.chosen.auto.ws

pub choose-returns-then-chooses_by_ancilla : goal.choose-returns-then-chooses_by_ancilla
choose-returns-then-chooses_by_ancilla t c =
    c.chosen.ensures

pub choose-matched-requires : goal.choose-matched-requires
choose-matched-requires t c = (
  omega (arith, c.decreases),
  (
    c.requires.prepared_in,
    (
      c.requires.node_bound.0,
      case_that c.requires.node_bound.1 c.ancillae_in-q.ensures c.count_in-n.ensures
          c.chooses_by_ancilla.ensures c.if-chooses_by_ancilla.false,
    ),
  ),
)

pub choose-shape_of-ws : goal.choose-shape_of-ws
choose-shape_of-ws t c =
    c.matched.auto.ws

pub choose-returns : goal.choose-returns
choose-returns t c =
    c.matched.ensures

pub chosen-first_of-sum-requires : goal.chosen-first_of-sum-requires
chosen-first_of-sum-requires t c =
    row-there c.requires.prepared_in.prepared

pub chosen-overflow_sub-h : goal.chosen-overflow_sub-h
chosen-overflow_sub-h t c =
    omega (arith, c.requires.prepared_in.prepared.ready.tall)

pub chosen-eval-requires : goal.chosen-eval-requires
chosen-eval-requires t c =
    record {
      full = c.requires.prepared_in.full;
      ready = chosen-sum (c.requires.prepared_in, c.requires.node_bound) c.first_of-sum.ensures;
    }

pub chosen-shape_of-ws-in_err-s : goal.chosen-shape_of-ws-in_err-s
chosen-shape_of-ws-in_err-s t c =
    c.eval.auto.ws

pub chosen-returns-in_err-s : goal.chosen-returns-in_err-s
chosen-returns-in_err-s t c =
    leads-over (Err _) (err_of c.from_residual.result c.from_residual.ensures.1) c.eval.ensures.lengths
    (chosen-stopped (c.requires.prepared_in, c.requires.node_bound) c.first_of-sum.ensures c.eval.ensures.ran
    (sym c.status_of.ensures ∙ c.in_err-s.was) refl)

pub chosen-kind_of-requires : goal.chosen-kind_of-requires
chosen-kind_of-requires t c =
    chosen-room (c.requires.prepared_in, c.requires.node_bound) c.first_of-sum.ensures c.eval.ensures.ran
    (sym c.status_of.ensures ∙ c.in_ok-s.was)

pub chosen-left_of-part-requires : goal.chosen-left_of-part-requires
chosen-left_of-part-requires t c =
    chosen-room (c.requires.prepared_in, c.requires.node_bound) c.first_of-sum.ensures c.eval.ensures.ran
    (sym c.status_of.ensures ∙ c.in_ok-s.was)

pub chosen-second_of-left-requires : goal.chosen-second_of-left-requires
chosen-second_of-left-requires t c =
    row-there c.requires.prepared_in.prepared

pub chosen-branch-code-requires : goal.chosen-branch-code-requires
chosen-branch-code-requires t c =
    let kind : nodeKind _ _ ≡ _ = sym (value_kind c.eval.ensures (sym c.status_of.ensures ∙ c.in_ok-s.was) c.kind_of.ensures) ∙ ap kind_number c.in-Inl.is in (
      omega (arith, c.decreases, c.eval.ensures.ran.spends),
      (
        record {
          full = c.eval.ensures.lengths ∙ c.requires.prepared_in.full;
          few = chosen-few (c.requires.prepared_in, c.requires.node_bound);
          prepared = left-prepared (c.requires.prepared_in, c.requires.node_bound)
              c.first_of-sum.ensures c.eval.ensures.ran
              (sym c.status_of.ensures ∙ c.in_ok-s.was) c.left_of-part.ensures kind c.second_of-left.ensures;
        },
        (
          left-part (c.requires.prepared_in, c.requires.node_bound)
              c.first_of-sum.ensures c.eval.ensures.ran
              (sym c.status_of.ensures ∙ c.in_ok-s.was) c.left_of-part.ensures kind c.second_of-left.ensures,
          chosen-node (c.requires.prepared_in, c.requires.node_bound) c.first_of-sum.ensures c.eval.ensures.ran
              (sym c.status_of.ensures ∙ c.in_ok-s.was),
        ),
      ),
    )

pub chosen-shape_of-ws-in-Inl : goal.chosen-shape_of-ws-in-Inl
chosen-shape_of-ws-in-Inl t c =
    c.branch-code.auto.ws ∙ c.eval.auto.ws

pub chosen-returns-in-Inl : goal.chosen-returns-in-Inl
chosen-returns-in-Inl t c =
    let kind : nodeKind _ _ ≡ _ = sym (value_kind c.eval.ensures (sym c.status_of.ensures ∙ c.in_ok-s.was) c.kind_of.ensures) ∙ ap kind_number c.in-Inl.is in
    leads-over _ c.ended.ensures (c.branch-code.ensures.lengths ∙ c.eval.ensures.lengths)
    (left-gone (c.requires.prepared_in, c.requires.node_bound) c.first_of-sum.ensures c.eval.ensures.ran
    (sym c.status_of.ensures ∙ c.in_ok-s.was) c.left_of-part.ensures kind c.second_of-left.ensures c.branch-code.ensures.gone)

pub chosen-third_of-right-requires : goal.chosen-third_of-right-requires
chosen-third_of-right-requires t c =
    row-there c.requires.prepared_in.prepared

pub chosen-branch-code-requires-in-Inr : goal.chosen-branch-code-requires-in-Inr
chosen-branch-code-requires-in-Inr t c =
    let kind : nodeKind _ _ ≡ _ = sym (value_kind c.eval.ensures (sym c.status_of.ensures ∙ c.in_ok-s.was) c.kind_of.ensures) ∙ ap kind_number c.in-Inr.is in (
      omega (arith, c.decreases, c.eval.ensures.ran.spends),
      (
        record {
          full = c.eval.ensures.lengths ∙ c.requires.prepared_in.full;
          few = chosen-few (c.requires.prepared_in, c.requires.node_bound);
          prepared = right-prepared (c.requires.prepared_in, c.requires.node_bound)
              c.first_of-sum.ensures c.eval.ensures.ran
              (sym c.status_of.ensures ∙ c.in_ok-s.was) c.left_of-part.ensures kind c.third_of-right.ensures;
        },
        (
          right-part (c.requires.prepared_in, c.requires.node_bound)
              c.first_of-sum.ensures c.eval.ensures.ran
              (sym c.status_of.ensures ∙ c.in_ok-s.was) c.left_of-part.ensures kind c.third_of-right.ensures,
          chosen-node (c.requires.prepared_in, c.requires.node_bound) c.first_of-sum.ensures c.eval.ensures.ran
              (sym c.status_of.ensures ∙ c.in_ok-s.was),
        ),
      ),
    )

pub chosen-shape_of-ws-in-Inr : goal.chosen-shape_of-ws-in-Inr
chosen-shape_of-ws-in-Inr t c =
    c.branch-code-in-Inr.auto.ws ∙ c.eval.auto.ws

pub chosen-returns-in-Inr : goal.chosen-returns-in-Inr
chosen-returns-in-Inr t c =
    let kind : nodeKind _ _ ≡ _ = sym (value_kind c.eval.ensures (sym c.status_of.ensures ∙ c.in_ok-s.was) c.kind_of.ensures) ∙ ap kind_number c.in-Inr.is in
    leads-over _ c.ended-in-Inr.ensures (c.branch-code-in-Inr.ensures.lengths ∙ c.eval.ensures.lengths)
    (right-gone (c.requires.prepared_in, c.requires.node_bound) c.first_of-sum.ensures c.eval.ensures.ran
    (sym c.status_of.ensures ∙ c.in_ok-s.was) c.left_of-part.ensures kind c.third_of-right.ensures c.branch-code-in-Inr.ensures.gone)

pub chosen-shape_of-ws-in_default : goal.chosen-shape_of-ws-in_default
chosen-shape_of-ws-in_default t c =
    c.eval.auto.ws

pub chosen-returns-in_default : goal.chosen-returns-in_default
chosen-returns-in_default t c =
    leads-over (Err Stuck) refl c.eval.ensures.lengths
    (chosen-stuck (c.requires.prepared_in, c.requires.node_bound) c.first_of-sum.ensures c.eval.ensures.ran
    (sym c.status_of.ensures ∙ c.in_ok-s.was) (λ e. c.in_default.not-Inl (c.kind_of.ensures ∙ ap kind_named e)) (λ e. c.in_default.not-Inr (c.kind_of.ensures ∙ ap kind_named e))
    refl)

pub let_one-first_of-bound-requires : goal.let_one-first_of-bound-requires
let_one-first_of-bound-requires t c =
    row-there c.requires.prepared_in.prepared

pub let_one-second_of-body-requires : goal.let_one-second_of-body-requires
let_one-second_of-body-requires t c =
    row-there c.requires.prepared_in.prepared

pub let_one-overflow_sub-h : goal.let_one-overflow_sub-h
let_one-overflow_sub-h t c =
    omega (arith, c.requires.prepared_in.prepared.ready.tall)

pub let_one-widen-wide-requires : goal.let_one-widen-wide-requires
let_one-widen-wide-requires t c =
    let_widens c.requires.prepared_in c.requires.node_bound.0 c.first_of-bound.ensures c.second_of-body.ensures c.requires.node_bound.1

pub let_one-back-requires : goal.let_one-back-requires
let_one-back-requires t c = (
  omega (arith, c.decreases, ap (λ (m : Machine). m.fuel) c.widen-wide.ensures.machine),
  let_widened c.requires.prepared_in c.requires.node_bound.0 c.first_of-bound.ensures c.second_of-body.ensures c.requires.node_bound.1
      c.widen-wide.ensures,
)

pub let_one-shape_of-ws-in_err-inner : goal.let_one-shape_of-ws-in_err-inner
let_one-shape_of-ws-in_err-inner t c =
    c.back.auto.ws

pub let_one-returns-in_err-inner : goal.let_one-returns-in_err-inner
let_one-returns-in_err-inner t c =
    let ran = let_ran c.requires.prepared_in c.requires.node_bound.0 c.first_of-bound.ensures c.second_of-body.ensures c.requires.node_bound.1
    c.widen-wide.ensures (unpacked_run c.unpacked.ensures c.back.ensures) in
    leads-stopped c.in_err-inner.was (err_of c.from_residual.result c.from_residual.ensures.1) ran.lengths
    (let_stopped c.requires.prepared_in.prepared c.requires.node_bound.0 c.requires.node_bound.1 c.first_of-bound.ensures c.second_of-body.ensures
    ran.gone c.in_err-inner.was)

pub let_one-leave-x-requires : goal.let_one-leave-x-requires
let_one-leave-x-requires t c =
    let ran = let_ran c.requires.prepared_in c.requires.node_bound.0 c.first_of-bound.ensures c.second_of-body.ensures c.requires.node_bound.1
    c.widen-wide.ensures (unpacked_run c.unpacked.ensures c.back.ensures) in
    let_leaves c.requires.prepared_in.prepared c.requires.node_bound.0 c.requires.node_bound.1 c.first_of-bound.ensures c.second_of-body.ensures
    ran.gone c.in_ok-inner.was

pub let_one-outer-c-requires : goal.let_one-outer-c-requires
let_one-outer-c-requires t c =
    let ran = let_ran c.requires.prepared_in c.requires.node_bound.0 c.first_of-bound.ensures c.second_of-body.ensures c.requires.node_bound.1
    c.widen-wide.ensures (unpacked_run c.unpacked.ensures c.back.ensures) in
    let_cell c.requires.prepared_in.prepared c.requires.node_bound.0 c.requires.node_bound.1 c.first_of-bound.ensures c.second_of-body.ensures
    ran.gone c.in_ok-inner.was (ran.lengths ∙ c.requires.prepared_in.full) refl

pub let_one-shape_of-ws : goal.let_one-shape_of-ws
let_one-shape_of-ws t c =
    c.outer-c.auto.ws ∙ c.back.auto.ws

pub let_one-returns : goal.let_one-returns
let_one-returns t c =
    let ran = let_ran c.requires.prepared_in c.requires.node_bound.0 c.first_of-bound.ensures c.second_of-body.ensures c.requires.node_bound.1
    c.widen-wide.ensures (unpacked_run c.unpacked.ensures c.back.ensures) in
    leads-on refl (c.outer-c.ensures.moved.lengths ∙ ran.lengths)
    (record {
      prepared = record {
        full = c.outer-c.ensures.moved.lengths ∙ ran.lengths ∙ c.requires.prepared_in.full;
        prepared = let_outer c.requires.prepared_in.prepared c.requires.node_bound.0 c.requires.node_bound.1 c.first_of-bound.ensures
            c.second_of-body.ensures ran.gone c.in_ok-inner.was (left_behind c.outer-c.ensures);
      };
      there = let_node c.requires.prepared_in.prepared c.requires.node_bound.0 c.requires.node_bound.1 c.first_of-bound.ensures
          c.second_of-body.ensures ran.gone c.in_ok-inner.was (left_behind c.outer-c.ensures) c.leave-x.ensures;
      spends = omega (arith, ran.gone.ran.moves.spends, ap (λ (m : Machine). m.fuel) c.outer-c.ensures.moved.machine);
      becomes = λ D. let_gone c.requires.prepared_in.prepared c.requires.node_bound.0 c.requires.node_bound.1 c.first_of-bound.ensures
          c.second_of-body.ensures ran.gone c.in_ok-inner.was (left_behind c.outer-c.ensures) c.leave-x.ensures D;
    })

pub let_two-first_of-bound-requires : goal.let_two-first_of-bound-requires
let_two-first_of-bound-requires t c =
    row-there c.requires.prepared_in.prepared

pub let_two-second_of-body-requires : goal.let_two-second_of-body-requires
let_two-second_of-body-requires t c =
    row-there c.requires.prepared_in.prepared

pub let_two-overflow_sub-h : goal.let_two-overflow_sub-h
let_two-overflow_sub-h t c =
    omega (arith, c.requires.prepared_in.prepared.ready.tall)

pub let_two-widen-one-requires : goal.let_two-widen-one-requires
let_two-widen-one-requires t c =
    letp_ready c.requires.prepared_in c.requires.node_bound.0 c.first_of-bound.ensures c.second_of-body.ensures c.requires.node_bound.1

pub let_two-widen-both-requires : goal.let_two-widen-both-requires
let_two-widen-both-requires t c =
    letp_widens c.requires.prepared_in c.requires.node_bound.0 c.first_of-bound.ensures c.second_of-body.ensures c.requires.node_bound.1
    c.widen-one.ensures

pub let_two-back-requires : goal.let_two-back-requires
let_two-back-requires t c = (
  omega (
    arith,
    c.decreases,
    ap (λ (m : Machine). m.fuel) c.widen-one.ensures.machine,
    ap (λ (m : Machine). m.fuel) c.widen-both.ensures.machine,
  ),
  letp_widened c.requires.prepared_in c.requires.node_bound.0 c.first_of-bound.ensures c.second_of-body.ensures c.requires.node_bound.1
      c.widen-one.ensures c.widen-both.ensures,
)

pub let_two-shape_of-ws-in_err-inner : goal.let_two-shape_of-ws-in_err-inner
let_two-shape_of-ws-in_err-inner t c =
    c.back.auto.ws

pub let_two-returns-in_err-inner : goal.let_two-returns-in_err-inner
let_two-returns-in_err-inner t c =
    let ran = letp_ran c.requires.prepared_in c.requires.node_bound.0 c.first_of-bound.ensures c.second_of-body.ensures c.requires.node_bound.1
    c.widen-one.ensures c.widen-both.ensures (unpacked_run c.unpacked.ensures c.back.ensures) in
    leads-stopped c.in_err-inner.was (err_of c.from_residual.result c.from_residual.ensures.1) (ran.lengths ∙ c.widen-one.ensures.lengths)
    (letp_stopped c.requires.prepared_in.prepared c.requires.node_bound.0 c.requires.node_bound.1 c.first_of-bound.ensures c.second_of-body.ensures
    (marked c.widen-one.ensures) c.widen-one.ensures.scope_is ran.gone c.in_err-inner.was)

pub let_two-leave-y-requires : goal.let_two-leave-y-requires
let_two-leave-y-requires t c =
    let ran = letp_ran c.requires.prepared_in c.requires.node_bound.0 c.first_of-bound.ensures c.second_of-body.ensures c.requires.node_bound.1
    c.widen-one.ensures c.widen-both.ensures (unpacked_run c.unpacked.ensures c.back.ensures) in
    letp_leaves c.requires.prepared_in.prepared c.requires.node_bound.0 c.requires.node_bound.1 c.first_of-bound.ensures c.second_of-body.ensures
    (marked c.widen-one.ensures) c.widen-one.ensures.scope_is ran.gone c.in_ok-inner.was

pub let_two-leave-x-requires : goal.let_two-leave-x-requires
let_two-leave-x-requires t c =
    let ran = letp_ran c.requires.prepared_in c.requires.node_bound.0 c.first_of-bound.ensures c.second_of-body.ensures c.requires.node_bound.1
    c.widen-one.ensures c.widen-both.ensures (unpacked_run c.unpacked.ensures c.back.ensures) in
    letp_leaves_first c.requires.prepared_in.prepared c.requires.node_bound.0 c.requires.node_bound.1 c.first_of-bound.ensures c.second_of-body.ensures
    (marked c.widen-one.ensures) c.widen-one.ensures.scope_is ran.gone c.in_ok-inner.was

pub let_two-outer-c-requires : goal.let_two-outer-c-requires
let_two-outer-c-requires t c =
    let ran = letp_ran c.requires.prepared_in c.requires.node_bound.0 c.first_of-bound.ensures c.second_of-body.ensures c.requires.node_bound.1
    c.widen-one.ensures c.widen-both.ensures (unpacked_run c.unpacked.ensures c.back.ensures) in
    letp_cell c.requires.prepared_in.prepared c.requires.node_bound.0 c.requires.node_bound.1 c.first_of-bound.ensures c.second_of-body.ensures
    (marked c.widen-one.ensures) c.widen-one.ensures.scope_is ran.gone c.in_ok-inner.was
    (ran.lengths ∙ c.widen-one.ensures.lengths ∙ c.requires.prepared_in.full) refl

pub let_two-over_pair-requires-clause-prepared_in : goal.let_two-over_pair-requires-clause-prepared_in
let_two-over_pair-requires-clause-prepared_in t c =
    let ran = letp_ran c.requires.prepared_in c.requires.node_bound.0 c.first_of-bound.ensures c.second_of-body.ensures c.requires.node_bound.1
    c.widen-one.ensures c.widen-both.ensures (unpacked_run c.unpacked.ensures c.back.ensures) in
    record {
      full = c.outer-c.ensures.moved.lengths ∙ ran.lengths ∙ c.widen-one.ensures.lengths
          ∙ c.requires.prepared_in.full;
      prepared = letp_outer c.requires.prepared_in.prepared c.requires.node_bound.0 c.requires.node_bound.1
          c.first_of-bound.ensures c.second_of-body.ensures (marked c.widen-one.ensures) c.widen-one.ensures.scope_is
          ran.gone c.in_ok-inner.was (left_behind c.outer-c.ensures);
    }

pub let_two-over_pair-requires-clause-left_bound : goal.let_two-over_pair-requires-clause-left_bound
let_two-over_pair-requires-clause-left_bound t c =
    let ran = letp_ran c.requires.prepared_in c.requires.node_bound.0 c.first_of-bound.ensures c.second_of-body.ensures c.requires.node_bound.1
    c.widen-one.ensures c.widen-both.ensures (unpacked_run c.unpacked.ensures c.back.ensures) in
    letp_both c.requires.prepared_in.prepared c.requires.node_bound.0
    c.requires.node_bound.1 c.first_of-bound.ensures c.second_of-body.ensures (marked c.widen-one.ensures)
    c.widen-one.ensures.scope_is ran.gone c.in_ok-inner.was (left_behind c.outer-c.ensures) c.leave-x.ensures
    c.leave-y.ensures

pub let_two-shape_of-ws : goal.let_two-shape_of-ws
let_two-shape_of-ws t c =
    c.over_pair.auto.ws ∙ c.outer-c.auto.ws ∙ c.back.auto.ws

pub let_two-returns : goal.let_two-returns
let_two-returns t c =
    let ran = letp_ran c.requires.prepared_in c.requires.node_bound.0 c.first_of-bound.ensures c.second_of-body.ensures c.requires.node_bound.1
    c.widen-one.ensures c.widen-both.ensures (unpacked_run c.unpacked.ensures c.back.ensures) in
    leads-through (c.outer-c.ensures.moved.lengths ∙ ran.lengths ∙ c.widen-one.ensures.lengths)
    (omega (
      arith,
      ran.gone.ran.moves.spends,
      ap (λ (m : Machine). m.fuel) c.widen-one.ensures.machine,
      ap (λ (m : Machine). m.fuel) c.outer-c.ensures.moved.machine,
    ))
    (λ _ _ _ _ D. letp_gone c.requires.prepared_in.prepared c.requires.node_bound.0 c.requires.node_bound.1 c.first_of-bound.ensures c.second_of-body.ensures
    (marked c.widen-one.ensures) c.widen-one.ensures.scope_is ran.gone c.in_ok-inner.was (left_behind c.outer-c.ensures)
    c.leave-x.ensures c.leave-y.ensures D)
    c.over_pair.ensures

pub matched-first_of-sum-requires : goal.matched-first_of-sum-requires
matched-first_of-sum-requires t c =
    row-there c.requires.prepared_in.prepared

pub matched-second_of-first-requires : goal.matched-second_of-first-requires
matched-second_of-first-requires t c =
    row-there c.requires.prepared_in.prepared

pub matched-yields-left-requires : goal.matched-yields-left-requires
matched-yields-left-requires t c =
    case_asked c.requires.prepared_in c.requires.node_bound.0 c.requires.node_bound.1.kind c.second_of-first.ensures

pub matched-branch_of-branch-requires : goal.matched-branch_of-branch-requires
matched-branch_of-branch-requires t c =
    row-there c.requires.prepared_in.prepared

pub matched-overflow_sub-h : goal.matched-overflow_sub-h
matched-overflow_sub-h t c =
    omega (arith, c.requires.prepared_in.prepared.ready.tall)

pub matched-widen-wide-requires : goal.matched-widen-wide-requires
matched-widen-wide-requires t c =
    let yields = view_yields c.yields-left.ensures (few-ancillae c.requires.prepared_in.prepared) in
    case_widens c.requires.prepared_in c.requires.node_bound.0 c.requires.node_bound.1 c.second_of-first.ensures _ yields
    c.first_of-sum.ensures c.branch_of-branch.ensures c.side_of-side.ensures

pub matched-back-requires : goal.matched-back-requires
matched-back-requires t c =
    let yields = view_yields c.yields-left.ensures (few-ancillae c.requires.prepared_in.prepared) in (
      omega (arith, c.decreases, ap (λ (m : Machine). m.fuel) c.widen-wide.ensures.machine),
      case_widened c.requires.prepared_in c.requires.node_bound.0 c.requires.node_bound.1 c.second_of-first.ensures _ yields
          c.first_of-sum.ensures c.branch_of-branch.ensures c.side_of-side.ensures c.widen-wide.ensures,
    )

pub matched-shape_of-ws-in_err-inner : goal.matched-shape_of-ws-in_err-inner
matched-shape_of-ws-in_err-inner t c =
    c.back.auto.ws

pub matched-returns-in_err-inner : goal.matched-returns-in_err-inner
matched-returns-in_err-inner t c =
    let yields = view_yields c.yields-left.ensures (few-ancillae c.requires.prepared_in.prepared) in
    let ran = case_ran c.requires.prepared_in c.requires.node_bound.0 c.requires.node_bound.1 c.second_of-first.ensures _ yields
    c.first_of-sum.ensures c.branch_of-branch.ensures c.side_of-side.ensures c.widen-wide.ensures
    (unpacked_run c.unpacked.ensures c.back.ensures) in
    leads-stopped c.in_err-inner.was (err_of c.from_residual.result c.from_residual.ensures.1) ran.lengths
    (case_stopped c.requires.prepared_in.prepared c.requires.node_bound.0
    c.requires.node_bound.1.kind c.requires.node_bound.1.chooses c.second_of-first.ensures _ yields
    c.first_of-sum.ensures c.branch_of-branch.ensures c.side_of-side.ensures ran.gone c.in_err-inner.was)

pub matched-leave-x-requires : goal.matched-leave-x-requires
matched-leave-x-requires t c =
    let yields = view_yields c.yields-left.ensures (few-ancillae c.requires.prepared_in.prepared) in
    let ran = case_ran c.requires.prepared_in c.requires.node_bound.0 c.requires.node_bound.1 c.second_of-first.ensures _ yields
    c.first_of-sum.ensures c.branch_of-branch.ensures c.side_of-side.ensures c.widen-wide.ensures
    (unpacked_run c.unpacked.ensures c.back.ensures) in
    case_leaves c.requires.prepared_in.prepared c.requires.node_bound.0
    c.requires.node_bound.1.kind c.requires.node_bound.1.chooses c.second_of-first.ensures _ yields
    c.first_of-sum.ensures c.branch_of-branch.ensures c.side_of-side.ensures ran.gone c.in_ok-inner.was

pub matched-outer-c-requires : goal.matched-outer-c-requires
matched-outer-c-requires t c =
    let yields = view_yields c.yields-left.ensures (few-ancillae c.requires.prepared_in.prepared) in
    let ran = case_ran c.requires.prepared_in c.requires.node_bound.0 c.requires.node_bound.1 c.second_of-first.ensures _ yields
    c.first_of-sum.ensures c.branch_of-branch.ensures c.side_of-side.ensures c.widen-wide.ensures
    (unpacked_run c.unpacked.ensures c.back.ensures) in
    case_cell c.requires.prepared_in.prepared c.requires.node_bound.0
    c.requires.node_bound.1.kind c.requires.node_bound.1.chooses c.second_of-first.ensures _ yields
    c.first_of-sum.ensures c.branch_of-branch.ensures c.side_of-side.ensures ran.gone c.in_ok-inner.was
    (ran.lengths ∙ c.requires.prepared_in.full) refl

pub matched-over-requires-clause-prepared_in : goal.matched-over-requires-clause-prepared_in
matched-over-requires-clause-prepared_in t c =
    let yields = view_yields c.yields-left.ensures (few-ancillae c.requires.prepared_in.prepared) in
    let ran = case_ran c.requires.prepared_in c.requires.node_bound.0 c.requires.node_bound.1 c.second_of-first.ensures _ yields
    c.first_of-sum.ensures c.branch_of-branch.ensures c.side_of-side.ensures c.widen-wide.ensures
    (unpacked_run c.unpacked.ensures c.back.ensures) in
    record {
      full = c.outer-c.ensures.moved.lengths ∙ ran.lengths ∙ c.requires.prepared_in.full;
      prepared = case_outer
          c.requires.prepared_in.prepared c.requires.node_bound.0
          c.requires.node_bound.1.kind c.requires.node_bound.1.chooses c.second_of-first.ensures _ yields c.first_of-sum.ensures
          c.branch_of-branch.ensures c.side_of-side.ensures ran.gone c.in_ok-inner.was (left_behind c.outer-c.ensures);
    }

pub matched-over-requires-clause-part_bound : goal.matched-over-requires-clause-part_bound
matched-over-requires-clause-part_bound t c =
    let yields = view_yields c.yields-left.ensures (few-ancillae c.requires.prepared_in.prepared) in
    let ran = case_ran c.requires.prepared_in c.requires.node_bound.0 c.requires.node_bound.1 c.second_of-first.ensures _ yields
    c.first_of-sum.ensures c.branch_of-branch.ensures c.side_of-side.ensures c.widen-wide.ensures
    (unpacked_run c.unpacked.ensures c.back.ensures) in (
      case_node c.requires.prepared_in.prepared c.requires.node_bound.0
          c.requires.node_bound.1.kind c.requires.node_bound.1.chooses c.second_of-first.ensures _ yields
          c.first_of-sum.ensures c.branch_of-branch.ensures c.side_of-side.ensures ran.gone c.in_ok-inner.was
          (left_behind c.outer-c.ensures) c.leave-x.ensures,
      side-single c.yields-left.result c.side_of-side.ensures,
    )

pub matched-shape_of-ws : goal.matched-shape_of-ws
matched-shape_of-ws t c =
    c.over.auto.ws ∙ c.outer-c.auto.ws ∙ c.back.auto.ws

pub matched-returns : goal.matched-returns
matched-returns t c =
    let yields = view_yields c.yields-left.ensures (few-ancillae c.requires.prepared_in.prepared) in
    let ran = case_ran c.requires.prepared_in c.requires.node_bound.0 c.requires.node_bound.1 c.second_of-first.ensures _ yields
    c.first_of-sum.ensures c.branch_of-branch.ensures c.side_of-side.ensures c.widen-wide.ensures
    (unpacked_run c.unpacked.ensures c.back.ensures) in
    leads-through (c.outer-c.ensures.moved.lengths ∙ ran.lengths)
    (omega (arith, ran.gone.ran.moves.spends, ap (λ (m : Machine). m.fuel) c.outer-c.ensures.moved.machine))
    (λ _ _ _ _ D. case_gone c.requires.prepared_in.prepared c.requires.node_bound.0
    c.requires.node_bound.1.kind c.requires.node_bound.1.chooses c.second_of-first.ensures _ yields
    c.first_of-sum.ensures c.branch_of-branch.ensures c.side_of-side.ensures ran.gone c.in_ok-inner.was
    (left_behind c.outer-c.ensures) c.leave-x.ensures D)
    c.over.ensures

pub pair-kind_of-requires : goal.pair-kind_of-requires
pair-kind_of-requires t c =
    node-there c.requires.prepared_in.prepared.ready c.requires.node_bound.0

pub pair-returns-then-ne : goal.pair-returns-then-ne
pair-returns-then-ne t c =
    leads-over (Err Stuck) refl refl
    (paired-stuck c.requires.prepared_in.prepared c.requires.node_bound.0 c.requires.node_bound.1
    (node_kind c.requires.prepared_in c.requires.node_bound.0 c.kind_of.ensures) (kind_differs c.kind_of.result Pair c.ne.ensures c.if-ne.true)
    )

pub pair-first_of-first-requires : goal.pair-first_of-first-requires
pair-first_of-first-requires t c =
    row-there c.requires.prepared_in.prepared

pub pair-second_of-second-requires : goal.pair-second_of-second-requires
pair-second_of-second-requires t c =
    row-there c.requires.prepared_in.prepared

pub pair-left_of-x-requires : goal.pair-left_of-x-requires
pair-left_of-x-requires t c =
    node-there c.requires.prepared_in.prepared.ready c.requires.node_bound.0

pub pair-right_of-y-requires : goal.pair-right_of-y-requires
pair-right_of-y-requires t c =
    node-there c.requires.prepared_in.prepared.ready c.requires.node_bound.0

pub pair-overflow_sub-h : goal.pair-overflow_sub-h
pair-overflow_sub-h t c =
    omega (arith, c.requires.prepared_in.prepared.ready.tall)

pub pair-back-requires : goal.pair-back-requires
pair-back-requires t c = (
  omega (arith, c.decreases),
  (
    record {
      full = c.requires.prepared_in.full;
      prepared = paired-first c.requires.prepared_in.prepared c.requires.node_bound.0 c.requires.node_bound.1
          (node_kind c.requires.prepared_in c.requires.node_bound.0 c.kind_of.ensures) (kind_same c.kind_of.result Pair c.ne.ensures c.if-ne.false)
          c.left_of-x.ensures c.right_of-y.ensures c.first_of-first.ensures
          c.second_of-second.ensures;
    },
    (paired-nodes c.requires.prepared_in.prepared c.requires.node_bound.0 c.requires.node_bound.1
        (node_kind c.requires.prepared_in c.requires.node_bound.0 c.kind_of.ensures) (kind_same c.kind_of.result Pair c.ne.ensures c.if-ne.false)
        c.left_of-x.ensures c.right_of-y.ensures).0,
  ),
)

pub pair-shape_of-ws-in_err-c : goal.pair-shape_of-ws-in_err-c
pair-shape_of-ws-in_err-c t c =
    c.back.auto.ws

pub pair-returns-in_err-c : goal.pair-returns-in_err-c
pair-returns-in_err-c t c =
    let ran = unpacked_run c.unpacked.ensures c.back.ensures in
    leads-stopped c.in_err-c.was (err_of c.from_residual.result c.from_residual.ensures.1) ran.lengths
    (paired-stopped c.requires.prepared_in.prepared c.requires.node_bound.0 c.requires.node_bound.1
    (node_kind c.requires.prepared_in c.requires.node_bound.0 c.kind_of.ensures) (kind_same c.kind_of.result Pair c.ne.ensures c.if-ne.false)
    c.left_of-x.ensures c.right_of-y.ensures c.first_of-first.ensures c.second_of-second.ensures ran.gone
    c.in_err-c.was)

pub pair-shape_of-ws : goal.pair-shape_of-ws
pair-shape_of-ws t c =
    c.back.auto.ws

pub pair-returns : goal.pair-returns
pair-returns t c =
    let ran = unpacked_run c.unpacked.ensures c.back.ensures in
    leads-on refl ran.lengths
    (record {
      prepared = record {
        full = ran.lengths ∙ c.requires.prepared_in.full;
        prepared = paired-second c.requires.prepared_in.prepared c.requires.node_bound.0 c.requires.node_bound.1
            (node_kind c.requires.prepared_in c.requires.node_bound.0 c.kind_of.ensures) (kind_same c.kind_of.result Pair c.ne.ensures c.if-ne.false)
            c.left_of-x.ensures c.right_of-y.ensures c.first_of-first.ensures
            c.second_of-second.ensures ran.gone c.in_ok-c.was;
      };
      there = paired-node c.requires.prepared_in.prepared c.requires.node_bound.0 c.requires.node_bound.1
          (node_kind c.requires.prepared_in c.requires.node_bound.0 c.kind_of.ensures) (kind_same c.kind_of.result Pair c.ne.ensures c.if-ne.false)
          c.left_of-x.ensures c.right_of-y.ensures c.first_of-first.ensures c.second_of-second.ensures ran.gone
          c.in_ok-c.was;
      spends = ran.gone.ran.moves.spends;
      becomes = λ D. paired-gone c.requires.prepared_in.prepared c.requires.node_bound.0 c.requires.node_bound.1
          (node_kind c.requires.prepared_in c.requires.node_bound.0 c.kind_of.ensures) (kind_same c.kind_of.result Pair c.ne.ensures c.if-ne.false)
          c.left_of-x.ensures c.right_of-y.ensures c.first_of-first.ensures
          c.second_of-second.ensures ran.gone c.in_ok-c.was D;
    })

pub step-term_kind-requires-clause-rows : goal.step-term_kind-requires-clause-rows
step-term_kind-requires-clause-rows t c =
    c.requires.prepared_in.prepared.ready.machine.rows

pub step-term_kind-requires-clause-t_lt_count : goal.step-term_kind-requires-clause-t_lt_count
step-term_kind-requires-clause-t_lt_count t c =
    c.requires.prepared_in.prepared.ready.term

pub step-variable-requires-clause-t_lt_max_terms : goal.step-variable-requires-clause-t_lt_max_terms
step-variable-requires-clause-t_lt_max_terms t c =
    row-there c.requires.prepared_in.prepared

pub step-variable-requires-clause-meetable : goal.step-variable-requires-clause-meetable
step-variable-requires-clause-meetable t c =
    variable_meetable c.requires.prepared_in (sym c.term_kind.ensures ∙ ap term_kind_number c.in-Variable.is) c.requires.node_bound

pub step-variable-requires-clause-node_bound : goal.step-variable-requires-clause-node_bound
step-variable-requires-clause-node_bound t c =
    c.requires.node_bound

pub step-unit-requires : goal.step-unit-requires
step-unit-requires t c =
    node-there c.requires.prepared_in.prepared.ready c.requires.node_bound

pub step-unwrap-requires-clause-prepared_in : goal.step-unwrap-requires-clause-prepared_in
step-unwrap-requires-clause-prepared_in t c =
    c.requires.prepared_in

pub step-unwrap-requires-clause-node_bound : goal.step-unwrap-requires-clause-node_bound
step-unwrap-requires-clause-node_bound t c =
    (c.requires.node_bound, left (sym c.term_kind.ensures ∙ ap term_kind_number c.in-Inl.is, refl))

pub step-unwrap-requires-in-Inr-clause-prepared_in : goal.step-unwrap-requires-in-Inr-clause-prepared_in
step-unwrap-requires-in-Inr-clause-prepared_in t c =
    c.requires.prepared_in

pub step-unwrap-requires-in-Inr-clause-node_bound : goal.step-unwrap-requires-in-Inr-clause-node_bound
step-unwrap-requires-in-Inr-clause-node_bound t c =
    (c.requires.node_bound, right (left (sym c.term_kind.ensures ∙ ap term_kind_number c.in-Inr.is, refl)))

pub step-pair-requires : goal.step-pair-requires
step-pair-requires t c =
    (omega (arith, c.decreases), (c.requires.prepared_in, (c.requires.node_bound, sym c.term_kind.ensures ∙ ap term_kind_number c.in-Pair.is)))

pub step-let_one-requires : goal.step-let_one-requires
step-let_one-requires t c =
    (omega (arith, c.decreases), (c.requires.prepared_in, (c.requires.node_bound, sym c.term_kind.ensures ∙ ap term_kind_number c.in-Let.is)))

pub step-let_two-requires : goal.step-let_two-requires
step-let_two-requires t c =
    (omega (arith, c.decreases), (c.requires.prepared_in, (c.requires.node_bound, sym c.term_kind.ensures ∙ ap term_kind_number c.in-LetPair.is)))

pub step-choose-requires : goal.step-choose-requires
step-choose-requires t c =
    (omega (arith, c.decreases), (c.requires.prepared_in, (c.requires.node_bound, sym c.term_kind.ensures ∙ ap term_kind_number c.in-Case.is)))

pub step-call-requires : goal.step-call-requires
step-call-requires t c =
    (omega (arith, c.decreases), (c.requires.prepared_in, (c.requires.node_bound, sym c.term_kind.ensures ∙ ap term_kind_number c.in-Call.is)))

pub step-unwrap-requires-in-Roll-clause-prepared_in : goal.step-unwrap-requires-in-Roll-clause-prepared_in
step-unwrap-requires-in-Roll-clause-prepared_in t c =
    c.requires.prepared_in

pub step-unwrap-requires-in-Roll-clause-node_bound : goal.step-unwrap-requires-in-Roll-clause-node_bound
step-unwrap-requires-in-Roll-clause-node_bound t c =
    (c.requires.node_bound, right (right (sym c.term_kind.ensures ∙ ap term_kind_number c.in-Roll.is, refl)))

pub step-unroll-requires-clause-prepared_in : goal.step-unroll-requires-clause-prepared_in
step-unroll-requires-clause-prepared_in t c =
    c.requires.prepared_in

pub step-unroll-requires-clause-node_bound : goal.step-unroll-requires-clause-node_bound
step-unroll-requires-clause-node_bound t c =
    (c.requires.node_bound, sym c.term_kind.ensures ∙ ap term_kind_number c.in-Unroll.is)

pub step-shape_of-ws-in-Variable : goal.step-shape_of-ws-in-Variable
step-shape_of-ws-in-Variable t c =
    c.variable.auto.ws

pub step-returns-in-Variable : goal.step-returns-in-Variable
step-returns-in-Variable t c =
    leaf-leads _ c.ended.ensures
    (variable-step c.requires.prepared_in c.requires.node_bound (sym c.term_kind.ensures ∙ ap term_kind_number c.in-Variable.is) c.variable.ensures)

pub step-returns-in-Unit : goal.step-returns-in-Unit
step-returns-in-Unit t c =
    leaf-leads _ c.ended-in-Unit.ensures
    (unit-step c.requires.prepared_in c.requires.node_bound (sym c.term_kind.ensures ∙ ap term_kind_number c.in-Unit.is) c.unit.ensures)

pub step-shape_of-ws-in-Inl : goal.step-shape_of-ws-in-Inl
step-shape_of-ws-in-Inl t c =
    c.unwrap.auto.ws

pub step-returns-in-Inl : goal.step-returns-in-Inl
step-returns-in-Inl t c =
    c.unwrap.ensures

pub step-shape_of-ws-in-Inr : goal.step-shape_of-ws-in-Inr
step-shape_of-ws-in-Inr t c =
    c.unwrap-in-Inr.auto.ws

pub step-returns-in-Inr : goal.step-returns-in-Inr
step-returns-in-Inr t c =
    c.unwrap-in-Inr.ensures

pub step-shape_of-ws-in-Pair : goal.step-shape_of-ws-in-Pair
step-shape_of-ws-in-Pair t c =
    c.pair.auto.ws

pub step-returns-in-Pair : goal.step-returns-in-Pair
step-returns-in-Pair t c =
    c.pair.ensures

pub step-shape_of-ws-in-Let : goal.step-shape_of-ws-in-Let
step-shape_of-ws-in-Let t c =
    c.let_one.auto.ws

pub step-returns-in-Let : goal.step-returns-in-Let
step-returns-in-Let t c =
    c.let_one.ensures

pub step-shape_of-ws-in-LetPair : goal.step-shape_of-ws-in-LetPair
step-shape_of-ws-in-LetPair t c =
    c.let_two.auto.ws

pub step-returns-in-LetPair : goal.step-returns-in-LetPair
step-returns-in-LetPair t c =
    c.let_two.ensures

pub step-shape_of-ws-in-Case : goal.step-shape_of-ws-in-Case
step-shape_of-ws-in-Case t c =
    c.choose.auto.ws

pub step-returns-in-Case : goal.step-returns-in-Case
step-returns-in-Case t c =
    c.choose.ensures

pub step-shape_of-ws-in-Call : goal.step-shape_of-ws-in-Call
step-shape_of-ws-in-Call t c =
    c.call.auto.ws

pub step-returns-in-Call : goal.step-returns-in-Call
step-returns-in-Call t c =
    c.call.ensures

pub step-shape_of-ws-in-Roll : goal.step-shape_of-ws-in-Roll
step-shape_of-ws-in-Roll t c =
    c.unwrap-in-Roll.auto.ws

pub step-returns-in-Roll : goal.step-returns-in-Roll
step-returns-in-Roll t c =
    c.unwrap-in-Roll.ensures

pub step-shape_of-ws-in-Unroll : goal.step-shape_of-ws-in-Unroll
step-shape_of-ws-in-Unroll t c =
    c.unroll.auto.ws

pub step-returns-in-Unroll : goal.step-returns-in-Unroll
step-returns-in-Unroll t c =
    c.unroll.ensures
