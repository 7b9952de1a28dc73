use Prim.Native.Nat.{◌+◌, ◌-◌}
use native.Mathlib.Omega.{arith}
use mathlib.Core.Path.{sym, ap, ◌∙◌}
use lib.ListN.{drop}
use Rattle.rules.specs.Limits.{max_value_bytes}
use Rattle.valuebytes.specs.Ends.{pending}
use Rattle.valuebytes.proofs.ByteKinds.{kind-found, kind-none, kind-within}
use Rattle.valuebytes.proofs.Ends.{scan_start, scan_turn, end-over, end_done, end_stopped}
use Rattle.valuebytes.proofs.scan.value_end.Goals as goal

pub loop-i-init : goal.loop-i-init
loop-i-init c =
    (omega arith, omega arith, scan_start _ c.args.at)

pub returns-in_err-kind : goal.returns-in_err-kind
returns-in_err-kind c =
    c.from_residual.ensures
    ∙ end-over _ _ _ _ c.loop-i.auto.i c.loop-i.invariant.2 c.loop-i.invariant.0 (omega arith)
    (kind-none _ _ c.try_from.ensures (sym c.ok.ensures.value ∙ c.in_err-kind.was))

pub returns-then-pending-eq0 : goal.returns-then-pending-eq0
unfolding max_value_bytes
returns-then-pending-eq0 c =
    let k = kind-found _ _ _ c.try_from.ensures (sym c.ok.ensures.value ∙ c.in_ok-kind.was) in
    end_done (drop c.args.at c.args.s.now) c.args.at (c.loop-i.i + 1 - c.args.at) (drop (c.loop-i.i + 1) c.args.s.now) (c.loop-i.pending - 1 + c.parts.result)
    (scan_turn c.args.s.now c.args.at c.loop-i.i c.loop-i.pending c.loop-i.auto.i c.loop-i.invariant.2 (c.loop-i.pending - 1 + c.parts.result) c.loop-i.invariant.0
    (omega arith) (omega (arith, k, kind-within c.in_ok-kind.kind)) (c.parts.ensures.parts _ ∙ ap (λ k. pending k (c.loop-i.pending - 1)) k))
    (omega arith) (omega (arith, c.saturating_add.ensures)) _ (omega arith)

pub loop-i-preserved : goal.loop-i-preserved
loop-i-preserved c =
    let k = kind-found _ _ _ c.try_from.ensures (sym c.ok.ensures.value ∙ c.in_ok-kind.was) in (
      omega arith,
      omega (arith, c.parts.ensures.few),
      scan_turn c.args.s.now c.args.at c.loop-i.i c.loop-i.pending c.loop-i.auto.i c.loop-i.invariant.2 (c.loop-i.pending - 1 + c.parts.result) c.loop-i.invariant.0
          (omega arith) (omega (arith, k, kind-within c.in_ok-kind.kind)) (c.parts.ensures.parts _ ∙ ap (λ k. pending k (c.loop-i.pending - 1)) k),
    )

pub returns : goal.returns
unfolding max_value_bytes
returns c =
    end_stopped _ _ _ _ c.loop-i.auto.i c.loop-i.invariant.2 c.loop-i.invariant.0 (omega (arith, c.saturating_add.ensures)) (omega arith)
