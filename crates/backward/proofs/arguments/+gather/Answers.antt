use Prim.Native.Nat.{◌+◌}
use native.Mathlib.Omega.{arith}
use mathlib.Core.Path.{refl, sym, ap, ◌∙◌}
use Rattle.rules.specs.Limits.{max_height, max_parameters}
use Rattle.forward.proofs.Bounds.{argument-read}
use Rattle.forward.proofs.Runs.{later}
use Rattle.forward.proofs.Placing.{few-count, place-room, place-ready, place-less, place-next}
use Rattle.backward.proofs.Stops.{is_stopped}
use Rattle.backward.proofs.LastPart.{err_of}
use Rattle.backward.proofs.Gathering.{gather_end, gather_refused, gather_placed}
use Rattle.backward.proofs.arguments.+gather.Goals as goal

pub returns-then-k-count : goal.returns-then-k-count
returns-then-k-count t c =
    record { lengths = refl; gathers = gather_end c.requires.ready_in.ready c.requires.calls c.if-k-count.true refl }

pub argument_of-argument-requires : goal.argument_of-argument-requires
argument_of-argument-requires t c =
    argument-read c.requires.ready_in.ready c.requires.calls

pub overflow_sub-room : goal.overflow_sub-room
overflow_sub-room t c =
    omega (arith, c.requires.ready_in.ready.tall)

pub eval-requires : goal.eval-requires
eval-requires t c =
    record { full = c.requires.ready_in.full; ready = place-ready c.requires.ready_in.ready c.requires.calls _ c.argument_of-argument.ensures }

pub shape_of-ws-in_err-x : goal.shape_of-ws-in_err-x
shape_of-ws-in_err-x t c =
    c.eval.auto.ws

pub returns-in_err-x : goal.returns-in_err-x
returns-in_err-x t c =
    record {
      lengths = c.eval.ensures.lengths;
      gathers = gather_refused c.requires.ready_in.ready c.requires.calls c.if-k-count.false _
          c.argument_of-argument.ensures c.eval.ensures.ran (sym c.status_of.ensures ∙ c.in_err-x.was)
          (is_stopped (err_of c.from_residual.result c.from_residual.ensures.1));
    }

pub overflow_add-next : goal.overflow_add-next
overflow_add-next t c =
    omega (arith, few-count c.requires.ready_in.ready c.requires.calls, place-less c.requires.ready_in.ready c.requires.calls c.if-k-count.false)

pub gather-others-requires : goal.gather-others-requires
gather-others-requires t c = (
  omega (arith, c.decreases, place-less c.requires.ready_in.ready c.requires.calls c.if-k-count.false),
  (
    record { full = c.eval.ensures.lengths ∙ c.requires.ready_in.full; ready = later c.requires.ready_in.ready c.eval.ensures.ran },
    place-next c.requires.ready_in.ready c.requires.calls c.if-k-count.false,
  ),
)

pub overflow_add-end_of : goal.overflow_add-end_of
unfolding max_height max_parameters
overflow_add-end_of t c =
    omega (arith, place-room c.requires.ready_in.ready c.requires.calls)

pub bind-requires : goal.bind-requires
bind-requires t c = (
  c.gather-others.ensures.lengths ∙ c.eval.ensures.lengths
      ∙ c.requires.ready_in.full,
  rw c.end_of.ensures (place-room c.requires.ready_in.ready c.requires.calls),
)

pub shape_of-ws : goal.shape_of-ws
shape_of-ws t c =
    c.gather-others.auto.ws ∙ c.eval.auto.ws

pub returns : goal.returns
returns t c =
    record {
      lengths = c.bind.ensures.lengths ∙ c.gather-others.ensures.lengths ∙ c.eval.ensures.lengths;
      gathers = gather_placed c.requires.ready_in.ready c.requires.calls c.if-k-count.false _ c.argument_of-argument.ensures
          c.eval.ensures.ran (sym c.status_of.ensures ∙ c.in_ok-x.was) c.gather-others.ensures.gathers
          (ap (λ e. e + c.args.k) c.end_of.ensures) c.bind.ensures.slots c.bind.ensures.machine;
    }
