use native.Mathlib.Omega.{arith}
use mathlib.Core.Path.{◌≡◌, refl, sym, ◌∙◌}
use Rattle.typing.proofs.Settling.{settles_none, settles_to, settles-then}
use Rattle.typing.proofs.namings.settle.Goals as goal

pub loop-j-init : goal.loop-j-init
loop-j-init c =
    (omega arith, omega (arith, c.requires.order), refl, settles_none)

pub settle_one-low-requires : goal.settle_one-low-requires
settle_one-low-requires c =
    record {
      slots = omega (arith, c.requires.slots, c.loop-j.invariant.2);
      few = c.requires.few;
      order = omega arith;
      there = omega (arith, c.requires.there, c.loop-j-test.true);
    }

pub loop-j-preserved : goal.loop-j-preserved
loop-j-preserved c = (
  omega (arith, c.loop-j.invariant.0),
  omega arith,
  sym c.settle_one-low.ensures.settled.lengths ∙ c.loop-j.invariant.2,
  settles-then c.loop-j.invariant.0 c.loop-j.invariant.3 c.settle_one-low.ensures,
)

pub returns : goal.returns
returns c =
    settles_to (let z : c.loop-j.j ≡ c.args.to = omega (arith, c.loop-j.invariant.1, c.requires.order) in z) c.loop-j.invariant.3
