use Prim.Native.Nat.{◌+◌}
use native.Mathlib.Omega.{arith}
use mathlib.Core.Path.{◌∙◌}
use lib.ListN.{length}
use Rattle.octets.proofs.Runs.{zeroed-all}
use Rattle.octets.proofs.Zeros.{zeroed-part, part_length}
use Rattle.octets.proofs.clear.Goals as goal

pub loop-s-smaller : goal.loop-s-smaller
loop-s-smaller c =
    omega (arith, part_length c.args.s.now c.loop-s.i (c.loop-s.i + 512) c.loop-s.s c.clear_block.new.s c.loop-s.invariant.1 c.clear_block.ensures (omega arith) (omega arith))

pub loop-s-preserved : goal.loop-s-preserved
loop-s-preserved c = (
  omega arith,
  zeroed-part c.args.s.now c.loop-s.i (c.loop-s.i + 512) c.loop-s.s c.clear_block.new.s c.loop-s.invariant.1 c.clear_block.ensures (omega arith) (omega arith),
  part_length c.args.s.now c.loop-s.i (c.loop-s.i + 512) c.loop-s.s c.clear_block.new.s c.loop-s.invariant.1 c.clear_block.ensures (omega arith) (omega arith),
)

pub shape_of-s : goal.shape_of-s
shape_of-s c =
    part_length c.args.s.now c.loop-s.i (length c.loop-s.s) c.loop-s.s c.clear_block-2.new.s c.loop-s.invariant.1 c.clear_block-2.ensures (omega arith) (omega arith)

pub returns : goal.returns
returns c =
    zeroed-part c.args.s.now c.loop-s.i (length c.loop-s.s) c.loop-s.s c.clear_block-2.new.s c.loop-s.invariant.1 c.clear_block-2.ensures (omega arith) (omega arith)
    ∙ zeroed-all c.args.s.now (length c.loop-s.s) (omega arith)
