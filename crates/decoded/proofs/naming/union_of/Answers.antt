use Prim.Native.Nat.{◌+◌, ◌-◌, ◌<◌}
use native.Mathlib.Omega.{arith}
use mathlib.Core.Path.{◌≡◌, ap, ◌∙◌}
use lib.ListN.{get_or, drop, length-take}
use borrow.Rule.Slice.PartMut.{mid_of}
use Rattle.std.proofs.Common.{get_or-take, get_or-drop}
use Rattle.decoded.specs.Naming.{set_in}
use Rattle.decoded.proofs.Sets.{united_none, united-more, number-below}
use Rattle.decoded.proofs.naming.union_of.Goals.{In-loop-part}
use Rattle.decoded.proofs.naming.union_of.Goals as goal

-- the number at hand is one of the n
there : (c : In-loop-part) → c.loop-part.part-index < c.args.n
there c = omega (arith, length-take (c.args.from + c.args.n - c.args.from) (drop c.args.from c.args.code.now), c.loop-part-test.true)

-- and of the array
part-there : (c : In-loop-part) → get_or (mid_of c.args.from (c.args.from + c.args.n - c.args.from) c.args.code.now) c.loop-part.part-index 0
    ≡ get_or c.args.code.now (c.args.from + c.loop-part.part-index) 0
part-there c =
    let a = c.args.from in
    let m = a + c.args.n - a in
    let rest = drop a c.args.code.now in
    let k = c.loop-part.part-index in
    let l : k < m = omega (arith, there c) in
    get_or-take m rest k 0 l ∙ get_or-drop a c.args.code.now k 0

pub loop-part-init : goal.loop-part-init
loop-part-init c =
    united_none _ _ _ c.none-names.ensures

pub set_of-requires : goal.set_of-requires
set_of-requires c =
    let d = (goal.at.set_of-requires c).In-loop-part in
    rw (part-there d) (number-below _ c.args.code.now c.args.from c.args.n _ c.requires.n_value (there d))

pub loop-part-preserved : goal.loop-part-preserved
loop-part-preserved c =
    united-more c.args.code.now c.args.sets.now c.args.from _ c.loop-part.invariant
    (c.set_of.ensures ∙ ap (set_in c.args.sets.now) (part-there (goal.at.loop-part-preserved c).In-loop-part)) c.union-names.ensures
