use native.Mathlib.Omega.{arith}
use mathlib.Core.Path.{◌≡◌, ◌∙◌}
use Rattle.rules.specs.Limits.{max_parameters}
use Rattle.program.proofs.Rooms.{function-room}
use Rattle.program.proofs.Rows.{none_filled, one-filled, all-filled}
use Rattle.program.proofs.signatures.signature.Goals as goal

pub function_parameters-n-requires : goal.function_parameters-n-requires
function_parameters-n-requires c =
    omega (arith, function-room c.requires)

pub loop-k-init : goal.loop-k-init
unfolding max_parameters
loop-k-init c =
    none_filled _ _

pub listed-requires : goal.listed-requires
listed-requires c =
    omega (arith, function-room c.requires, c.function_parameters-n.ensures.0)

pub offset_bounds-row-k : goal.offset_bounds-row-k
unfolding max_parameters
offset_bounds-row-k c =
    omega arith

pub bounds-row-k : goal.bounds-row-k
unfolding max_parameters
bounds-row-k c =
    omega arith

pub loop-k-preserved : goal.loop-k-preserved
unfolding max_parameters
loop-k-preserved c =
    one-filled (omega arith) c.listed.ensures c.loop-k.invariant

pub returns : goal.returns
returns c =
    all-filled c.requires (let e : c.loop-k.k ≡ c.function_parameters-n.result = omega arith in e
    ∙ c.function_parameters-n.ensures.0) c.loop-k.invariant
