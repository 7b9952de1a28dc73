use native.Mathlib.Omega.{arith}
use mathlib.Core.Path.{◌≡◌, ap, ◌∙◌}
use Rattle.rules.specs.Limits.{max_value_bytes}
use Rattle.valuebytes.specs.Scopes.{outward}
use Rattle.valuebytes.specs.Stack.{cells_in}
use Rattle.valuebytes.proofs.Cells.{outward-start, outward-turn}
use Rattle.valuebytes.proofs.Columns.{cell_at}
use Rattle.valuebytes.proofs.walk.Walk.enclosing.Goals as goal

pub loop-init : goal.loop-init
loop-init c =
    outward-start _ _

pub offset_bounds-self-from : goal.offset_bounds-self-from
unfolding max_value_bytes
offset_bounds-self-from c =
    omega (arith, c.from.ensures, c.loop.invariant, c.requires c.loop.counter c.loop-test.true)

pub bounds-self-from : goal.bounds-self-from
unfolding max_value_bytes
bounds-self-from c =
    omega (arith, c.from.ensures, c.loop.invariant, c.requires c.loop.counter c.loop-test.true)

pub loop-preserved : goal.loop-preserved
loop-preserved c =
    cell_at c.args.self.now.cells c.from.result ∙ outward-turn _ _ _ _ _ c.loop.invariant c.from.ensures

pub returns : goal.returns
returns c =
    c.loop.invariant ∙ ap (λ n. outward n (cells_in c.args.self.now.cells) c.args.cell) (let z : c.loop.counter ≡ c.args.k = omega arith in z)
