use mathlib.Core.Path.{◌≡◌}
use Rattle.valuebytes.specs.Scopes.{outward}
use Rattle.valuebytes.specs.Stack.{cells_in}
use Rattle.valuebytes.proofs.walk.Walk.enclosing.Given as goal

abbrev pub invariant-loop : goal.invariant-loop
invariant-loop l = l.e ≡ outward l.counter (cells_in l.self.cells) l.cell
