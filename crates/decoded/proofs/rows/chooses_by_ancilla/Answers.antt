use native.Mathlib.Omega.{arith}
use mathlib.Core.Path.{ap₂, ◌∙◌}
use Rattle.varsets.specs.Sets.{of_halves}
use Rattle.decoded.specs.Rows.{names_in}
use Rattle.decoded.proofs.Chosen.{chosen}
use Rattle.decoded.proofs.rows.chooses_by_ancilla.Goals as goal

pub argument_of-low-requires : goal.argument_of-low-requires
argument_of-low-requires c =
    (omega arith, omega arith)

pub argument_of-high-requires : goal.argument_of-high-requires
argument_of-high-requires c =
    (omega arith, omega arith)

pub returns : goal.returns
unfolding names_in
returns c =
    chosen c.requires.rows c.requires.t_bound.0 c.requires.t_bound.1 c.args.q c.args.n
    (c.of_halves-names.ensures ∙ ap₂ of_halves c.argument_of-low.ensures c.argument_of-high.ensures)
    c.all_inside.ensures
