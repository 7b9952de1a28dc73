use mathlib.Core.Path.{◌∙◌}
use Rattle.valuegraph.proofs.Making.{single-ready}
use Rattle.valuegraph.proofs.nodes.single.Goals as goal

pub append_short-requires : goal.append_short-requires
append_short-requires c =
    single-ready _ _ c.requires.heap c.requires.room c.requires.part_lt_top.0 c.requires.part_lt_top.1 c.print_of.ensures c.mix-print.ensures
    (c.from-n.ensures ∙ c.length_of.ensures)
