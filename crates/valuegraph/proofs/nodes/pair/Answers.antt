use mathlib.Core.Path.{◌∙◌}
use Rattle.valuegraph.specs.Nodes.{of_kind}
use Rattle.valuegraph.proofs.Making.{pair-ready}
use Rattle.valuegraph.proofs.nodes.pair.Goals as goal

pub append_short-requires : goal.append_short-requires
append_short-requires c =
    pair-ready _ _ c.requires.heap c.requires.room c.requires.left_lt_top.0 c.requires.left_lt_top.1 c.print_of.ensures c.print_of-2.ensures c.mix-print.ensures
    (c.from-n.ensures ∙ c.length_of.ensures) (c.from-m.ensures ∙ c.length_of-2.ensures)

pub returns : goal.returns
unfolding of_kind
returns c =
    c.append_short.ensures
