use mathlib.Core.Path.{ap, ◌∙◌}
use Rattle.valuegraph.specs.Nodes.{kind_number}
use Rattle.valuegraph.proofs.Numbered.{single_of}
use Rattle.valuegraph.proofs.Loading.{place-unit, place-pair, place-single}
use Rattle.valuegraph.proofs.nodes.place.Goals as goal

pub returns-in-Unit : goal.returns-in-Unit
returns-in-Unit c =
    place-unit c.requires (ap kind_number c.in-Unit.is) c.unit.ensures

pub returns-in-Pair : goal.returns-in-Pair
returns-in-Pair c =
    place-pair c.requires (ap kind_number c.in-Pair.is) (c.from-n.ensures ∙ c.length_of.ensures) c.pair.ensures

pub returns-in-Inl : goal.returns-in-Inl
returns-in-Inl c =
    place-single c.requires (single_of c.in-Inl.is) c.single.ensures
