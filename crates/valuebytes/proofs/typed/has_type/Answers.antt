use mathlib.Core.Path.{sym, subst, ◌∙◌}
use Rattle.valuebytes.specs.Typing.{Asked}
use Rattle.valuebytes.proofs.Promised.{two-parts}
use Rattle.valuebytes.proofs.Components.{filled, first-value, second-value, parts-plain, pair-no, pair_yes}
use Rattle.valuebytes.proofs.typed.has_type.Goals as goal

pub bounds-s-0 : goal.bounds-s-0
bounds-s-0 c =
    filled _ c.requires.s_value

pub component-requires : goal.component-requires
component-requires c =
    let two = two-parts _ _ _ c.parts.ensures c.in-Some-Two.is c.in-Some-Two.field-0-is in
    (c.requires.s_value, two.1)

pub is_of-requires-clause-asked : goal.is_of-requires-clause-asked
is_of-requires-clause-asked c =
    let two = two-parts _ _ _ c.parts.ensures c.in-Some-Two.is c.in-Some-Two.field-0-is in
    (subst (Asked c.args.table.now.program.now c.args.table.now.types.now) (sym two.2)
    (parts-plain c.args.table.now.program.now c.args.table.now.types.now c.args.table.now.read c.args.entry c.requires.asked.0 two.0 c.requires.asked.1).0)

pub is_of-requires-clause-s_value : goal.is_of-requires-clause-s_value
is_of-requires-clause-s_value c =
    let two = two-parts _ _ _ c.parts.ensures c.in-Some-Two.is c.in-Some-Two.field-0-is in
    first-value _ c.requires.s_value two.1 _ c.component.ensures

pub component-requires-then-is_of : goal.component-requires-then-is_of
component-requires-then-is_of c =
    let two = two-parts _ _ _ c.parts.ensures c.in-Some-Two.is c.in-Some-Two.field-0-is in
    (c.requires.s_value, two.1)

pub is_of-requires-then-is_of-clause-asked : goal.is_of-requires-then-is_of-clause-asked
is_of-requires-then-is_of-clause-asked c =
    let two = two-parts _ _ _ c.parts.ensures c.in-Some-Two.is c.in-Some-Two.field-0-is in
    (subst (Asked c.args.table.now.program.now c.args.table.now.types.now) (sym two.3)
    (parts-plain c.args.table.now.program.now c.args.table.now.types.now c.args.table.now.read c.args.entry c.requires.asked.0 two.0 c.requires.asked.1).1)

pub is_of-requires-then-is_of-clause-s_value : goal.is_of-requires-then-is_of-clause-s_value
is_of-requires-then-is_of-clause-s_value c =
    let two = two-parts _ _ _ c.parts.ensures c.in-Some-Two.is c.in-Some-Two.field-0-is in
    second-value _ c.requires.s_value two.1 _ c.component-then-is_of.ensures

pub returns-then-is_of : goal.returns-then-is_of
returns-then-is_of c =
    let two = two-parts _ _ _ c.parts.ensures c.in-Some-Two.is c.in-Some-Two.field-0-is in
    pair_yes _ _ c.args.table.now.read c.args.entry c.requires.asked.0 two.0 _ c.requires.s_value two.1 two.2 two.3 _
    c.component.ensures c.is_of.ensures c.if-is_of.true _ c.component-then-is_of.ensures c.is_of-then-is_of.ensures

pub returns-else-is_of : goal.returns-else-is_of
returns-else-is_of c =
    let two = two-parts _ _ _ c.parts.ensures c.in-Some-Two.is c.in-Some-Two.field-0-is in
    c.if-is_of.false ∙ pair-no _ _ c.args.table.now.read c.args.entry c.requires.asked.0 two.0 _ c.requires.s_value two.1 two.2 two.3 _
    c.component.ensures c.is_of.ensures c.if-is_of.false
