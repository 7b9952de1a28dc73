use native.Mathlib.Omega.{arith}
use mathlib.Core.Path.{sym, ap, ◌∙◌}
use Rattle.program.specs.KindNumbers.{type_kind_number}
use Rattle.program.specs.declared.kinds.TypeKind.TheVariants as T
use Rattle.program.proofs.Rooms.{prod-room}
use Rattle.types.proofs.Entries.{product-asked}
use Rattle.types.proofs.Tracing.{kind-is}
use Rattle.types.proofs.hints.put_entry.Goals as goal

pub first-requires : goal.first-requires
first-requires c =
    let is = kind-is {k' = T.Product} c.eq.ensures c.if-eq.true in
    omega (arith, prod-room c.requires.type_field.0 (sym c.type_kind.ensures ∙ ap type_kind_number is))

pub number_of-requires : goal.number_of-requires
number_of-requires c =
    let is = kind-is {k' = T.Product} c.eq.ensures c.if-eq.true in
    let l = product-asked c.args.ws.now c.args.p.now c.args.at c.requires.at_value (ap type_kind_number (sym is) ∙ c.type_kind.ensures) in
    omega (arith, c.first.ensures, l.0)

pub second-requires : goal.second-requires
second-requires c =
    let is = kind-is {k' = T.Product} c.eq.ensures c.if-eq.true in
    prod-room c.requires.type_field.0 (sym c.type_kind.ensures ∙ ap type_kind_number is)

pub number_of-requires-then-eq : goal.number_of-requires-then-eq
number_of-requires-then-eq c =
    let is = kind-is {k' = T.Product} c.eq.ensures c.if-eq.true in
    let l = product-asked c.args.ws.now c.args.p.now c.args.at c.requires.at_value (ap type_kind_number (sym is) ∙ c.type_kind.ensures) in
    omega (arith, c.second.ensures, l.1)
