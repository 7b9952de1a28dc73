use native.Mathlib.Omega.{arith}
use mathlib.Core.Path.{sym, ap, refl, ◌∙◌}
use lib.ListN.{get_or}
use Rattle.program.specs.KindNumbers.{type_kind_number}
use Rattle.types.proofs.Outer.{mu-there, two-there}
use Rattle.types.proofs.Tracing.{still, own-there, recursive-part, first-part, second-part, two-kinds}
use Rattle.types.proofs.aliases.Search.+trace.Goals as goal

pub first-requires : goal.first-requires
first-requires t c =
    let own = own-there c.requires.traceable c.requires.part_in_bounds.0 c.number_of-i.ensures in
    mu-there c.requires.traceable.entries own.0 c.from-3.ensures c.from-at.ensures (ap type_kind_number (sym c.in-Recursive.is) ∙ c.type_kind-kind.ensures) refl

pub trace-body-requires : goal.trace-body-requires
trace-body-requires t c =
    let low = recursive-part c.requires.traceable c.requires.part_in_bounds.0 c.number_of-i.ensures
    (c.from-at.ensures ∙ ap (λ n. get_or c.args.self.now.types.now n 0) c.from-3.ensures)
    (ap type_kind_number (sym c.in-Recursive.is) ∙ c.type_kind-kind.ensures) c.first.ensures in
    (omega (arith, c.decreases, low.0), (c.requires.traceable, (low.1, c.requires.part_in_bounds.1, omega (arith, c.requires.part_in_bounds.2, low.0))))

pub first-requires-in-Product : goal.first-requires-in-Product
first-requires-in-Product t c =
    let own = own-there c.requires.traceable c.requires.part_in_bounds.0 c.number_of-i.ensures in
    let two = two-kinds c.in-Product.is in
    omega (arith, two-there c.requires.traceable.entries own.0 c.from-3.ensures c.from-at.ensures c.type_kind-kind.ensures two.0 two.1)

pub second-requires : goal.second-requires
second-requires t c =
    let own = own-there c.requires.traceable c.requires.part_in_bounds.0 c.number_of-i.ensures in
    let two = two-kinds c.in-Product.is in
    two-there c.requires.traceable.entries own.0 c.from-3.ensures c.from-at.ensures c.type_kind-kind.ensures two.0 two.1

pub trace-left-requires : goal.trace-left-requires
trace-left-requires t c =
    let two = two-kinds c.in-Product.is in
    let low = first-part c.requires.traceable c.requires.part_in_bounds.0 c.number_of-i.ensures
    (c.from-at.ensures ∙ ap (λ n. get_or c.args.self.now.types.now n 0) c.from-3.ensures) c.type_kind-kind.ensures two.0 two.1 c.first-in-Product.ensures in
    (omega (arith, c.decreases, low.0), (c.requires.traceable, (low.1, c.requires.part_in_bounds.1, omega (arith, c.requires.part_in_bounds.2, low.0))))

pub trace-right-requires : goal.trace-right-requires
trace-right-requires t c =
    let two = two-kinds c.in-Product.is in
    let low = second-part c.requires.traceable c.requires.part_in_bounds.0 c.number_of-i.ensures
    (c.from-at.ensures ∙ ap (λ n. get_or c.args.self.now.types.now n 0) c.from-3.ensures) c.type_kind-kind.ensures two.0 two.1 c.second.ensures in (
      omega (arith, c.decreases, low.0),
      (still c.requires.traceable c.trace-left.ensures, (low.1, c.requires.part_in_bounds.1, omega (arith, c.requires.part_in_bounds.2, low.0))),
    )
