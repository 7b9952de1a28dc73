use mathlib.Core.Path.{ap, ◌∙◌}
use lib.ListN.{get_or}
use Rattle.types.proofs.Outer.{names_by}
use Rattle.types.proofs.Counts.{unit-counted, entry-counted, product-counted, under-each, under-counted}
use Rattle.types.proofs.basis.Basis.node_count.Goals as goal

pub under_count-requires-clause-stands_in_bounds : goal.under_count-requires-clause-stands_in_bounds
under_count-requires-clause-stands_in_bounds c =
    let l = names_by c.in-Under.is c.requires.known in
    under-each c.args.self.now.sources c.requires.counted c.in-Under.i c.in-Under.j l.0 l.1

pub returns-in-Unit : goal.returns-in-Unit
returns-in-Unit c =
    rw c.in-Unit.is (unit-counted c.args.self.now.sources c.requires.counted)

pub returns-in-Entry : goal.returns-in-Entry
returns-in-Entry c =
    rw c.in-Entry.is (ap (λ i. get_or c.args.counts.now i 0) c.from.ensures
    ∙ entry-counted c.args.self.now.sources c.requires.counted c.in-Entry.i (names_by c.in-Entry.is c.requires.known))

pub returns-in-Under : goal.returns-in-Under
returns-in-Under c =
    let l = names_by c.in-Under.is c.requires.known in
    rw c.in-Under.is (under-counted c.args.self.now.sources c.requires.counted c.in-Under.i c.in-Under.j l.0 l.1 c.under_count.ensures)

pub returns-in-Product : goal.returns-in-Product
returns-in-Product c =
    rw c.in-Product.is (c.count_of.ensures ∙ product-counted c.args.self.now.sources c.requires.counted c.in-Product.n (names_by c.in-Product.is c.requires.known))
