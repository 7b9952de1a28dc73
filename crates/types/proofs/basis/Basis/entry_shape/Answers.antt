use native.Mathlib.Omega.{arith}
use mathlib.Core.Path.{ap, refl, ◌∙◌}
use lib.ListN.{get_or}
use Rattle.types.proofs.Outer.{two-there, mu-there, var-there, first-lower, second-lower, shape-unit, shape-product, shape-sum, shape-recursive, shape-variable}
use Rattle.types.proofs.basis.Basis.entry_shape.Goals as goal

pub first-requires : goal.first-requires
first-requires c =
    omega (
      arith,
      two-there c.args.self.now.sources.entries c.requires.there c.from.ensures c.from-at.ensures c.in-Product.ensures
          (λ z. omega (arith, z)) (omega arith),
    )

pub part-first-requires-clause-room : goal.part-first-requires-clause-room
part-first-requires-clause-room c =
    let low = first-lower c.args.self.now.sources.entries c.requires.there c.from.ensures c.from-at.ensures c.in-Product.ensures (λ z. omega
    (arith, z)) (omega arith) in
    (omega (arith, c.first.ensures, low, c.requires.there, c.args.self.now.sources.entries.few), omega arith)

pub second-requires : goal.second-requires
second-requires c =
    two-there c.args.self.now.sources.entries c.requires.there c.from.ensures c.from-at.ensures c.in-Product.ensures (λ z. omega (arith, z)) (omega arith)

pub part-second-requires-clause-room : goal.part-second-requires-clause-room
part-second-requires-clause-room c =
    let low = second-lower c.args.self.now.sources.entries c.requires.there c.from.ensures c.from-at.ensures c.in-Product.ensures (λ z. omega
    (arith, z)) (omega arith) in
    (omega (arith, c.second.ensures, low, c.requires.there, c.args.self.now.sources.entries.few), omega arith)

pub first-requires-in-Sum : goal.first-requires-in-Sum
first-requires-in-Sum c =
    omega (
      arith,
      two-there c.args.self.now.sources.entries c.requires.there c.from.ensures c.from-at.ensures c.in-Sum.ensures (λ z. omega (arith, z))
          (omega arith),
    )

pub part-first-requires-in-Sum-clause-room : goal.part-first-requires-in-Sum-clause-room
part-first-requires-in-Sum-clause-room c =
    let low = first-lower c.args.self.now.sources.entries c.requires.there c.from.ensures c.from-at.ensures c.in-Sum.ensures (λ z. omega (arith, z))
    (omega arith) in
    (omega (arith, c.first-in-Sum.ensures, low, c.requires.there, c.args.self.now.sources.entries.few), omega arith)

pub second-requires-in-Sum : goal.second-requires-in-Sum
second-requires-in-Sum c =
    two-there c.args.self.now.sources.entries c.requires.there c.from.ensures c.from-at.ensures c.in-Sum.ensures (λ z. omega (arith, z)) (omega arith)

pub part-second-requires-in-Sum-clause-room : goal.part-second-requires-in-Sum-clause-room
part-second-requires-in-Sum-clause-room c =
    let low = second-lower c.args.self.now.sources.entries c.requires.there c.from.ensures c.from-at.ensures c.in-Sum.ensures (λ z. omega (arith, z))
    (omega arith) in
    (omega (arith, c.second-in-Sum.ensures, low, c.requires.there, c.args.self.now.sources.entries.few), omega arith)

pub first-requires-in-Recursive : goal.first-requires-in-Recursive
first-requires-in-Recursive c =
    mu-there c.args.self.now.sources.entries c.requires.there c.from.ensures c.from-at.ensures c.in-Recursive.ensures refl

pub part-body-requires-clause-room : goal.part-body-requires-clause-room
part-body-requires-clause-room c =
    let low = first-lower c.args.self.now.sources.entries c.requires.there c.from.ensures c.from-at.ensures c.in-Recursive.ensures (λ z. omega
    (arith, z)) (omega arith) in
    (omega (arith, c.first-in-Recursive.ensures, low, c.requires.there, c.args.self.now.sources.entries.few), omega arith)

pub variable-requires : goal.variable-requires
variable-requires c =
    var-there c.args.self.now.sources.entries c.requires.there c.from.ensures c.from-at.ensures c.in-Variable.ensures (omega arith) (λ n. omega (arith, n))

pub returns-in-Unit : goal.returns-in-Unit
returns-in-Unit c =
    shape-unit c.args.self.now.program.now c.args.self.now.ws.now c.args.c
    (c.from-at.ensures ∙ ap (λ n. get_or c.args.self.now.types.now n 0) c.from.ensures) c.in-Unit.ensures

pub returns-in-Product : goal.returns-in-Product
returns-in-Product c =
    shape-product c.args.self.now.program.now c.args.self.now.ws.now c.args.c
    (c.from-at.ensures ∙ ap (λ n. get_or c.args.self.now.types.now n 0) c.from.ensures)
    c.first.ensures c.part-first.ensures c.second.ensures c.part-second.ensures c.in-Product.ensures

pub returns-in-Sum : goal.returns-in-Sum
returns-in-Sum c =
    shape-sum c.args.self.now.program.now c.args.self.now.ws.now c.args.c
    (c.from-at.ensures ∙ ap (λ n. get_or c.args.self.now.types.now n 0) c.from.ensures)
    c.first-in-Sum.ensures c.part-first-in-Sum.ensures c.second-in-Sum.ensures c.part-second-in-Sum.ensures c.in-Sum.ensures

pub returns-in-Recursive : goal.returns-in-Recursive
returns-in-Recursive c =
    shape-recursive c.args.self.now.program.now c.args.self.now.ws.now c.args.c
    (c.from-at.ensures ∙ ap (λ n. get_or c.args.self.now.types.now n 0) c.from.ensures)
    c.first-in-Recursive.ensures c.part-body.ensures c.in-Recursive.ensures

pub returns-in-Variable : goal.returns-in-Variable
returns-in-Variable c =
    shape-variable c.args.self.now.program.now c.args.self.now.ws.now c.args.c
    (c.from-at.ensures ∙ ap (λ n. get_or c.args.self.now.types.now n 0) c.from.ensures) c.variable.ensures c.in-Variable.ensures
