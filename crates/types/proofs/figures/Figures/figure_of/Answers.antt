use native.Mathlib.Omega.{arith}
use mathlib.Core.Path.{sym}
use Rattle.program.proofs.Rooms.{prod-room, sum_room, mu-room, tyvar-room}
use Rattle.types.proofs.Entries.{unit_figure, product_figure, sum_figure, recursive_figure, bound_figure, product-asked, sum-asked, recursive-asked}
use Rattle.types.proofs.figures.Figures.figure_of.Goals as goal

pub first-requires-in-Recursive : goal.first-requires-in-Recursive
first-requires-in-Recursive c =
    mu-room c.requires.type_field (sym c.in-Recursive.ensures)

pub recursive-requires : goal.recursive-requires
recursive-requires c =
    (omega (arith, c.first-in-Recursive.ensures, recursive-asked c.args.self.now.ws.now c.args.p.now c.args.at c.requires.at_value c.in-Recursive.ensures))

pub variable-requires : goal.variable-requires
variable-requires c =
    tyvar-room c.requires.type_field (sym c.in-Variable.ensures)

pub first-requires : goal.first-requires
first-requires c =
    omega (arith, prod-room c.requires.type_field (sym c.in-Product.ensures))

pub second-requires : goal.second-requires
second-requires c =
    prod-room c.requires.type_field (sym c.in-Product.ensures)

pub two-requires : goal.two-requires
two-requires c =
    let l = product-asked c.args.self.now.ws.now c.args.p.now c.args.at c.requires.at_value c.in-Product.ensures in
    (omega (arith, c.first.ensures, l.0), omega (arith, c.second.ensures, l.1))

pub first-requires-in-Sum : goal.first-requires-in-Sum
first-requires-in-Sum c =
    omega (arith, sum_room c.requires.type_field (sym c.in-Sum.ensures))

pub second-requires-in-Sum : goal.second-requires-in-Sum
second-requires-in-Sum c =
    sum_room c.requires.type_field (sym c.in-Sum.ensures)

pub two-requires-in-Sum : goal.two-requires-in-Sum
two-requires-in-Sum c =
    let l = sum-asked c.args.self.now.ws.now c.args.p.now c.args.at c.requires.at_value c.in-Sum.ensures in
    (omega (arith, c.first-in-Sum.ensures, l.0), omega (arith, c.second-in-Sum.ensures, l.1))

pub returns-in-Unit : goal.returns-in-Unit
returns-in-Unit c =
    unit_figure c.args.self.now.ws.now c.args.p.now c.args.at c.in-Unit.ensures

pub returns-in-Product : goal.returns-in-Product
returns-in-Product c =
    product_figure c.args.self.now.ws.now c.args.p.now c.args.at c.first.ensures c.second.ensures c.in-Product.ensures c.two.ensures

pub returns-in-Sum : goal.returns-in-Sum
returns-in-Sum c =
    sum_figure c.args.self.now.ws.now c.args.p.now c.args.at c.first-in-Sum.ensures c.second-in-Sum.ensures c.in-Sum.ensures c.two-in-Sum.ensures

pub returns-in-Recursive : goal.returns-in-Recursive
returns-in-Recursive c =
    recursive_figure c.args.self.now.ws.now c.args.p.now c.args.at c.in-Recursive.ensures c.first-in-Recursive.ensures c.recursive.ensures

pub returns-in-Variable : goal.returns-in-Variable
returns-in-Variable c =
    bound_figure c.args.self.now.ws.now c.args.p.now c.args.at c.in-Variable.ensures c.variable.ensures c.bound.ensures
