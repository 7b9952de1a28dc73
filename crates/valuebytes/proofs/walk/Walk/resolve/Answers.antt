use native.Mathlib.Omega.{arith}
use Rattle.rules.specs.Limits.{max_value_bytes}
use Rattle.valuebytes.proofs.Cells.{variable-not, variable-room, variable-cells, variable-is}
use Rattle.valuebytes.proofs.walk.Walk.resolve.Goals as goal

pub returns-in_default : goal.returns-in_default
returns-in_default c =
    variable-not c.args.table.now.program.now c.args.table.now.types.now c.args.self.now.cells c.args.t c.args.table.now.read
    c.requires.cells c.requires.bound c.field-at.ensures.offset c.type_kind.ensures c.in_default.not-Variable

pub variable-k-requires : goal.variable-k-requires
variable-k-requires c =
    variable-room c.args.table.now.program.now c.args.table.now.types.now c.args.self.now.cells c.args.t c.args.table.now.read
    c.requires.cells c.requires.bound c.field-at.ensures.offset c.type_kind.ensures c.in-Variable.is

pub enclosing-cell-requires : goal.enclosing-cell-requires
enclosing-cell-requires c =
    let w = variable-cells c.args.table.now.program.now c.args.table.now.types.now c.args.self.now.cells c.args.t c.args.table.now.read
    c.requires.cells c.requires.bound c.field-at.ensures.offset c.type_kind.ensures c.in-Variable.is c.variable-k.ensures in
    λ n h. omega (arith, c.requires.cell_lt_room, (w n (omega arith)).1)

pub bounds-self-from : goal.bounds-self-from
unfolding max_value_bytes
bounds-self-from c =
    let w = variable-cells c.args.table.now.program.now c.args.table.now.types.now c.args.self.now.cells c.args.t c.args.table.now.read
    c.requires.cells c.requires.bound c.field-at.ensures.offset c.type_kind.ensures c.in-Variable.is c.variable-k.ensures in
    omega (arith, c.from.ensures, c.enclosing-cell.ensures, (w c.variable-k.result (omega arith)).1, c.requires.cell_lt_room)

pub returns : goal.returns
returns c =
    variable-is c.args.table.now.program.now c.args.table.now.types.now c.args.self.now.cells c.args.t c.args.table.now.read
    c.requires.cells c.requires.bound c.field-at.ensures.offset c.type_kind.ensures c.in-Variable.is c.variable-k.ensures c.from.ensures c.enclosing-cell.ensures
