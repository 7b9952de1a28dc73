use native.Mathlib.Omega.{arith}
use mathlib.Core.Path.{◌≡◌, sym, ◌∙◌}
use borrow.Author.Rules.{rules}
use Rattle.types.proofs.Equal.{node-of, one_code, other-numbers, product-fewer, sum-fewer, recursive-fewer, units, variables, recursives}
use Rattle.types.proofs.Equal.{products_differ, sums_differ, products, sums, others, not-unit, not-product, not-sum, not-recursive, not-variable}
use Rattle.types.proofs.basis.Basis.+same_nodes.Goals as goal

pub returns-then-eq : goal.returns-then-eq
returns-then-eq t c =
    let q : c.settled-v.result ≡ c.settled-w.result = search rules in
    one_code c.settled-v.ensures c.settled-w.ensures q

pub returns-in-Entry-Entry : goal.returns-in-Entry-Entry
returns-in-Entry-Entry t c =
    other-numbers c.args.self.now.sources c.settled-v.ensures c.settled-w.ensures c.in-Entry-Entry.is-0 c.in-Entry-Entry.is-1 (search rules)

pub returns-in-Unit-Unit : goal.returns-in-Unit-Unit
returns-in-Unit-Unit t c =
    units (node-of c.settled-v.ensures (sym c.in-Unit-Unit.is-0 ∙ c.plain.ensures)) (node-of c.settled-w.ensures (sym c.in-Unit-Unit.is-1 ∙ c.plain-2.ensures))

pub same_nodes-requires : goal.same_nodes-requires
same_nodes-requires t c =
    let p = (node-of c.settled-v.ensures (sym c.in-Product-Product.is-0 ∙ c.plain.ensures)) in
    let q = (node-of c.settled-w.ensures (sym c.in-Product-Product.is-1 ∙ c.plain-2.ensures)) in
    (omega (arith, c.decreases, (product-fewer p).0), (p.parts.0, q.parts.0))

pub same_nodes-requires-then-same_nodes : goal.same_nodes-requires-then-same_nodes
same_nodes-requires-then-same_nodes t c =
    let p = (node-of c.settled-v.ensures (sym c.in-Product-Product.is-0 ∙ c.plain.ensures)) in
    let q = (node-of c.settled-w.ensures (sym c.in-Product-Product.is-1 ∙ c.plain-2.ensures)) in
    (omega (arith, c.decreases, (product-fewer p).1), (p.parts.1, q.parts.1))

pub same_nodes-requires-in-Sum-Sum : goal.same_nodes-requires-in-Sum-Sum
same_nodes-requires-in-Sum-Sum t c =
    let p = (node-of c.settled-v.ensures (sym c.in-Sum-Sum.is-0 ∙ c.plain.ensures)) in
    let q = (node-of c.settled-w.ensures (sym c.in-Sum-Sum.is-1 ∙ c.plain-2.ensures)) in
    (omega (arith, c.decreases, (sum-fewer p).0), (p.parts.0, q.parts.0))

pub same_nodes-requires-then-same_nodes-2 : goal.same_nodes-requires-then-same_nodes-2
same_nodes-requires-then-same_nodes-2 t c =
    let p = (node-of c.settled-v.ensures (sym c.in-Sum-Sum.is-0 ∙ c.plain.ensures)) in
    let q = (node-of c.settled-w.ensures (sym c.in-Sum-Sum.is-1 ∙ c.plain-2.ensures)) in
    (omega (arith, c.decreases, (sum-fewer p).1), (p.parts.1, q.parts.1))

pub same_nodes-requires-in-Recursive-Recursive : goal.same_nodes-requires-in-Recursive-Recursive
same_nodes-requires-in-Recursive-Recursive t c =
    let p = (node-of c.settled-v.ensures (sym c.in-Recursive-Recursive.is-0 ∙ c.plain.ensures)) in
    let q = (node-of c.settled-w.ensures (sym c.in-Recursive-Recursive.is-1 ∙ c.plain-2.ensures)) in
    (omega (arith, c.decreases, recursive-fewer p), (p.parts, q.parts))

pub returns-in-Recursive-Recursive : goal.returns-in-Recursive-Recursive
returns-in-Recursive-Recursive t c =
    recursives (node-of c.settled-v.ensures (sym c.in-Recursive-Recursive.is-0 ∙ c.plain.ensures))
    (node-of c.settled-w.ensures (sym c.in-Recursive-Recursive.is-1 ∙ c.plain-2.ensures)) c.same_nodes-in-Recursive-Recursive.ensures

pub returns-in-Variable-Variable : goal.returns-in-Variable-Variable
returns-in-Variable-Variable t c =
    variables (node-of c.settled-v.ensures (sym c.in-Variable-Variable.is-0 ∙ c.plain.ensures))
    (node-of c.settled-w.ensures (sym c.in-Variable-Variable.is-1 ∙ c.plain-2.ensures))

pub returns-then-same_nodes : goal.returns-then-same_nodes
returns-then-same_nodes t c =
    products c.same_nodes.ensures c.if-same_nodes.true c.same_nodes-then-same_nodes.ensures
    (node-of c.settled-v.ensures (sym c.in-Product-Product.is-0 ∙ c.plain.ensures))
    (node-of c.settled-w.ensures (sym c.in-Product-Product.is-1 ∙ c.plain-2.ensures))

pub returns-else-same_nodes : goal.returns-else-same_nodes
returns-else-same_nodes t c =
    c.if-same_nodes.false ∙ products_differ c.same_nodes.ensures
    (node-of c.settled-v.ensures (sym c.in-Product-Product.is-0 ∙ c.plain.ensures))
    (node-of c.settled-w.ensures (sym c.in-Product-Product.is-1 ∙ c.plain-2.ensures)) c.if-same_nodes.false

pub returns-then-same_nodes-2 : goal.returns-then-same_nodes-2
returns-then-same_nodes-2 t c =
    sums c.same_nodes-in-Sum-Sum.ensures c.if-same_nodes-2.true c.same_nodes-then-same_nodes-2.ensures
    (node-of c.settled-v.ensures (sym c.in-Sum-Sum.is-0 ∙ c.plain.ensures)) (node-of c.settled-w.ensures (sym c.in-Sum-Sum.is-1 ∙ c.plain-2.ensures))

pub returns-else-same_nodes-2 : goal.returns-else-same_nodes-2
returns-else-same_nodes-2 t c =
    c.if-same_nodes-2.false ∙ sums_differ c.same_nodes-in-Sum-Sum.ensures
    (node-of c.settled-v.ensures (sym c.in-Sum-Sum.is-0 ∙ c.plain.ensures)) (node-of c.settled-w.ensures (sym c.in-Sum-Sum.is-1 ∙ c.plain-2.ensures))
    c.if-same_nodes-2.false

pub returns-in_default-2 : goal.returns-in_default-2
returns-in_default-2 t c =
    others (node-of c.settled-v.ensures c.plain.ensures) (node-of c.settled-w.ensures c.plain-2.ensures)
    (not-unit c.in_default-2.is-0 c.in_default-2.not-Unit-1)

pub returns-in_default-2-2 : goal.returns-in_default-2-2
returns-in_default-2-2 t c =
    others (node-of c.settled-v.ensures c.plain.ensures) (node-of c.settled-w.ensures c.plain-2.ensures)
    (not-product c.in_default-2.is-0 c.in_default-2.not-Product-1)

pub returns-in_default-2-3 : goal.returns-in_default-2-3
returns-in_default-2-3 t c =
    others (node-of c.settled-v.ensures c.plain.ensures) (node-of c.settled-w.ensures c.plain-2.ensures) (not-sum c.in_default-2.is-0 c.in_default-2.not-Sum-1)

pub returns-in_default-2-4 : goal.returns-in_default-2-4
returns-in_default-2-4 t c =
    others (node-of c.settled-v.ensures c.plain.ensures) (node-of c.settled-w.ensures c.plain-2.ensures)
    (not-recursive c.in_default-2.is-0 c.in_default-2.not-Recursive-1)

pub returns-in_default-2-5 : goal.returns-in_default-2-5
returns-in_default-2-5 t c =
    others (node-of c.settled-v.ensures c.plain.ensures) (node-of c.settled-w.ensures c.plain-2.ensures)
    (not-variable c.in_default-2.is-0 c.in_default-2.not-Variable-1)
