use native.Mathlib.Omega.{arith}
use mathlib.Core.Path.{refl, subst, sym, ◌∙◌}
use borrow.Author.Tests.{not-true, not-false}
use Rattle.program.specs.Parts.{TypeField}
use Rattle.entries.proofs.Tallies.{counts-next}
use Rattle.calls.proofs.Entries.{below_wider}
use Rattle.entries.proofs.Types.{types-start, types_more, types_stop, types-end}
use Rattle.entries.proofs.testing.test_types.Goals as goal

pub loop-i-init : goal.loop-i-init
loop-i-init c =
    (refl, refl, types-start _ _ _ _ _ c.requires.nodes_value refl)

pub bounds-types-i : goal.bounds-types-i
bounds-types-i c =
    omega arith

pub test_type-requires : goal.test_type-requires
test_type-requires c =
    subst (TypeField _) (sym c.from-at.ensures) (c.requires.by_index c.loop-i.i (omega arith))

pub returns-then-not-test_type : goal.returns-then-not-test_type
returns-then-not-test_type c =
    types_stop _ _ c.loop-i.i _ (omega arith) c.from-at.ensures _ _ _ c.loop-i.invariant.2
    c.test_type.result c.test_type.ensures (not-true c.test_type.result c.if-not-test_type.true-raw)

pub count_nodes-tally-requires-clause-type_field : goal.count_nodes-tally-requires-clause-type_field
count_nodes-tally-requires-clause-type_field c =
    let lower = sym c.test_type.ensures ∙ not-false c.test_type.result c.if-not-test_type.false-raw in
    subst (TypeField _) (sym c.from-at.ensures) (c.requires.by_index c.loop-i.i (omega arith))

pub count_nodes-tally-requires-clause-at_value : goal.count_nodes-tally-requires-clause-at_value
count_nodes-tally-requires-clause-at_value c =
    let lower = sym c.test_type.ensures ∙ not-false c.test_type.result c.if-not-test_type.false-raw in
    below_wider c.loop-i.i _ _ (omega (arith, c.loop-i.invariant.0, c.requires.types_in_bounds.0)) lower

pub count_nodes-tally-requires-clause-tally_of : goal.count_nodes-tally-requires-clause-tally_of
count_nodes-tally-requires-clause-tally_of c =
    let lower = sym c.test_type.ensures ∙ not-false c.test_type.result c.if-not-test_type.false-raw in
    c.loop-i.invariant.2.counts.tally

pub count_nodes-tally-requires-clause-uncounted : goal.count_nodes-tally-requires-clause-uncounted
count_nodes-tally-requires-clause-uncounted c =
    let lower = sym c.test_type.ensures ∙ not-false c.test_type.result c.if-not-test_type.false-raw in
    counts-next _ _ c.loop-i.i _ _ (omega (arith, c.loop-i.invariant.0, c.requires.types_in_bounds.0)) c.loop-i.invariant.2.counts

pub note_free-requires-clause-type_field : goal.note_free-requires-clause-type_field
note_free-requires-clause-type_field c =
    let lower = sym c.test_type.ensures ∙ not-false c.test_type.result c.if-not-test_type.false-raw in
    subst (TypeField _) (sym c.from-at.ensures) (c.requires.by_index c.loop-i.i (omega arith))

pub note_free-requires-clause-at_value : goal.note_free-requires-clause-at_value
note_free-requires-clause-at_value c =
    let lower = sym c.test_type.ensures ∙ not-false c.test_type.result c.if-not-test_type.false-raw in
    below_wider c.loop-i.i _ _ (omega (arith, c.loop-i.invariant.1, c.requires.types_in_bounds.1)) lower

pub note_free-requires-clause-i_in_bounds : goal.note_free-requires-clause-i_in_bounds
note_free-requires-clause-i_in_bounds c =
    let lower = sym c.test_type.ensures ∙ not-false c.test_type.result c.if-not-test_type.false-raw in
    omega (arith, c.loop-i.invariant.1, c.requires.types_in_bounds.1)

pub loop-i-preserved : goal.loop-i-preserved
loop-i-preserved c =
    let lower = sym c.test_type.ensures ∙ not-false c.test_type.result c.if-not-test_type.false-raw in (
      c.count_nodes-tally.auto.nodes ∙ c.loop-i.invariant.0,
      c.note_free.auto.free ∙ c.loop-i.invariant.1,
      types_more _ _ c.loop-i.i _ (omega arith) c.from-at.ensures _ _ _ c.loop-i.invariant.2 _ _ _
          (omega (arith, c.loop-i.invariant.0, c.requires.types_in_bounds.0)) (omega (arith, c.loop-i.invariant.1, c.requires.types_in_bounds.1)) lower
          c.count_nodes-tally.ensures c.note_free.ensures,
    )

pub returns : goal.returns
returns c =
    types-end _ _ c.loop-i.i _ _ _ (omega arith) (omega arith) (omega arith) (omega arith) c.loop-i.invariant.2
