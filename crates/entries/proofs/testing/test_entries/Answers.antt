use native.Mathlib.Omega.{arith}
use Rattle.entries.proofs.Tallies.{no-counts-sized}
use Rattle.entries.proofs.Whole.{placed-formed, types-few, types-sound, entries-sound, entries_stop}
use Rattle.entries.proofs.testing.test_entries.Goals as goal

pub test_types-tested-requires-clause-by_index : goal.test_types-tested-requires-clause-by_index
test_types-tested-requires-clause-by_index c =
    let few = types-few c.requires.placed in
    (placed-formed c.requires.placed).types

pub test_types-tested-requires-clause-nodes_value : goal.test_types-tested-requires-clause-nodes_value
test_types-tested-requires-clause-nodes_value c =
    let few = types-few c.requires.placed in
    c.requires.nodes_value

pub test_types-tested-requires-clause-types_in_bounds : goal.test_types-tested-requires-clause-types_in_bounds
test_types-tested-requires-clause-types_in_bounds c =
    let few = types-few c.requires.placed in
    (omega (arith, few, no-counts-sized c.requires.nodes_value), omega (arith, few))

pub invariant_of-figured : goal.invariant_of-figured
invariant_of-figured c = record {
  formed = placed-formed c.requires.placed;
  measured = types-sound _ _ _ _ _ c.test_types-tested.ensures c.in-Ok.is;
}

pub returns-in-Ok : goal.returns-in-Ok
returns-in-Ok c =
    entries-sound _ _ _ _ _ _ _ c.test_types-tested.ensures c.in-Ok.is c.test_uses-verdict.result
    c.test_uses-verdict.ensures

pub returns-in-Err : goal.returns-in-Err
returns-in-Err c =
    entries_stop _ _ _ _ _ _ _ c.test_types-tested.ensures _ c.in-Err.is
