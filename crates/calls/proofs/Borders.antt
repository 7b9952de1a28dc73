-- Border cases, by computation.
use mathlib.Core.Path.{refl}
use package.Rattle.calls.specs.Borders.{copies, of_units, let_fields, unit_lets, doubled, big_types, names_type, pairs_types, higher, wide, with_entries, Edges, Outcomes, Lists}
use package.Rattle.calls.proofs.Compute.{computing}

pub edges : Edges
unfolding computing copies of_units let_fields unit_lets doubled big_types names_type pairs_types higher wide with_entries
edges = record {
  workspace = refl;
  workspace_past = refl;
  workspace_fuel = refl;
  workspace_fuel_past = refl;
  bytes = refl;
  bytes_past = refl;
  parameters = refl;
  parameters_past = refl;
  no_parameters = refl;
  variables = refl;
  variables_past = refl;
  nodes = refl;
  nodes_past = refl;
  nodes_given = refl;
  nodes_given_past = refl;
  value_bytes_lem = refl;
  value_bytes_past = refl;
  ancilla_bytes = refl;
  ancilla_bytes_past = refl;
  height = refl;
  height_past = refl;
  output = refl;
  output_past = refl;
  function_past = refl;
  conversions = refl;
  conversions_past = refl;
  entries = refl;
  entries_past = refl;
  room = refl;
  room_past = refl;
}

pub outcomes : Outcomes
unfolding computing
outcomes = record { clear = refl; clear_refused = refl; clear_2 = refl; untouched = refl; filled = refl; kept = refl }

pub lists : Lists
unfolding computing
lists = record { made = refl; booked = refl; left = refl; again = refl }
