-- A run of a call that was admitted, in either direction: what is asked at its start holds.
use Prim.Native.Nat.{ℕ, ◌+◌, ◌*◌, ◌≤◌, ◌<◌}
use native.Mathlib.Omega.{arith}
use mathlib.Core.Path.{◌≡◌, refl, sym, ap₂, subst}
use mathlib.Core.Option.{some}
use mathlib.Core.List.{List, map}
use lib.ListN.{length, get_or, length-map}
use package.Rattle.rules.specs.Limits.{max_variables, max_nodes, max_parameters, workspace_base, workspace_per_fuel, max_ancilla_bytes, max_value_bytes}
use package.Rattle.rules.specs.Ty.{Ty}
use package.Rattle.rules.specs.Term.{Fun, nth}
use package.Rattle.rules.proofs.Preserve.{env-length}
use package.Rattle.calls.specs.Entries.{TypeEntry, type_at, type_of, function_at, function_of, entries_at}
use package.Rattle.calls.specs.Values.{value, ancillae}
use package.Rattle.calls.specs.Runs.{workspace_for}
use package.Rattle.calls.proofs.Runs.Parts.{Admits, admit_iff}
use package.Rattle.program.specs.Parts.{FunctionField}
use package.Rattle.program.specs.Programs.{program_in, function_in}
use package.Rattle.program.proofs.Lists.{ancillae-count}
use package.Rattle.decoded.specs.Rows.{function_count, parameters_in, Rows, program_in as decodedProgram}
use package.Rattle.decoded.specs.Decoding.{FieldsOfTerms, FieldsOfFunctions, Decodes}
use package.Rattle.decoded.proofs.Trees.{called-tree, called-only}
use package.Rattle.decoded.proofs.Accepted.{accepted-terms, accepted-functions, accepted-rows, decoded-program}
use package.Rattle.valuegraph.specs.Nodes.{node_bytes}
use package.Rattle.scopes.specs.Slots.{unknown}
use package.Rattle.scopes.specs.Cells.{cell_count}
use package.Rattle.forward.specs.Outcomes.{stopped}
use package.Rattle.valuebytes.specs.Ends.{values_in}
use package.Rattle.admission.specs.Given.{given_in}
use package.Rattle.runs.specs.declared.begin.Start.{Start}
use package.Rattle.runs.specs.Begun.{start_nodes, Beginning, Begun}
use package.Rattle.runs.specs.Ahead.{Allowed}
use package.Rattle.rules.specs.Val.{Val}
use package.Rattle.rules.specs.Run.{Res, stuck}
use package.Rattle.backward.specs.declared.outcomes.Refusal.{Refusal}
use package.Rattle.backward.specs.declared.outcomes.Refusal.TheVariants.{Fuel, Height, Long, FirstMatch, NoInput, Stuck}
use package.Rattle.backward.specs.Outcomes.{refusal_of}
use package.Rattle.runs.specs.Ended.{Shaped}

----------------------------------------------------------------
-- What is asked at the start

module _ {side : Fun → Ty} {xs terms functions heap : List ℕ} {g : ℕ} {anc bytes : List ℕ} {fuel : ℕ} (R : Allowed side xs terms functions heap g anc bytes fuel) where
  pub admits : Admits (program_in xs R.types terms functions) g (ancillae anc) (value bytes) side (given_in xs R.types terms functions g anc bytes)
  admits = (admit_iff (program_in xs R.types terms functions) g (ancillae anc) (value bytes) side (given_in xs R.types terms functions g anc bytes)).0 R.given

  -- what decoding asks
  pub decode_asks : FieldsOfTerms xs terms × FieldsOfFunctions xs functions
  decode_asks = (
    accepted-terms R.loaded.read R.loaded.tested max_variables max_nodes (omega arith) R.loaded.typed,
    accepted-functions R.loaded.read,
  )

  module _ {code : List ℕ} (D : Decodes code xs terms functions) where
    pub rows : Rows code
    rows = accepted-rows R.loaded.read R.loaded.tested D

    abbrev types-read : List TypeEntry
    types-read = map (type_at xs) R.types

    -- the function that is called
    pub in_rows : g < function_count code
    unfolding entries_at
    in_rows = (called-only code types-read g (subst (λ P. nth P g ≡ some (given_in xs R.types terms functions g anc bytes).fun) (sym (decoded-program D types-read)) admits.function)).0

    pub there : g < length functions
    there = omega (arith, in_rows, D.as_many_functions)

    field : FunctionField xs (get_or functions g 0)
    field = (accepted-functions R.loaded.read).field g there

    -- an ancilla for each parameter but the last
    pub as_many : length (values_in anc) + 1 ≡ parameters_in code g
    unfolding function_of
    as_many = omega (
      arith,
      env-length (values_in anc) (function_in xs R.types terms (get_or functions g 0)).ancillae admits.ancillae_typed,
      length-map (function_at xs (get_or functions g 0)).ancillae (type_of (map (type_at xs) R.types)),
      ancillae-count xs (get_or functions g 0),
      (D.function g there).parameters,
      field.some,
    )

    few : length (values_in anc) < max_parameters
    few = omega (arith, as_many, (D.function g there).parameters, field.few)

    pub beginning : {slots : List ℕ} → max_parameters ≤ length slots → Beginning heap slots anc bytes
    unfolding start_nodes max_value_bytes max_ancilla_bytes workspace_for workspace_base workspace_per_fuel
    beginning l = record {
      for_ancillae = record { read = admits.ancillae_read; few = few; slots_there = l; nodes_there = omega (arith, R.enough) };
      read = admits.value_read;
    }

    -- the program and the function are those of the bytes, whatever the types are
    pub same-program : (types : List ℕ) → decodedProgram code (map (type_at xs) types) ≡ program_in xs types terms functions
    unfolding entries_at
    same-program types = decoded-program D (map (type_at xs) types)

    pub same-function : (types : List ℕ) → called-tree code (map (type_at xs) types) g ≡ function_in xs types terms (get_or functions g 0)
    same-function types = ap₂ (function_of (map (type_at xs) types)) D.terms_are (D.function g there).entry

    module _ {heap' slots slots' : List ℕ} {start : Start} (B : Begun heap heap' slots slots' anc bytes start) where
      pub few-arguments : start.count < max_parameters
      few-arguments = omega (arith, B.count, few)

      -- two nodes for each unit of fuel, after those of the values
      pub nodes_room : node_bytes * (start.top + 2 * fuel) ≤ length heap'
      unfolding start_nodes max_value_bytes max_ancilla_bytes workspace_for workspace_base workspace_per_fuel
      nodes_room = omega (arith, R.enough, B.few, B.heap_length)

      -- every node is an answer
      pub nodes-answer : fuel < 65536 → start.top + fuel ≤ stopped
      unfolding start_nodes max_value_bytes max_ancilla_bytes
      nodes-answer l = omega (arith, B.few)

      -- every node may be named by a cell
      pub nodes_cells : fuel < 65536 → start.top + 2 * fuel ≤ cell_count
      unfolding start_nodes max_value_bytes max_ancilla_bytes
      nodes_cells l = omega (arith, B.few)

      pub nodes-small : fuel < 65536 → start.top + fuel ≤ unknown
      unfolding start_nodes max_value_bytes max_ancilla_bytes unknown
      nodes-small l = omega (arith, B.few)

----------------------------------------------------------------
-- The answer

-- a refusal that is not stuck is one of section 4's
pub shaped_of : (w : Refusal) → (◌≡◌ {A = Res Val} (refusal_of w) stuck → ⊥) → Shaped w
unfolding refusal_of
shaped_of (Fuel t) s = tt
shaped_of (Height t) s = tt
shaped_of (Long t) s = tt
shaped_of (FirstMatch t) s = tt
shaped_of (NoInput t) s = tt
shaped_of Stuck s = s refl
