-- Laws of the workspace that a call needs.
use Prim.Native.Nat.{ℕ, ◌≤◌}
use native.Mathlib.Omega.{arith}
use package.Rattle.rules.specs.Limits.{workspace_base, workspace_per_fuel}
use package.Rattle.calls.specs.Runs.{workspace_for}
use package.Rattle.types.specs.Layout.{typing_bytes}

-- a workspace that is long enough has room for the types that typing makes
pub enough-types : (fuel n : ℕ) → workspace_for fuel ≤ n → typing_bytes ≤ n
unfolding workspace_for workspace_base workspace_per_fuel
enough-types fuel n l = omega arith
