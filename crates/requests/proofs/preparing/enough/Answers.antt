use mathlib.Core.Path.{ap}
use lib.Dec.{leb}
use Rattle.rules.specs.Limits.{workspace_base, workspace_per_fuel}
use Rattle.calls.specs.Runs.{workspace_for}
use Rattle.requests.proofs.preparing.enough.Goals as goal

pub returns : goal.returns
unfolding workspace_for workspace_base workspace_per_fuel
returns c =
    ap (λ k. leb (workspace_for k) c.args.n) c.from.ensures
