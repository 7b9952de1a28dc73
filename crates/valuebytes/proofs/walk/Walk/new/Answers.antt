use Rattle.rules.specs.Limits.{max_value_bytes}
use Rattle.valuebytes.proofs.walk.Walk.new.Goals as goal

pub returns-clause-cells : goal.returns-clause-cells
unfolding max_value_bytes
returns-clause-cells c =
    c.push.ensures.same.0

pub returns-clause-pending : goal.returns-clause-pending
unfolding max_value_bytes
returns-clause-pending c =
    c.push.ensures.pending
