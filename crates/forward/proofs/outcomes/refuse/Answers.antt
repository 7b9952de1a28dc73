use native.Mathlib.Omega.{arith}
use Rattle.forward.specs.declared.outcomes.Refusal.TheVariants.{Fuel, Height, Long, FirstMatch, Stuck}
use Rattle.forward.proofs.Answers.{stops}
use Rattle.forward.proofs.outcomes.refuse.Goals as goal

pub returns-in-Fuel : goal.returns-in-Fuel
returns-in-Fuel c =
    rw c.in-Fuel.is (stops (Fuel _) c.stop.ensures (omega arith))

pub returns-in-Height : goal.returns-in-Height
returns-in-Height c =
    rw c.in-Height.is (stops (Height _) c.stop-in-Height.ensures (omega arith))

pub returns-in-Long : goal.returns-in-Long
returns-in-Long c =
    rw c.in-Long.is (stops (Long _) c.stop-in-Long.ensures (omega arith))

pub returns-in-FirstMatch : goal.returns-in-FirstMatch
returns-in-FirstMatch c =
    rw c.in-FirstMatch.is (stops (FirstMatch _) c.stop-in-FirstMatch.ensures (omega arith))

pub returns-in-Stuck : goal.returns-in-Stuck
returns-in-Stuck c =
    rw c.in-Stuck.is (stops Stuck c.stop-in-Stuck.ensures (omega arith))
