use Rattle.backward.specs.Outcomes.{carried}
use native.Mathlib.Omega.{arith}
use Rattle.backward.proofs.Stops.{numbers-carried, numbers-no_input}
use Rattle.backward.proofs.outcomes.stop_of.Goals as goal

pub returns-in-Fuel : goal.returns-in-Fuel
unfolding carried
returns-in-Fuel c =
    rw c.in-Fuel.is (numbers-carried _ c.refuse.ensures.status)

pub returns-in-Height : goal.returns-in-Height
unfolding carried
returns-in-Height c =
    rw c.in-Height.is (numbers-carried _ c.refuse-in-Height.ensures.status)

pub returns-in-Long : goal.returns-in-Long
unfolding carried
returns-in-Long c =
    rw c.in-Long.is (numbers-carried _ c.refuse-in-Long.ensures.status)

pub returns-in-FirstMatch : goal.returns-in-FirstMatch
unfolding carried
returns-in-FirstMatch c =
    rw c.in-FirstMatch.is (numbers-carried _ c.refuse-in-FirstMatch.ensures.status)

pub returns-in-Stuck : goal.returns-in-Stuck
unfolding carried
returns-in-Stuck c =
    rw c.in-Stuck.is (numbers-carried _ c.refuse-in-Stuck.ensures.status)

pub returns-in-NoInput : goal.returns-in-NoInput
returns-in-NoInput c =
    rw (c.in-NoInput.is, c.from.ensures) (numbers-no_input c.in-NoInput.t (omega arith))
