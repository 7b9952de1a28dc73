use mathlib.Core.Path.{subst}
use Rattle.runs.specs.Ended.{Shaped}
use Rattle.runs.proofs.Ends.{refused-fuel, refused-height, refused-long, refused_match, refused_input}
use Rattle.runs.proofs.ended.refuse.Goals as goal

pub returns-in-Fuel : goal.returns-in-Fuel
returns-in-Fuel c =
    refused-fuel _ _ c.in-Fuel.is

pub returns-in-Height : goal.returns-in-Height
returns-in-Height c =
    refused-height _ _ c.in-Height.is

pub returns-in-Long : goal.returns-in-Long
returns-in-Long c =
    refused-long _ _ c.in-Long.is

pub returns-in-FirstMatch : goal.returns-in-FirstMatch
returns-in-FirstMatch c =
    refused_match _ _ c.in-FirstMatch.is

pub returns-in-NoInput : goal.returns-in-NoInput
returns-in-NoInput c =
    refused_input _ _ c.in-NoInput.is

pub returns-in-Stuck : goal.returns-in-Stuck
returns-in-Stuck c =
    absurd (subst Shaped c.in-Stuck.is c.requires)
