use Rattle.forward.proofs.Leaves.{roll-held, roll_missing}
use Rattle.forward.proofs.outcomes.unrolled.Goals as goal

pub kind_of-requires : goal.kind_of-requires
kind_of-requires c =
    c.requires

pub left_of-requires : goal.left_of-requires
left_of-requires c =
    c.requires

pub returns-in-Roll : goal.returns-in-Roll
returns-in-Roll c =
    roll-held c.kind_of.ensures c.in-Roll.is c.left_of.ensures

pub returns-in_default : goal.returns-in_default
returns-in_default c =
    roll_missing c.kind_of.ensures c.in_default.not-Roll c.refuse.ensures.status
