use Rattle.backward.proofs.Leaves.{choice_left, choice_right}
use Rattle.backward.proofs.outcomes.branch_of.Goals as goal

pub returns-then-left : goal.returns-then-left
returns-then-left c =
    choice_left _ c.if-left.true c.second_of.ensures

pub returns : goal.returns
returns c =
    choice_right _ c.if-left.false c.third_of.ensures
