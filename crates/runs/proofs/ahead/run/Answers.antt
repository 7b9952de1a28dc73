use Rattle.runs.proofs.Forward.{gives, shaped, goes-value, goes-refused}
use Rattle.runs.proofs.ahead.run.Goals as goal

pub evaluate-requires : goal.evaluate-requires
evaluate-requires c =
    c.requires

pub give-requires : goal.give-requires
give-requires c =
    gives c.evaluate.ensures c.in-Ok.is

pub refuse-requires : goal.refuse-requires
refuse-requires c =
    shaped c.evaluate.ensures c.in-Err.is c.into.ensures

pub returns-in-Ok : goal.returns-in-Ok
returns-in-Ok c =
    goes-value c.evaluate.ensures c.in-Ok.is c.give.ensures

pub returns-in-Err : goal.returns-in-Err
returns-in-Err c =
    goes-refused c.evaluate.ensures c.in-Err.is c.into.ensures c.refuse.ensures
