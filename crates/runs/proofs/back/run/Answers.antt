use Rattle.backward.proofs.Stops.{is_done, is_stopped}
use Rattle.runs.proofs.Backward.{gives, shaped, returns_value, returns_refused, given}
use Rattle.runs.proofs.back.run.Goals as goal

pub give-requires : goal.give-requires
give-requires c =
    gives (given c.in-Ok.is c.undo.ensures) (is_done c.in-Ok.is)

pub refuse-requires : goal.refuse-requires
refuse-requires c =
    shaped c.undo.ensures (is_stopped c.in-Err.is)

pub returns-in-Ok : goal.returns-in-Ok
returns-in-Ok c =
    returns_value (given c.in-Ok.is c.undo.ensures) (is_done c.in-Ok.is) c.give.ensures

pub returns-in-Err : goal.returns-in-Err
returns-in-Err c =
    returns_refused c.undo.ensures (is_stopped c.in-Err.is) c.refuse.ensures
