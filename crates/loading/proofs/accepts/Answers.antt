use Rattle.loading.proofs.Rooms.{accepts_ready, accepts_refused}
use Rattle.loading.proofs.accepts.Goals as goal

pub returns-in-Ok : goal.returns-in-Ok
returns-in-Ok c =
    accepts_ready c.in-Ok.ensures

pub returns-in-Err : goal.returns-in-Err
returns-in-Err c =
    accepts_refused c.in-Err.ensures
