use Rattle.types.proofs.Hinting.{noted-put}
use Rattle.types.proofs.hints.put.Goals as goal

pub returns : goal.returns
returns c =
    noted-put c.args.ws.now c.place.result c.args.c c.place.ensures.0 c.put_code.ensures.0
