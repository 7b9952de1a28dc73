use Rattle.backward.proofs.Stops.{unpacked-done, unpacked-stopped}
use Rattle.backward.proofs.outcomes.unpacked.Goals as goal

pub returns-then-stop-ne0 : goal.returns-then-stop-ne0
returns-then-stop-ne0 c =
    unpacked-stopped c.args.r c.if-stop-ne0.true c.why.ensures

pub returns : goal.returns
returns c =
    unpacked-done c.args.r c.if-stop-ne0.false
