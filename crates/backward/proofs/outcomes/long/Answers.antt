use Rattle.backward.proofs.Leaves.{long-fuel, long-height, long-value}
use Rattle.backward.proofs.outcomes.long.Goals as goal

pub returns-then-fuel-eq0 : goal.returns-then-fuel-eq0
returns-then-fuel-eq0 c =
    long-fuel c.args.fuel c.args.room c.args.t c.if-fuel-eq0.true

pub returns-then-room-eq0 : goal.returns-then-room-eq0
returns-then-room-eq0 c =
    long-height c.args.fuel c.args.room c.args.t c.if-fuel-eq0.false c.if-room-eq0.true

pub returns : goal.returns
returns c =
    long-value c.args.fuel c.args.room c.args.t c.if-fuel-eq0.false c.if-room-eq0.false
