use Rattle.types.proofs.Counts.{stops, goes_on}
use Rattle.types.proofs.counting.capped.Goals as goal

pub returns-then-n-gt-WIDE_MOST : goal.returns-then-n-gt-WIDE_MOST
returns-then-n-gt-WIDE_MOST c =
    stops c.args.n c.if-n-gt-WIDE_MOST.true

pub returns : goal.returns
returns c =
    goes_on c.args.n c.if-n-gt-WIDE_MOST.false
