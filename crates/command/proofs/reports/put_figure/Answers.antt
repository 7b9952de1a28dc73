use native.Mathlib.Omega.{arith}
use Rattle.calltext.proofs.Figures.{at-most_twenty}
use borrow.Author.Rules.{rules}
use Rattle.command.proofs.reports.put_figure.Goals as goal

pub put_number-requires : goal.put_number-requires
put_number-requires c =
    omega (arith, c.requires, at-most_twenty c.args.n (search rules))

pub returns : goal.returns
returns c =
    (c.put_number.ensures, omega (arith, c.put_number.ensures.ends, at-most_twenty c.args.n (search rules)))
