use native.Mathlib.Omega.{arith}
use mathlib.Core.Path.{sym}
use lib.ListN.{get_or-eq_default}
use Rattle.typing.proofs.functions.place.Goals as goal

pub returns-then-k-terms : goal.returns-then-k-terms
returns-then-k-terms c =
    c.from.ensures

pub returns : goal.returns
returns c =
    sym (get_or-eq_default c.args.terms.now 0 (omega (arith, c.if-k-terms.false)))
