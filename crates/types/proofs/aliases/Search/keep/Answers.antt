use native.Mathlib.Omega.{arith}
use mathlib.Core.Path.{refl}
use Rattle.types.proofs.Tracing.{codes_known, number-there, alias-figured}
use Rattle.types.proofs.aliases.Search.keep.Goals as goal

pub overflow_cast-k : goal.overflow_cast-k
overflow_cast-k c =
    omega (arith, (c.in-Some.ensures.there c.in-Some.k refl).0, c.requires.traceable.entries.few)

pub number_of-alias-requires : goal.number_of-alias-requires
number_of-alias-requires c =
    omega (arith, (c.in-Some.ensures.there c.in-Some.k refl).0, c.requires.traceable.entries.few)

pub same-requires : goal.same-requires
same-requires c =
    codes_known c.requires.traceable c.requires.i_in_bounds.0 c.requires.i_in_bounds.1
    (number-there c.requires.traceable (c.in-Some.ensures.there c.in-Some.k refl).0 refl c.number_of-alias.ensures)

pub returns-then-same : goal.returns-then-same
returns-then-same c =
    alias-figured c.requires.traceable c.requires.i_in_bounds.0 c.requires.i_in_bounds.1
    (number-there c.requires.traceable (c.in-Some.ensures.there c.in-Some.k refl).0 refl c.number_of-alias.ensures)
    c.same.ensures c.if-same.true c.put_alias.ensures
