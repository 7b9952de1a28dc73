use native.Mathlib.Omega.{arith}
use mathlib.Core.Path.{ap₂}
use Prim.Native.Nat.{◌+◌, ◌*◌}
use Rattle.program.specs.Lists.{terms_from}
use Rattle.program.proofs.Rooms.{term-kind-room}
use Rattle.program.proofs.Lists.{terms_in-term}
use Rattle.program.proofs.views.terms_from.Goals as goal

pub overflow_add-result : goal.overflow_add-result
overflow_add-result c =
    omega (arith, term-kind-room c.requires)

pub overflow_add-result-2 : goal.overflow_add-result-2
unfolding terms_from
overflow_add-result-2 c =
    omega (arith, terms_in-term c.requires, c.types_in_term.ensures, c.functions_in_term.ensures)

pub overflow_mul-result : goal.overflow_mul-result
unfolding terms_from
overflow_mul-result c =
    omega (arith, terms_in-term c.requires, c.types_in_term.ensures, c.functions_in_term.ensures)

pub overflow_add-result-3 : goal.overflow_add-result-3
unfolding terms_from
overflow_add-result-3 c =
    omega (arith, terms_in-term c.requires, c.types_in_term.ensures, c.functions_in_term.ensures)

pub returns : goal.returns
unfolding terms_from
returns c =
    ap₂ (λ m n. c.args.at + 4 + 2 * (m + n)) c.types_in_term.ensures c.functions_in_term.ensures
