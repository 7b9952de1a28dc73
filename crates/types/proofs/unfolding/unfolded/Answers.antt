use native.Mathlib.Omega.{arith}
use mathlib.Core.Path.{ap, refl, ◌∙◌}
use lib.ListN.{get_or}
use Rattle.types.proofs.Outer.{mu-there, first-lower}
use Rattle.types.proofs.Unfold.{no_body, a_body}
use Rattle.types.proofs.unfolding.unfolded.Goals as goal

pub first-requires : goal.first-requires
first-requires c =
    mu-there c.requires.readable.0 c.requires.i_in_bounds c.from.ensures c.from-at.ensures c.in-Recursive.ensures refl

pub number_of-body-requires : goal.number_of-body-requires
number_of-body-requires c =
    let low = first-lower c.requires.readable.0 c.requires.i_in_bounds c.from.ensures c.from-at.ensures c.in-Recursive.ensures
    (λ z. omega (arith, z)) (omega arith) in
    omega (arith, c.first.ensures, low, c.requires.readable.0.few, c.requires.i_in_bounds)

pub returns-in-Recursive : goal.returns-in-Recursive
returns-in-Recursive c =
    a_body c.args.program.now c.args.types.now c.args.ws.now c.args.i
    (c.from-at.ensures ∙ ap (λ n. get_or c.args.types.now n 0) c.from.ensures) c.in-Recursive.ensures c.first.ensures
    c.number_of-body.ensures c.number_of.ensures

pub returns-in_default : goal.returns-in_default
returns-in_default c =
    no_body c.args.program.now c.args.types.now c.args.ws.now c.args.i
    (c.from-at.ensures ∙ ap (λ n. get_or c.args.types.now n 0) c.from.ensures) c.type_kind.ensures c.in_default.not-Recursive
