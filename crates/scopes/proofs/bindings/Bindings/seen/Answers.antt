use native.Mathlib.Omega.{arith}
use mathlib.Core.Path.{sym, ◌∙◌}
use Rattle.scopes.specs.Slots.{unknown}
use Rattle.scopes.proofs.Views.{seen-found, seen-newer}
use Rattle.scopes.proofs.bindings.Bindings.seen.Goals as goal

pub overflow_add-self : goal.overflow_add-self
unfolding unknown
overflow_add-self c =
    omega (arith, c.requires.small, c.requires.within)

pub returns-then-self-number : goal.returns-then-self-number
unfolding unknown
returns-then-self-number c =
    sym (seen-newer c.args.ws.now c.args.self c.args.number (omega arith))

pub returns : goal.returns
unfolding unknown
returns c =
    c.known.ensures ∙ sym (seen-found c.args.ws.now c.args.self c.args.number (omega arith))
