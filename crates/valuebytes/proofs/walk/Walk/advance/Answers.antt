use mathlib.Core.Path.{sym, ap, ◌∙◌}
use Rattle.std.specs.Prelude.{Some}
use Rattle.valuebytes.proofs.Advancing.{turned-wrong, turned_nothing, turned-one, turned_two, turned-body}
use Rattle.valuebytes.proofs.walk.Walk.advance.Goals as goal

pub returns-in_err-parts : goal.returns-in_err-parts
returns-in_err-parts c =
    rw c.from_residual.ensures (turned-wrong c.args.self.now c.requires.stack c.requires.pending c.resolve-u.ensures _
    (sym c.in_err-parts.was ∙ c.parts.ensures) _)

pub returns-in-Nothing : goal.returns-in-Nothing
returns-in-Nothing c =
    turned_nothing c.args.self.now c.requires.stack c.requires.pending c.resolve-u.ensures _
    (sym (c.in_ok-parts.was ∙ ap Some c.in-Nothing.is) ∙ c.parts.ensures)

pub returns-in-One : goal.returns-in-One
returns-in-One c =
    turned-one c.args.self.now c.requires.stack c.requires.pending c.resolve-u.ensures _
    (sym (c.in_ok-parts.was ∙ ap Some c.in-One.is) ∙ c.parts.ensures) c.requires.room.1
    c.push.ensures.pending c.push.ensures.count c.push.ensures.same

pub returns-in-Two : goal.returns-in-Two
returns-in-Two c =
    turned_two c.args.self.now c.requires.stack c.requires.pending c.resolve-u.ensures _
    (sym (c.in_ok-parts.was ∙ ap Some c.in-Two.is) ∙ c.parts.ensures) c.requires.room.1
    c.push-in-Two.ensures.pending c.push-in-Two.ensures.count c.push-in-Two.ensures.same
    c.push-in-Two-2.ensures.pending c.push-in-Two-2.ensures.count c.push-in-Two-2.ensures.same

pub returns-in-Body : goal.returns-in-Body
returns-in-Body c =
    turned-body c.args.self.now c.requires.stack c.requires.pending c.resolve-u.ensures _
    (sym (c.in_ok-parts.was ∙ ap Some c.in-Body.is) ∙ c.parts.ensures) c.requires.room
    c.push-in-Body.ensures.pending c.push-in-Body.ensures.count
    (c.push-in-Body.ensures.same.0, c.push-in-Body.ensures.same.1)
