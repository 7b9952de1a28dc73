use mathlib.Core.Path.{sym, ap, ◌∙◌}
use Prim.Native.Nat.{ℕ, ◌+◌}
use mathlib.Core.Path.{◌≡◌}
use mathlib.Core.Bool.{Bool, cond}
use mathlib.Core.List.{List}
use lib.Dec.{eqb}
use borrow.Author.Tests.{eq-eqb, ne_eqb}
use Rattle.std.specs.Prelude.{Some, None}
use Rattle.octets.specs.Numbers.{get16}
use Rattle.types.specs.Figures.{alias_for, stand_at, alias_at}
use Rattle.types.proofs.figures.Figures.alias_of.Goals as goal

by_test : (heap : List ℕ) (i j : ℕ) {b : Bool} → eqb (stand_at heap i) (j + 1) ≡ b → cond b (Some (alias_at heap i)) None ≡ alias_for heap i j
unfolding alias_for
by_test heap i j e = sym (ap (λ b. cond b (Some (alias_at heap i)) None) e)

pub returns-then-from : goal.returns-then-from
unfolding stand_at alias_at
returns-then-from c =
    ap Some (c.read16-then-from.ensures ∙ ap (λ at. get16 c.args.self.now.ws.now (at + 8)) c.place-at.ensures.0)
    ∙ by_test c.args.self.now.ws.now c.args.i c.args.j (eq-eqb _ _
    (ap (λ at. get16 c.args.self.now.ws.now (at + 6)) (sym c.place-at.ensures.0) ∙ sym c.read16.ensures ∙ sym c.from.ensures
    ∙ c.if-from.true ∙ ap (λ n. n + 1) c.from-2.ensures))

pub returns : goal.returns
unfolding stand_at
returns c =
    by_test c.args.self.now.ws.now c.args.i c.args.j
    (ne_eqb _ _ λ e. c.if-from.false (c.from.ensures ∙ c.read16.ensures ∙ ap (λ at. get16 c.args.self.now.ws.now (at + 6)) c.place-at.ensures.0
    ∙ e ∙ ap (λ n. n + 1) (sym c.from-2.ensures)))
