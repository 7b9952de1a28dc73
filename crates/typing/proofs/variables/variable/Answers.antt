use native.Mathlib.Omega.{arith}
use mathlib.Core.Path.{refl, sym, ◌∙◌}
use mathlib.Core.Logic.{inl, inr}
use Rattle.typing.proofs.variables.variable.Goals.{then-i-sc-via-then-i-sc, then-i-sc-via-else-i-sc+then-sc-i-2}
use Rattle.typing.proofs.Deciding.{unscopes, misuses}
use Rattle.typing.proofs.Naming.{seen-outside, seen-free, seen-barred, seen-waits}
use Rattle.typing.proofs.variables.variable.Goals as goal

pub returns-then-sc-i : goal.returns-then-sc-i
returns-then-sc-i c =
    seen-outside _ _ _ _ c.if-sc-i.true (unscopes c.from.ensures)

pub returns-then-not-contains : goal.returns-then-not-contains
returns-then-not-contains c =
    seen-barred _ _ _ _ c.if-sc-i.false (omega arith) (omega arith) (sym c.contains.ensures ∙ c.if-not-contains.true)
    (misuses c.from-then-not-contains.ensures)

pub returns : goal.returns
returns c =
    seen-waits _ _ _ _ refl c.named-2.ensures c.wait.ensures c.if-sc-i.false c.requires.0 (omega arith) (omega arith)
    (sym c.contains.ensures ∙ c.if-not-contains.false)

pub returns-then-i-sc : goal.returns-then-i-sc
returns-then-i-sc c =
    seen-free _ _ _ _ refl c.named.ensures c.if-sc-i.false (elim c.then-i-sc.branch [
      | then-i-sc-via-then-i-sc w ↦ inl w.if-i-sc.true
      | then-i-sc-via-else-i-sc+then-sc-i-2 w ↦ inr w.if-sc-i-2.true
    ])
