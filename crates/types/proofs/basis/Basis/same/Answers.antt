use mathlib.Core.Path.{◌≡◌, sym, ap, ◌∙◌}
use borrow.Author.Rules.{rules}
use Rattle.rules.specs.Ty.{same_ty}
use Rattle.rules.proofs.Typing.Tests.{same_ty_refl}
use Rattle.types.specs.Basis.{tree_by}
use Rattle.types.proofs.basis.Basis.same.Goals as goal

pub returns-then-eq : goal.returns-then-eq
returns-then-eq c =
    let q : c.args.c ≡ c.args.d = search rules in
    c.if-eq.true ∙ sym (same_ty_refl _) ∙ ap (same_ty (tree_by c.args.self.now c.args.c)) (ap (tree_by c.args.self.now) q)
