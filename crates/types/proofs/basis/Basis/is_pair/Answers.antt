use borrow.Author.Rules.{rules}
use Rattle.types.proofs.Hinting.{pair-tree}
use Rattle.types.proofs.basis.Basis.is_pair.Goals as goal

pub returns-then-eq : goal.returns-then-eq
returns-then-eq c =
    λ r. pair-tree c.in-Product.ensures c.settled.ensures (search rules) c.settled-then-eq.ensures (search rules)
