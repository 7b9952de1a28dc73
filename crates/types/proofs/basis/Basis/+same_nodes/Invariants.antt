use Rattle.rules.specs.Ty.{nodes}
use Rattle.types.specs.Basis.{tree_by}
use Rattle.types.proofs.basis.Basis.+same_nodes.Given as goal

abbrev pub decreases-same_nodes : goal.decreases-same_nodes
decreases-same_nodes l = nodes (tree_by l.self.now l.c)
