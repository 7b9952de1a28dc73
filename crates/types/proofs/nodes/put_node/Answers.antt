use Rattle.types.specs.Growth.{put_node}
use Rattle.types.proofs.nodes.put_node.Goals as goal

pub returns : goal.returns
unfolding put_node
returns c =
    cc c.from-at.ensures
