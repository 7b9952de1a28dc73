use Rattle.entries.proofs.Tallies.{tally-room, count-made}
use Rattle.entries.proofs.measures.count_nodes.Goals as goal

pub raised-requires : goal.raised-requires
raised-requires c =
    tally-room c.requires.tally_of c.requires.uncounted

pub returns : goal.returns
returns c =
    count-made c.requires.tally_of c.requires.uncounted _ _ _ _ c.nodes_of-m.ensures c.raised.ensures
