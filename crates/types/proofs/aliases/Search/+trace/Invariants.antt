use Rattle.types.proofs.aliases.Search.+trace.Given as goal

abbrev pub decreases-trace : goal.decreases-trace
decreases-trace l = l.part
