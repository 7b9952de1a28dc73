use Rattle.decoded.specs.Naming.{RowsNamed}
use Rattle.decoded.proofs.Sets.{SetsOf}
use Rattle.decoded.proofs.naming.put_names.Given as goal

abbrev pub invariant-loop-t : goal.invariant-loop-t
invariant-loop-t l = record { named : RowsNamed l.initial.code l.code l.n l.t; sets : SetsOf l.initial.code l.n l.sets l.t }
