use native.Mathlib.Omega.{arith}
use mathlib.Core.Path.{refl}
use Rattle.decoded.proofs.Sets.{no_sets, none_named, asked-now, sets_more, named_more}
use Rattle.decoded.proofs.naming.put_names.Goals as goal

pub loop-t-init : goal.loop-t-init
loop-t-init c =
    record { named = none_named _ _; sets = no_sets _ _ _ refl }

pub names_of-names-requires : goal.names_of-names-requires
names_of-names-requires c =
    (omega arith, asked-now c.requires.n_le_max_terms.1 (omega arith) c.loop-t.invariant.named c.loop-t.invariant.sets)

pub put_scrutinee-requires-clause-t_lt_max_terms : goal.put_scrutinee-requires-clause-t_lt_max_terms
put_scrutinee-requires-clause-t_lt_max_terms c =
    (omega arith, asked-now c.requires.n_le_max_terms.1 (omega arith) c.loop-t.invariant.named c.loop-t.invariant.sets)

pub loop-t-preserved : goal.loop-t-preserved
loop-t-preserved c =
    let now = c.loop-t.invariant in
    let sets = sets_more c.requires.n_le_max_terms.1 (omega arith) now.named now.sets (omega arith) c.from.ensures c.names_of-names.ensures in
    record {
      named = named_more c.requires.n_le_max_terms.1 (omega arith) now.named now.sets sets c.put_scrutinee.ensures;
      sets = sets;
    }
