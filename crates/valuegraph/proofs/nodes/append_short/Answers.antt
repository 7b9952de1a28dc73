use native.Mathlib.Omega.{arith}
use Rattle.rules.specs.Limits.{max_value_bytes}
use Rattle.valuegraph.proofs.Making.{fits_true}
use Rattle.valuegraph.proofs.Making.{made-old}
use Rattle.valuegraph.proofs.nodes.append_short.Goals as goal

pub returns-then-len-gt-MAX_VALUE_BYTES : goal.returns-then-len-gt-MAX_VALUE_BYTES
unfolding max_value_bytes
returns-then-len-gt-MAX_VALUE_BYTES c =
    made-old _ _ _ (omega (arith, c.requires.len))

pub append-requires-clause-right_value : goal.append-requires-clause-right_value
unfolding max_value_bytes
append-requires-clause-right_value c =
    fits_true _ (omega (arith, c.requires.len))
