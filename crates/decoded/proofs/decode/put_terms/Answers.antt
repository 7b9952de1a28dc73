use native.Mathlib.Omega.{arith}
use mathlib.Core.Path.{◌∙◌}
use Rattle.decoded.proofs.Decoding.{no_rows, rows_more, term-asked}
use Rattle.decoded.proofs.decode.put_terms.Goals as goal

pub loop-t-init : goal.loop-t-init
loop-t-init c =
    no_rows _ _ _

pub put_term-requires-clause-code_len : goal.put_term-requires-clause-code_len
put_term-requires-clause-code_len c =
    c.loop-t.invariant.lengths ∙ c.requires.code_len

pub put_term-requires-clause-t_lt_max_terms : goal.put_term-requires-clause-t_lt_max_terms
put_term-requires-clause-t_lt_max_terms c =
    (omega (arith, c.requires.fields_of_terms.few), term-asked c.requires.fields_of_terms (omega arith) c.from.ensures)

pub loop-t-preserved : goal.loop-t-preserved
loop-t-preserved c =
    rows_more c.loop-t.invariant c.from.ensures c.put_term.ensures
