use mathlib.Core.Path.{◌∙◌}
use Rattle.decoded.proofs.Decoding.{rows-asked, rows-kept, names-kept, decodes}
use Rattle.decoded.proofs.decode.decode.Goals as goal

pub put_names-requires-clause-n_le_max_terms : goal.put_names-requires-clause-n_le_max_terms
put_names-requires-clause-n_le_max_terms c =
    (c.requires.fields_of_terms.few, rows-asked c.requires.fields_of_terms c.put_terms.ensures)

pub returns : goal.returns
returns c =
    decodes (c.put_functions.ensures.lengths ∙ c.put_names.ensures.lengths ∙ c.put_terms.ensures.lengths ∙ c.requires.code_len) c.requires.fields_of_terms.few c.requires.fields_of_functions.few
    (rows-kept c.requires.fields_of_terms c.put_terms.ensures c.put_names.ensures) (names-kept c.requires.fields_of_terms c.put_terms.ensures c.put_names.ensures) c.put_functions.ensures
