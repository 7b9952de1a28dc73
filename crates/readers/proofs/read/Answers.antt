use Rattle.std.proofs.Common.{rules, sym, ◌∙◌}
use Rattle.readers.proofs.Reading.{not_read}
use Rattle.readers.proofs.read.Goals as goal

pub returns-in_err-places : goal.returns-in_err-places
returns-in_err-places c =
    not_read c.survey.result c.survey.ensures (sym c.ok_or.ensures.value ∙ c.in_err-places.was) (search rules)
