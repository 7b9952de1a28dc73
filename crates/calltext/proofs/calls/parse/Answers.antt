use Rattle.std.proofs.Common.{refl, sym, ap, ◌∙◌}
use Rattle.calltext.specs.Calls.{name_of, read_named}
use Rattle.calltext.proofs.Saying.{parses, unread, parses_named}
use Rattle.calltext.proofs.calls.parse.Goals as goal

pub returns-in-Check : goal.returns-in-Check
unfolding read_named
returns-in-Check c =
    parses_named (sym (c.name_of.ensures ∙ ap name_of c.word.ensures) ∙ c.in-Check.is) (c.check_call.ensures _ _)

pub returns-in-Forward : goal.returns-in-Forward
unfolding read_named
returns-in-Forward c =
    parses_named (sym (c.name_of.ensures ∙ ap name_of c.word.ensures) ∙ c.in-Forward.is) c.run_call.ensures

pub returns-in-Backward : goal.returns-in-Backward
unfolding read_named
returns-in-Backward c =
    parses_named (sym (c.name_of.ensures ∙ ap name_of c.word.ensures) ∙ c.in-Backward.is) c.run_call-in-Backward.ensures

pub returns-in-Open : goal.returns-in-Open
unfolding read_named
returns-in-Open c =
    parses_named (sym (c.name_of.ensures ∙ ap name_of c.word.ensures) ∙ c.in-Open.is) c.open_call.ensures

pub returns-in-Convert : goal.returns-in-Convert
unfolding read_named
returns-in-Convert c =
    parses_named (sym (c.name_of.ensures ∙ ap name_of c.word.ensures) ∙ c.in-Convert.is) c.convert_call.ensures

pub returns-in-Rollback : goal.returns-in-Rollback
unfolding read_named
returns-in-Rollback c =
    parses_named (sym (c.name_of.ensures ∙ ap name_of c.word.ensures) ∙ c.in-Rollback.is) (c.rollback_call.ensures _)

pub returns-in-Nurse : goal.returns-in-Nurse
unfolding read_named
returns-in-Nurse c =
    parses_named (sym (c.name_of.ensures ∙ ap name_of c.word.ensures) ∙ c.in-Nurse.is) (c.reader_call.ensures _ _)

pub returns-in-Workshop : goal.returns-in-Workshop
unfolding read_named
returns-in-Workshop c =
    parses_named (sym (c.name_of.ensures ∙ ap name_of c.word.ensures) ∙ c.in-Workshop.is) (c.reader_call-in-Workshop.ensures _ _)

pub returns-in-Other : goal.returns-in-Other
unfolding read_named
returns-in-Other c =
    parses_named (sym (c.name_of.ensures ∙ ap name_of c.word.ensures) ∙ c.in-Other.is) (parses refl tt (unread _ λ k. refl))
