use mathlib.Core.Path.{refl, sym, ◌∙◌}
use lib.ListN.{length}
use borrow.Author.Tests.{not-true, not-false}
use Rattle.batch.proofs.Lending.{enough-all, short-line, answered-line}
use Rattle.batch.proofs.answer.Goals as goal

pub returns-then-not-enough : goal.returns-then-not-enough
returns-then-not-enough c =
    short-line (sym c.enough.ensures ∙ c.if-not-enough.true) refl

pub answer_within-requires : goal.answer_within-requires
answer_within-requires c =
    let p = enough-all (length c.args.line.now) (length c.args.program.now) (length c.args.ancillae.now) (length c.args.value.now) (length c.args.workspace.now)
    (length c.args.output.now) (length c.args.out.now) (sym c.enough.ensures ∙ c.if-not-enough.false) in record { line_len_bound = p.0; most_workspace_in_bounds = p.1.0; answer_room_in_bounds = p.1.1 }

pub returns : goal.returns
returns c =
    answered-line (sym c.enough.ensures ∙ c.if-not-enough.false) c.answer_within.ensures.replies c.answer_within.ensures.program_after.0 c.answer_within.ensures.program_after.1
