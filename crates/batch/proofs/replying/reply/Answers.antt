use native.Mathlib.Omega.{arith}
use mathlib.Core.Path.{refl, sym, ap, subst, ◌∙◌}
use Rattle.std.specs.Prelude.{Ok, Err}
use Rattle.calltext.specs.Parsed.{line_of, Within}
use Rattle.batch.specs.Answering.{answer_to}
use Rattle.batch.specs.Lent.{workspace_after, output_after, journal_after}
use Rattle.batch.proofs.Lending.{replies_as}
use Rattle.batch.proofs.replying.reply.Goals as goal

pub check-requires-clause-program_in_bounds : goal.check-requires-clause-program_in_bounds
check-requires-clause-program_in_bounds c =
    let e = c.in-Ok.is ∙ ap Ok c.in-Check.is in
    (subst (λ q. Within q c.args.program.now c.args.ancillae.now c.args.value.now) e c.requires.within)

pub check-requires-clause-most_workspace_in_bounds : goal.check-requires-clause-most_workspace_in_bounds
check-requires-clause-most_workspace_in_bounds c =
    c.requires.most_workspace_in_bounds.0

pub check-requires-clause-in_bounds : goal.check-requires-clause-in_bounds
check-requires-clause-in_bounds c =
    omega (arith, c.requires.answer_room_in_bounds)

pub run-requires-clause-program_in_bounds : goal.run-requires-clause-program_in_bounds
run-requires-clause-program_in_bounds c =
    let e = c.in-Ok.is ∙ ap Ok c.in-Run.is in
    (subst (λ q. Within q c.args.program.now c.args.ancillae.now c.args.value.now) e c.requires.within)

pub run-requires-clause-most_workspace_in_bounds : goal.run-requires-clause-most_workspace_in_bounds
run-requires-clause-most_workspace_in_bounds c =
    c.requires.most_workspace_in_bounds

pub run-requires-clause-answer_room_in_bounds : goal.run-requires-clause-answer_room_in_bounds
run-requires-clause-answer_room_in_bounds c =
    omega (arith, c.requires.answer_room_in_bounds)

pub open-requires-clause-program_in_bounds : goal.open-requires-clause-program_in_bounds
open-requires-clause-program_in_bounds c =
    let e = c.in-Ok.is ∙ ap Ok c.in-Open.is in
    (subst (λ q. Within q c.args.program.now c.args.ancillae.now c.args.value.now) e c.requires.within)

pub open-requires-clause-most_workspace_in_bounds : goal.open-requires-clause-most_workspace_in_bounds
open-requires-clause-most_workspace_in_bounds c =
    c.requires.most_workspace_in_bounds.0

pub open-requires-clause-journal_in_bounds : goal.open-requires-clause-journal_in_bounds
open-requires-clause-journal_in_bounds c =
    omega (arith, c.requires.answer_room_in_bounds)

pub convert-requires-clause-program_in_bounds : goal.convert-requires-clause-program_in_bounds
convert-requires-clause-program_in_bounds c =
    let e = c.in-Ok.is ∙ ap Ok c.in-Convert.is in
    (subst (λ q. Within q c.args.program.now c.args.ancillae.now c.args.value.now) e c.requires.within)

pub convert-requires-clause-most_workspace_in_bounds : goal.convert-requires-clause-most_workspace_in_bounds
convert-requires-clause-most_workspace_in_bounds c =
    c.requires.most_workspace_in_bounds.0

pub convert-requires-clause-journal_in_bounds : goal.convert-requires-clause-journal_in_bounds
convert-requires-clause-journal_in_bounds c =
    omega (arith, c.requires.answer_room_in_bounds)

pub rollback-requires-clause-program_in_bounds : goal.rollback-requires-clause-program_in_bounds
rollback-requires-clause-program_in_bounds c =
    let e = c.in-Ok.is ∙ ap Ok c.in-Rollback.is in
    (subst (λ q. Within q c.args.program.now c.args.ancillae.now c.args.value.now) e c.requires.within)

pub rollback-requires-clause-most_workspace_in_bounds : goal.rollback-requires-clause-most_workspace_in_bounds
rollback-requires-clause-most_workspace_in_bounds c =
    c.requires.most_workspace_in_bounds.0

pub rollback-requires-clause-journal_in_bounds : goal.rollback-requires-clause-journal_in_bounds
rollback-requires-clause-journal_in_bounds c =
    omega (arith, c.requires.answer_room_in_bounds)

pub read-requires-clause-journal_in_bounds : goal.read-requires-clause-journal_in_bounds
read-requires-clause-journal_in_bounds c =
    let e = c.in-Ok.is ∙ ap Ok c.in-Read.is in
    (subst (λ q. Within q c.args.program.now c.args.ancillae.now c.args.value.now) e c.requires.within)

pub read-requires-clause-most_output_in_bounds : goal.read-requires-clause-most_output_in_bounds
read-requires-clause-most_output_in_bounds c =
    c.requires.most_workspace_in_bounds.1

pub read-requires-clause-answer_room_in_bounds : goal.read-requires-clause-answer_room_in_bounds
read-requires-clause-answer_room_in_bounds c =
    omega (arith, c.requires.answer_room_in_bounds)

pub returns-in-Check : goal.returns-in-Check
unfolding answer_to workspace_after output_after journal_after
returns-in-Check c =
    let e = c.in-Ok.is ∙ ap Ok c.in-Check.is in
    (replies_as (record { told = c.check.ensures.answer; value = refl; workspace = c.check.ensures.clear; output = refl }) (ap (λ q. line_of q c.args.program.now c.args.ancillae.now c.args.value.now) (sym e)) refl)

pub returns-in-Run : goal.returns-in-Run
unfolding answer_to workspace_after output_after journal_after
returns-in-Run c =
    let e = c.in-Ok.is ∙ ap Ok c.in-Run.is in
    (replies_as (record { told = c.run.ensures.answer; value = refl; workspace = c.run.ensures.clear; output = c.run.ensures.fills }) (ap (λ q. line_of q c.args.program.now c.args.ancillae.now c.args.value.now) (sym e)) refl)

pub returns-in-Open : goal.returns-in-Open
unfolding answer_to workspace_after output_after journal_after
returns-in-Open c =
    let e = c.in-Ok.is ∙ ap Ok c.in-Open.is in
    (replies_as (record { told = c.open.ensures.answer; value = c.open.ensures.keeps; workspace = c.open.ensures.clear; output = refl }) (ap (λ q. line_of q c.args.program.now c.args.ancillae.now c.args.value.now) (sym e)) refl)

pub returns-in-Convert : goal.returns-in-Convert
unfolding answer_to workspace_after output_after journal_after
returns-in-Convert c =
    let e = c.in-Ok.is ∙ ap Ok c.in-Convert.is in
    (replies_as (record { told = c.convert.ensures.answer; value = c.convert.ensures.keeps; workspace = c.convert.ensures.clear; output = refl }) (ap (λ q. line_of q c.args.program.now c.args.ancillae.now c.args.value.now) (sym e)) refl)

pub returns-in-Rollback : goal.returns-in-Rollback
unfolding answer_to workspace_after output_after journal_after
returns-in-Rollback c =
    let e = c.in-Ok.is ∙ ap Ok c.in-Rollback.is in
    (replies_as (record { told = c.rollback.ensures.answer; value = c.rollback.ensures.keeps; workspace = c.rollback.ensures.clear; output = refl }) (ap (λ q. line_of q c.args.program.now c.args.ancillae.now c.args.value.now) (sym e)) refl)

pub returns-in-Read : goal.returns-in-Read
unfolding answer_to workspace_after output_after journal_after
returns-in-Read c =
    let e = c.in-Ok.is ∙ ap Ok c.in-Read.is in
    (replies_as (record { told = c.read.ensures.answer; value = refl; workspace = refl; output = c.read.ensures.fills }) (ap (λ q. line_of q c.args.program.now c.args.ancillae.now c.args.value.now) (sym e)) refl)

pub returns-in-NoCall : goal.returns-in-NoCall
unfolding answer_to workspace_after output_after journal_after
returns-in-NoCall c =
    let e = c.in-Err.is ∙ ap Err c.in-NoCall.is in
    (replies_as (record { told = c.put.ensures; value = refl; workspace = refl; output = refl }) (ap (λ q. line_of q c.args.program.now c.args.ancillae.now c.args.value.now) (sym e)) refl)

pub returns-in-WordCount : goal.returns-in-WordCount
unfolding answer_to workspace_after output_after journal_after
returns-in-WordCount c =
    let e = c.in-Err.is ∙ ap Err c.in-WordCount.is in
    (replies_as (record { told = c.put-in-WordCount.ensures; value = refl; workspace = refl; output = refl }) (ap (λ q. line_of q c.args.program.now c.args.ancillae.now c.args.value.now) (sym e)) refl)

pub returns-in-NoNumber : goal.returns-in-NoNumber
unfolding answer_to workspace_after output_after journal_after
returns-in-NoNumber c =
    let e = c.in-Err.is ∙ ap Err c.in-NoNumber.is in
    (replies_as (record { told = c.word_error.ensures; value = refl; workspace = refl; output = refl }) (ap (λ q. line_of q c.args.program.now c.args.ancillae.now c.args.value.now) (sym e)) refl)

pub returns-in-NoBytes : goal.returns-in-NoBytes
unfolding answer_to workspace_after output_after journal_after
returns-in-NoBytes c =
    let e = c.in-Err.is ∙ ap Err c.in-NoBytes.is in
    (replies_as (record { told = c.word_error-in-NoBytes.ensures; value = refl; workspace = refl; output = refl }) (ap (λ q. line_of q c.args.program.now c.args.ancillae.now c.args.value.now) (sym e)) refl)
