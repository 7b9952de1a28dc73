use mathlib.Core.Path.{sym, ap, ◌∙◌}
use lib.ListN.{get_or}
use Rattle.admission.proofs.Answers.{index-there, index-beyond, no-function, bad-values, wrong_type, all_given}
use Rattle.admission.proofs.admit.Goals as goal

pub returns-then-entries-g : goal.returns-then-entries-g
returns-then-entries-g c =
    no-function _ _ _ _ _ _ _ (index-beyond c.from-g.ensures c.if-entries-g.true)

pub returns-then-not-values_right : goal.returns-then-not-values_right
returns-then-not-values_right c =
    let field = c.from.ensures ∙ ap (λ i. get_or c.args.entries.now.functions.now i 0) c.from-g.ensures in
    bad-values _ _ _ _ _ _ _ (index-there c.from-g.ensures c.if-entries-g.false) field c.values_right.ensures c.if-not-values_right.true

pub returns-then-not-values_typed : goal.returns-then-not-values_typed
returns-then-not-values_typed c =
    let field = c.from.ensures ∙ ap (λ i. get_or c.args.entries.now.functions.now i 0) c.from-g.ensures in
    wrong_type _ _ _ _ _ _ _ (index-there c.from-g.ensures c.if-entries-g.false) field
    (sym c.values_right.ensures ∙ c.if-not-values_right.false) c.values_typed.ensures c.if-not-values_typed.true

pub returns : goal.returns
returns c =
    let field = c.from.ensures ∙ ap (λ i. get_or c.args.entries.now.functions.now i 0) c.from-g.ensures in
    all_given _ _ _ _ _ _ _ (index-there c.from-g.ensures c.if-entries-g.false) field
    (sym c.values_right.ensures ∙ c.if-not-values_right.false) c.values_typed.ensures c.if-not-values_typed.false
