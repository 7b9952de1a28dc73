use Prim.Native.Nat.{◌+◌}
use mathlib.Core.Path.{ap, ◌∙◌}
use Rattle.calls.specs.Fields.{field_head}
use Rattle.std.specs.Prelude.{Some}
use Rattle.journal.proofs.Ends.{end_short, end-other, end-cut, end_whole}
use Rattle.journal.proofs.form.field_end.Goals as goal

pub returns-then-journal-at-lt-FIELD_HEAD : goal.returns-then-journal-at-lt-FIELD_HEAD
returns-then-journal-at-lt-FIELD_HEAD c =
    end_short _ _ _ c.if-journal-at-lt-FIELD_HEAD.true

pub returns-then-journal-at : goal.returns-then-journal-at
returns-then-journal-at c =
    end-other _ _ _ c.if-journal-at-lt-FIELD_HEAD.false c.if-journal-at.true

pub returns-then-journal-start : goal.returns-then-journal-start
returns-then-journal-start c =
    end-cut _ _ _ c.if-journal-at-lt-FIELD_HEAD.false c.if-journal-at.false (rw (c.from-n.ensures ∙ c.read16.ensures) at c.if-journal-start.true)

pub returns : goal.returns
returns c =
    let e = c.from-n.ensures ∙ c.read16.ensures in
    ap (λ n. Some (c.args.at + field_head + n)) e ∙ end_whole _ _ _ c.if-journal-at-lt-FIELD_HEAD.false c.if-journal-at.false (rw e at c.if-journal-start.false)
