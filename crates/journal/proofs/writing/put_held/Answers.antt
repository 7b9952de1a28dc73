use native.Mathlib.Omega.{arith}
use mathlib.Core.Path.{ap, ◌∙◌}
use Rattle.octets.specs.Runs.{pasted}
use Rattle.calls.specs.Journal.{held_tag}
use Rattle.calls.specs.Fields.{field_head}
use Rattle.journal.proofs.Writes.{put-body}
use Rattle.journal.proofs.writing.put_held.Goals as goal

pub returns : goal.returns
unfolding held_tag
returns c =
    c.copy.ensures ∙ ap (λ s. pasted s field_head c.args.held.now) c.put_head.ensures
    ∙ put-body c.args.journal.now 0 held_tag c.args.held.now (omega (arith, c.requires.0))
