use Prim.Native.Nat.{◌-◌}
use native.Mathlib.Omega.{arith}
use mathlib.Core.Path.{ap, ◌∙◌}
use Rattle.octets.specs.Runs.{pasted}
use Rattle.journal.proofs.Pastes.{run, length_run, moved}
use Rattle.calls.specs.Journal.{field, held_tag}
use Rattle.journal.proofs.Writes.{put-before}
use Rattle.journal.proofs.writing.set_held.Goals as goal

pub returns : goal.returns
returns c =
    let n = length_run c.args.journal.now c.args.from (c.args.to - c.args.from) (omega (arith, c.requires.from_le_to.0, c.requires.from_le_to.1)) in
    c.put_held.ensures
    ∙ ap (λ s. pasted s 0 (field held_tag c.args.held.now))
    (c.copy_within.ensures.after ∙ moved _ _ _ _ (omega (arith, c.requires.from_le_to.0, c.requires.from_le_to.1)))
    ∙ put-before c.args.journal.now held_tag c.args.held.now (run c.args.journal.now c.args.from (c.args.to - c.args.from))
    (omega (arith, n, c.requires.from_in_bounds.0))
