use Prim.Native.Nat.{◌+◌}
use mathlib.Core.Path.{ap, ◌∙◌}
use Rattle.octets.specs.Numbers.{put16, put32}
use Rattle.octets.specs.Runs.{pasted}
use Rattle.calls.specs.Journal.{entry_bytes, entry_tag}
use Rattle.calls.specs.Fields.{field_head}
use Rattle.journal.proofs.Writes.{put-entry}
use Rattle.journal.proofs.writing.add_entry.Goals as goal

pub returns : goal.returns
unfolding entry_tag
returns c =
    c.copy.ensures ∙ ap (λ s. pasted s (c.args.at + entry_bytes) c.args.ancillae.now)
    (c.write32.ensures ∙ ap (λ s. put32 s (c.args.at + 5) c.args.steps)
    (c.write16.ensures ∙ ap (λ s. put16 s (c.args.at + field_head) c.args.function) c.put_head.ensures)) ∙ put-entry
    c.args.journal.now c.args.at c.args.function c.args.steps c.args.ancillae.now c.requires.0
