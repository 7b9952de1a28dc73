use Prim.Native.Nat.{◌-◌}
use mathlib.Core.Path.{◌≡◌}
use lib.ListN.{length, take}
use Rattle.program.specs.Tags.{tag_number}
use Rattle.program.proofs.Reading.{Reading}
use Rattle.program.proofs.Signing.{Signing}
use Rattle.program.proofs.fields.layout.Given as goal

abbrev pub invariant-loop-at : goal.invariant-loop-at
invariant-loop-at l = Reading l.p l.types l.terms l.functions l.counts l.at (tag_number l.last) × (length l.types ≡ length l.initial.types) × (length l.terms ≡ length l.initial.terms) × (length l.functions ≡ length l.initial.functions)
    × Signing l.p (take l.counts.functions l.functions) l.table

abbrev pub decreases-loop-at : goal.decreases-loop-at
decreases-loop-at l = length l.p - l.at
