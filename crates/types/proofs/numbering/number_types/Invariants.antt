use mathlib.Core.Path.{◌≡◌}
use lib.ListN.{length}
use Rattle.types.specs.Numbering.{Numbered}
use Rattle.types.proofs.numbering.number_types.Given as goal

abbrev pub invariant-loop-i : goal.invariant-loop-i
invariant-loop-i l = record { held : length l.ws ≡ length l.initial.ws; numbered : Numbered l.p l.types l.ws l.keys.keys l.keys.index l.i }
