use mathlib.Core.Path.{◌≡◌}
use lib.ListN.{length}
use Rattle.typing.specs.Waiting.{scope_bytes}
use Rattle.typing.specs.Subjects.{FiguredBy, typing_by}
use Rattle.typing.proofs.Turns.{from_by}
use Rattle.typing.proofs.functions.check_all.Given as goal

abbrev pub invariant-loop-g : goal.invariant-loop-g
invariant-loop-g l = (length l.ws ≡ length l.initial.ws) × (length l.vars ≡ scope_bytes)
    × FiguredBy l.subject l.ws × (typing_by l.subject ≡ from_by l.subject l.g)
