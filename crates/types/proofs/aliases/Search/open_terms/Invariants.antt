use mathlib.Core.Path.{◌≡◌}
use lib.ListN.{length}
use Rattle.types.specs.Basis.{FiguredBy}
use Rattle.types.proofs.aliases.Search.open_terms.Given as goal

abbrev pub invariant-loop-at : goal.invariant-loop-at
invariant-loop-at l = record { held : length l.ws ≡ length l.initial.ws; figured : FiguredBy l.self l.ws }
