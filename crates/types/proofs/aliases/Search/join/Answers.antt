use Rattle.types.proofs.Hinting.{noted-figured}
use Rattle.types.proofs.aliases.Search.join.Goals as goal

pub returns-then-eq : goal.returns-then-eq
returns-then-eq c =
    noted-figured c.requires.traceable.entries.few c.look-c.ensures c.offer.ensures
