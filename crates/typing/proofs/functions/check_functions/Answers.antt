use mathlib.Core.Path.{◌∙◌}
use Rattle.typing.proofs.Checks.{readable-types, term-fields}
use Rattle.typing.proofs.Turns.{typeable_kept}
use Rattle.typing.proofs.functions.check_functions.Goals as goal

pub prepare-requires-clause-readable : goal.prepare-requires-clause-readable
prepare-requires-clause-readable c =
    (readable-types c.requires.typeable, c.requires.typeable.room)

pub prepare-requires-clause-by_index : goal.prepare-requires-clause-by_index
prepare-requires-clause-by_index c =
    term-fields c.requires.typeable

pub check_all-requires-clause-typeable : goal.check_all-requires-clause-typeable
check_all-requires-clause-typeable c =
    typeable_kept c.prepare.auto.ws c.requires.typeable

pub check_all-requires-clause-figured : goal.check_all-requires-clause-figured
check_all-requires-clause-figured c =
    c.prepare.ensures

pub check_all-requires-clause-signatures_are : goal.check_all-requires-clause-signatures_are
check_all-requires-clause-signatures_are c =
    c.requires.signatures_are

pub shape_of-ws : goal.shape_of-ws
shape_of-ws c =
    c.check_all.auto.ws ∙ c.prepare.auto.ws

pub returns : goal.returns
returns c =
    c.check_all.ensures
