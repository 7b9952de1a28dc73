use mathlib.Core.Path.{sym, subst, ◌∙◌}
use mathlib.Core.List.{[]}
use Rattle.valuebytes.specs.Typing.{Asked}
use Rattle.admission.proofs.Parameters.{side-asked}
use Rattle.admission.proofs.Right.{right-value}
use Rattle.admission.proofs.Typed.{as_many, typed_not, typed-all}
use Rattle.admission.proofs.Callee.values_typed.Goals as goal

pub ancillae_typed-requires : goal.ancillae_typed-requires
ancillae_typed-requires c =
    as_many [] _ _ _ _ c.requires

pub has_type-requires-clause-asked : goal.has_type-requires-clause-asked
has_type-requires-clause-asked c =
    subst (Asked c.args.self.now.table.program.now c.args.self.now.table.types.now) (sym c.side.ensures) (side-asked c.args.self.now.callable _)

pub has_type-requires-clause-s_value : goal.has_type-requires-clause-s_value
has_type-requires-clause-s_value c =
    right-value _ _ _ _ c.requires

pub returns-then-ancillae_typed : goal.returns-then-ancillae_typed
returns-then-ancillae_typed c =
    typed-all _ _ _ _ _ c.requires _ c.ancillae_typed.ensures c.if-ancillae_typed.true _ c.side.ensures c.has_type.ensures

pub returns-else-ancillae_typed : goal.returns-else-ancillae_typed
returns-else-ancillae_typed c =
    c.if-ancillae_typed.false ∙ typed_not _ _ _ _ _ c.requires _ c.ancillae_typed.ensures c.if-ancillae_typed.false
