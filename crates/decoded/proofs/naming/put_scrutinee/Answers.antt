use native.Mathlib.Omega.{arith}
use mathlib.Core.Path.{sym, ap, ◌∙◌}
use Rattle.program.specs.KindNumbers.{term_kind_number}
use Rattle.decoded.specs.Naming.{set_in}
use Rattle.decoded.proofs.Sets.{scrutinee-number, part-there, scrutinee-put}
use Rattle.decoded.proofs.naming.put_scrutinee.Goals as goal

pub set_of-names-requires : goal.set_of-names-requires
set_of-names-requires c =
    part-there c.requires.t_lt_max_terms.1 (sym c.row_kind.ensures ∙ ap term_kind_number c.in-Case.is) c.requires.t_lt_max_terms.0
    (omega arith) (omega arith)

pub returns : goal.returns
returns c =
    scrutinee-put (omega arith) (omega arith) (sym c.row_kind.ensures ∙ ap term_kind_number c.in-Case.is)
    (c.set_of-names.ensures ∙ ap (set_in _) (scrutinee-number _ _ (omega arith))) c.low_half.ensures c.high_half.ensures
