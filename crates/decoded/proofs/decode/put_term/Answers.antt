use native.Mathlib.Omega.{arith}
use mathlib.Core.Path.{sym, ap, ◌∙◌}
use Rattle.program.specs.KindNumbers.{term_kind_number}
use Rattle.program.proofs.Rooms.{var-room, case_room}
use Rattle.decoded.proofs.Decoding as law
use Rattle.decoded.proofs.decode.put_term.Goals as goal

pub variable-requires : goal.variable-requires
variable-requires c =
    var-room c.requires.t_lt_max_terms.1.field (sym c.term_kind-kind.ensures ∙ ap term_kind_number c.in-Variable.is)

pub first-requires : goal.first-requires
first-requires c =
    omega (arith, law.two-there c.requires.t_lt_max_terms.1.field c.term_kind-kind.ensures c.in-Inl.is)

pub second-requires : goal.second-requires
second-requires c =
    law.two-there c.requires.t_lt_max_terms.1.field c.term_kind-kind.ensures c.in-Inl.is

pub first-requires-in-Case : goal.first-requires-in-Case
first-requires-in-Case c =
    omega (arith, case_room c.requires.t_lt_max_terms.1.field (sym c.term_kind-kind.ensures ∙ ap term_kind_number c.in-Case.is))

pub second-requires-in-Case : goal.second-requires-in-Case
second-requires-in-Case c =
    omega (arith, case_room c.requires.t_lt_max_terms.1.field (sym c.term_kind-kind.ensures ∙ ap term_kind_number c.in-Case.is))

pub third-requires : goal.third-requires
third-requires c =
    case_room c.requires.t_lt_max_terms.1.field (sym c.term_kind-kind.ensures ∙ ap term_kind_number c.in-Case.is)

pub returns-in-Variable : goal.returns-in-Variable
returns-in-Variable c =
    let variable = sym c.term_kind-kind.ensures ∙ ap term_kind_number c.in-Variable.is in
    law.put-variable (rw (c.number_of-number.ensures, c.in-Variable.is) at c.put_heads.ensures) variable
    (c.from.ensures ∙ c.variable.ensures) (c.requires.t_lt_max_terms.1.variables variable)

pub returns-in-Unit : goal.returns-in-Unit
returns-in-Unit c =
    law.put-unit (rw (c.number_of-number.ensures, c.in-Unit.is) at c.put_heads-in-Unit.ensures)
    (sym c.term_kind-kind.ensures ∙ ap term_kind_number c.in-Unit.is)

pub returns-in-Inl : goal.returns-in-Inl
returns-in-Inl c =
    law.put_two c.put_heads-in-Inl.ensures c.number_of-number.ensures c.term_kind-kind.ensures c.in-Inl.is c.first.ensures c.second.ensures

pub returns-in-Case : goal.returns-in-Case
returns-in-Case c =
    law.put_case (rw (c.number_of-number.ensures, c.in-Case.is) at c.put_heads-in-Case.ensures)
    (sym c.term_kind-kind.ensures ∙ ap term_kind_number c.in-Case.is) c.first-in-Case.ensures c.second-in-Case.ensures c.third.ensures
