use native.Mathlib.Omega.{arith}
use mathlib.Core.Path.{sym, ap, refl, ◌∙◌}
use mathlib.Core.Logic.{⊎_elim}
use lib.ListN.{get_or}
use Rattle.calls.specs.Fields.{term_lengths}
use Rattle.program.specs.KindNumbers.{type_kind_number, term_kind_number}
use Rattle.program.specs.declared.kinds.TypeKind.TheVariants as T
use Rattle.program.proofs.Rooms.{two-room}
use Rattle.types.proofs.Outer.{mu-there}
use Rattle.types.proofs.Tracing.{number-there, body-asked, kind-is}
use Rattle.types.proofs.aliases.Search.open_term.Goals as goal

pub first-named-requires : goal.first-named-requires
unfolding term_lengths
first-named-requires c = ⊎_elim
    (λ e. omega (arith, two-room c.requires.term_field {k = 9} (sym c.term_kind.ensures ∙ ap term_kind_number e) refl))
    (λ e. omega (arith, two-room c.requires.term_field {k = 10} (sym c.term_kind.ensures ∙ ap term_kind_number e) refl))
    c.in-Roll.is

pub first-requires : goal.first-requires
first-requires c =
    let is = kind-is {k' = T.Recursive} c.eq.ensures c.if-eq.true in
    let own = number-there c.requires.traceable c.if-self-from.false (sym c.from.ensures) c.number_of-j.ensures in
    mu-there c.requires.traceable.entries own c.from-n.ensures c.from-from.ensures (ap type_kind_number (sym is) ∙ c.type_kind.ensures) refl

pub trace-requires-clause-part_in_bounds : goal.trace-requires-clause-part_in_bounds
trace-requires-clause-part_in_bounds c =
    let is = kind-is {k' = T.Recursive} c.eq.ensures c.if-eq.true in
    body-asked c.requires.traceable (number-there c.requires.traceable c.if-self-from.false (sym c.from.ensures) c.number_of-j.ensures)
    (c.from-from.ensures ∙ ap (λ n. get_or c.args.self.now.types.now n 0) c.from-n.ensures) (ap type_kind_number (sym is) ∙ c.type_kind.ensures)
    c.first.ensures
