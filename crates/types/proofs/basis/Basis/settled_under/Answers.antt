use mathlib.Core.Path.{sym, ap, ◌∙◌}
use lib.ListN.{get_or}
use Rattle.types.proofs.Plain.{closed-settled, alias-there, alias-settled, variable-settled, under-settled}
use Rattle.types.proofs.basis.Basis.settled_under.Goals as goal

pub returns-then-free_of-eq0 : goal.returns-then-free_of-eq0
returns-then-free_of-eq0 c =
    closed-settled c.args.self.now.sources c.args.at c.args.stands c.requires.0 c.requires.1 c.number_of-i.ensures
    (sym c.free_of.ensures ∙ c.if-free_of-eq0.true)

pub number_of-requires : goal.number_of-requires
number_of-requires c =
    (alias-there c.args.self.now.sources c.args.at c.args.stands c.requires.0 c.requires.1 c.number_of-i.ensures
    c.number_of-j.ensures c.in-Some.ensures).1

pub returns-in-Some : goal.returns-in-Some
returns-in-Some c =
    alias-settled c.args.self.now.sources c.args.at c.args.stands c.requires.0 c.requires.1 c.number_of-i.ensures
    c.number_of-j.ensures c.in-Some.ensures c.number_of.ensures

pub returns-in-Variable : goal.returns-in-Variable
returns-in-Variable c =
    variable-settled c.args.self.now.sources c.args.at c.args.stands c.requires.0 c.requires.1 c.number_of-i.ensures c.number_of-j.ensures
    (c.from-at.ensures ∙ ap (λ n. get_or c.args.self.now.types.now n 0) c.from.ensures) c.in-Variable.ensures

pub returns-in_default-type_kind : goal.returns-in_default-type_kind
returns-in_default-type_kind c =
    under-settled c.args.self.now.sources c.args.at c.args.stands c.requires.0 c.requires.1 c.number_of-i.ensures c.number_of-j.ensures
    (λ z. c.if-free_of-eq0.false (c.free_of.ensures ∙ z))
    (c.from-at.ensures ∙ ap (λ n. get_or c.args.self.now.types.now n 0) c.from.ensures) c.type_kind.ensures c.in_default-type_kind.not-Variable
