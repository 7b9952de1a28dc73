use mathlib.Core.Path.{sym, ap}
use borrow.Author.Rules.{rules}
use Rattle.types.specs.Numbers.{code_of}
use Rattle.types.proofs.Growing.{code-none}
use Rattle.types.proofs.nodes.CodeFromNumbers.from.Goals as goal

pub returns-in-0 : goal.returns-in-0
unfolding code_of
returns-in-0 c =
    sym (ap (λ f. code_of f c.args.n.at c.args.n.stands) c.in-0.is)

pub returns-in-1 : goal.returns-in-1
unfolding code_of
returns-in-1 c =
    sym (ap (λ f. code_of f c.args.n.at c.args.n.stands) c.in-1.is)

pub returns-in-2 : goal.returns-in-2
unfolding code_of
returns-in-2 c =
    sym (ap (λ f. code_of f c.args.n.at c.args.n.stands) c.in-2.is)

pub returns-in-3 : goal.returns-in-3
unfolding code_of
returns-in-3 c =
    sym (ap (λ f. code_of f c.args.n.at c.args.n.stands) c.in-3.is)

pub returns-in_default : goal.returns-in_default
returns-in_default c =
    code-none c.args.n.form c.args.n.at c.args.n.stands (search rules) (search rules) (search rules) (search rules)
