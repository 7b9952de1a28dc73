use Rattle.std.proofs.Common.{eqb, rules, tests}
use Rattle.std.proofs.lemmas.Iterator.{YieldsList-from_slice}
use Rattle.std.proofs.lemmas.Iterator.Search.{position_from_yields_List}
use Rattle.calltext.proofs.Finding.{found, not_found}
use Rattle.calltext.proofs.words.find.Goals as goal

pub returns-in-Some-clause-place : goal.returns-in-Some-clause-place
returns-in-Some-clause-place c =
    found c.args.byte c.args.text.now c.args.at c.args.end c.position.result c.requires.in_bounds.0 c.requires.in_bounds.1
    (position_from_yields_List (λ x. eqb x c.args.byte) _ _ c.position.result c.position.ensures.ran (YieldsList-from_slice _ cc) (λ x b q k. search (rules, tests))) _ c.in-Some.is

pub returns-in-None-clause-place : goal.returns-in-None-clause-place
returns-in-None-clause-place c =
    not_found c.args.byte c.args.text.now c.args.at c.args.end c.position.result c.requires.in_bounds.0 c.requires.in_bounds.1
    (position_from_yields_List (λ x. eqb x c.args.byte) _ _ c.position.result c.position.ensures.ran (YieldsList-from_slice _ cc) (λ x b q k. search (rules, tests))) c.in-None.is
