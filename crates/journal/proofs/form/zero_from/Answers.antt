use Rattle.std.proofs.Common.{eqb, rules, tests}
use native.Mathlib.Omega.{arith}
use mathlib.Core.Path.{◌∙◌}
use lib.ListN.{drop, length-drop}
use lib.Seq.{take_all}
use Rattle.std.proofs.lemmas.Iterator.{YieldsList-from_slice}
use Rattle.std.proofs.lemmas.Iterator.Search.{all_from_yields_List}
use Rattle.journal.proofs.Zeros.{zeros_all}
use Rattle.journal.proofs.form.zero_from.Goals as goal

pub returns : goal.returns
returns c =
    all_from_yields_List {all = drop c.args.at c.args.journal.now} (λ x. eqb x 0) _ _ c.all.result c.all.ensures.ran
    (YieldsList-from_slice _ (c.iter.ensures.rest ∙ take_all _ _ (omega (arith, length-drop c.args.at c.args.journal.now))))
    (λ x b q k. search (rules, tests)) ∙ zeros_all _
