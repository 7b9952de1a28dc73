use native.Mathlib.Omega.{arith}
use mathlib.Core.Path.{ap, refl, subst, ◌∙◌}
use lib.ListN.{get_or}
use Rattle.types.specs.Numbering.{Finds}
use Rattle.types.proofs.Entries.{found-few}
use Rattle.types.proofs.Entering.{entry-asked, numbered_more}
use Rattle.types.proofs.numbering.enter.Goals as goal

pub figure_of-f-requires-clause-at_value : goal.figure_of-f-requires-clause-at_value
figure_of-f-requires-clause-at_value c =
    (entry-asked c.requires.readable.0 c.requires.readable.1 c.requires.numbered
    (c.from-at.ensures ∙ ap (λ n. get_or c.args.types.now n 0) c.from.ensures)).1

pub number-own-requires : goal.number-own-requires
number-own-requires c =
    found-few c.find.result c.find.ensures (omega (arith, c.from-2.ensures, c.requires.readable.0.few, c.requires.readable.1))

pub put_entry-requires-clause-at_value : goal.put_entry-requires-clause-at_value
put_entry-requires-clause-at_value c =
    (entry-asked c.requires.readable.0 c.requires.readable.1 c.requires.numbered
    (c.from-at.ensures ∙ ap (λ n. get_or c.args.types.now n 0) c.from.ensures)).1

pub returns : goal.returns
returns c =
    rw (c.put-2.ensures.keys, c.put-2.ensures.index) (numbered_more c.requires.readable.0 c.requires.readable.1 c.requires.numbered
    (c.from-at.ensures ∙ ap (λ n. get_or c.args.types.now n 0) c.from.ensures) c.figure_of-f.ensures
    (subst (λ n. Finds c.args.keys.now.keys n c.figure_of-f.result.key c.find.result) c.from-2.ensures c.find.ensures)
    c.number-own.ensures c.put.ensures (omega (arith, c.figure_of-f.type_inv)) (omega (arith, c.figure_of-f.type_inv)) refl (omega arith)
    c.put_entry.ensures)
