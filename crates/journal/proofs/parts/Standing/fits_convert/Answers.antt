use mathlib.Core.Path.{sym, ap}
use lib.ListN.{length}
use lib.Dec.{leb}
use borrow.Author.Rules.{rules}
use Rattle.journal.proofs.Stands.{in_order}
use Rattle.journal.proofs.Turns.{is_value_lem, are_values_lem, convert_length}
use Rattle.journal.proofs.parts.Standing.fits_convert.Goals as goal

pub returns : goal.returns
returns c =
    λ f n. ap (λ m. leb m (length c.args.self.now.journal.now))
    (sym (convert_length c.args.self.now.places c.args.self.now.journal.now c.args.held.now c.args.ancillae.now c.args.self.now.in_form c.requires.0 c.requires.1 f n))

pub overflow_add-result-2 : goal.overflow_add-result-2
overflow_add-result-2 c =
    let h = in_order c.args.self.now in
    let v = is_value_lem c.args.held.now c.requires.0 in
    search rules

pub overflow_add-result-3 : goal.overflow_add-result-3
overflow_add-result-3 c =
    let h = in_order c.args.self.now in
    let v = is_value_lem c.args.held.now c.requires.0 in
    let a = are_values_lem c.args.ancillae.now c.requires.1 in
    search rules
