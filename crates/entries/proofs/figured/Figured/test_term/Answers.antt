use lib.ListN.{length}
use native.Mathlib.Omega.{arith}
use mathlib.Core.Path.{sym, ◌∙◌}
use borrow.Author.Tests.{not-true, not-false}
use Rattle.program.proofs.Rooms.{term-kind-room}
use Rattle.program.proofs.Lists.{types_in_term_lem, functions_in-term, terms_in-term}
use Rattle.calls.proofs.Entries.{below_wider}
use Rattle.entries.proofs.Terms.{types-decided, functions-decided, plain-decided, terms-decided, terms-noted, type-absent, term_not_lower, function-absent, used-before, type_not_plain, term-sound}
use Rattle.entries.proofs.figured.Figured.test_term.Goals as goal

pub overflow_add-at : goal.overflow_add-at
overflow_add-at c =
    omega (arith, term-kind-room c.requires.term_field)

pub all_below-requires : goal.all_below-requires
all_below-requires c =
    omega (arith, types_in_term_lem c.requires.term_field, c.types_in_term-t.ensures)

pub returns-then-not-all_below : goal.returns-then-not-all_below
returns-then-not-all_below c =
    type-absent _ _ _ _ _ _ _ _ (types-decided c.requires.term_field _ _ _ _ c.types_in_term-t.ensures c.all_below.ensures
    (not-true c.all_below.result c.if-not-all_below.true-raw))

pub all_below-requires-2 : goal.all_below-requires-2
all_below-requires-2 c =
    omega (arith, terms_in-term c.requires.term_field, c.terms_from-from.ensures, c.terms_in_term-n.ensures)

pub returns-then-not-all_below-2 : goal.returns-then-not-all_below-2
returns-then-not-all_below-2 c =
    term_not_lower _ _ _ _ _ _ _ _ (types-decided c.requires.term_field _ _ _ _ c.types_in_term-t.ensures
    c.all_below.ensures (not-false c.all_below.result c.if-not-all_below.false-raw))
    (terms-decided c.requires.term_field _ _ _ _ _ c.terms_from-from.ensures c.terms_in_term-n.ensures
    c.all_below-2.ensures (not-true c.all_below-2.result c.if-not-all_below-2.true-raw))

pub overflow_add-at-2 : goal.overflow_add-at-2
overflow_add-at-2 c =
    omega (arith, term-kind-room c.requires.term_field)

pub all_below-requires-3 : goal.all_below-requires-3
all_below-requires-3 c =
    omega (arith, functions_in-term c.requires.term_field, c.functions_in_term-f.ensures)

pub returns-then-not-all_below-3 : goal.returns-then-not-all_below-3
returns-then-not-all_below-3 c =
    function-absent _ _ _ _ _ _ _ _ (types-decided c.requires.term_field _ _ _ _ c.types_in_term-t.ensures
    c.all_below.ensures (not-false c.all_below.result c.if-not-all_below.false-raw))
    (terms-decided c.requires.term_field _ _ _ _ _ c.terms_from-from.ensures c.terms_in_term-n.ensures
    c.all_below-2.ensures (not-false c.all_below-2.result c.if-not-all_below-2.false-raw))
    (functions-decided c.requires.term_field _ _ _ _ c.functions_in_term-f.ensures c.all_below-3.ensures
    (not-true c.all_below-3.result c.if-not-all_below-3.true-raw))

pub use_terms-requires-clause-n_in_bounds : goal.use_terms-requires-clause-n_in_bounds
use_terms-requires-clause-n_in_bounds c =
    omega (arith, terms_in-term c.requires.term_field, c.terms_from-from.ensures, c.terms_in_term-n.ensures)

pub use_terms-requires-clause-n_value : goal.use_terms-requires-clause-n_value
use_terms-requires-clause-n_value c =
    below_wider
    c.args.k _ _ (omega arith) (sym c.all_below-2.ensures ∙ not-false c.all_below-2.result c.if-not-all_below-2.false-raw)

pub shape_of-used-then-not-use_terms : goal.shape_of-used-then-not-use_terms
shape_of-used-then-not-use_terms c =
    c.use_terms.auto.used

pub returns-then-not-use_terms : goal.returns-then-not-use_terms
returns-then-not-use_terms c =
    used-before _ _ _ _ _ _ _ _ _ (types-decided c.requires.term_field _ _ _ _ c.types_in_term-t.ensures c.all_below.ensures
    (not-false c.all_below.result c.if-not-all_below.false-raw))
    (terms-decided c.requires.term_field _ _ _ _ _ c.terms_from-from.ensures c.terms_in_term-n.ensures
    c.all_below-2.ensures (not-false c.all_below-2.result c.if-not-all_below-2.false-raw))
    (functions-decided c.requires.term_field _ _ _ _ c.functions_in_term-f.ensures c.all_below-3.ensures
    (not-false c.all_below-3.result c.if-not-all_below-3.false-raw))
    (terms-noted c.requires.term_field _ _ _ _ _ _ c.terms_from-from.ensures c.terms_in_term-n.ensures
    c.use_terms.ensures (not-true c.use_terms.result c.if-not-use_terms.true-raw))

pub overflow_add-at-3 : goal.overflow_add-at-3
overflow_add-at-3 c =
    omega (arith, term-kind-room c.requires.term_field)

pub all_plain-requires-clause-n_in_bounds : goal.all_plain-requires-clause-n_in_bounds
all_plain-requires-clause-n_in_bounds c =
    omega (arith, types_in_term_lem c.requires.term_field, c.types_in_term-t.ensures)

pub all_plain-requires-clause-n_value : goal.all_plain-requires-clause-n_value
all_plain-requires-clause-n_value c =
    below_wider (length c.args.self.now.types.now) _ _ (omega arith) (sym c.all_below.ensures ∙ not-false c.all_below.result
    c.if-not-all_below.false-raw)

pub shape_of-used-then-not-all_plain : goal.shape_of-used-then-not-all_plain
shape_of-used-then-not-all_plain c =
    c.use_terms.auto.used

pub returns-then-not-all_plain : goal.returns-then-not-all_plain
returns-then-not-all_plain c =
    type_not_plain _ _ _ _ _ _ _ _ _ (types-decided c.requires.term_field _ _ _ _ c.types_in_term-t.ensures
    c.all_below.ensures (not-false c.all_below.result c.if-not-all_below.false-raw))
    (terms-decided c.requires.term_field _ _ _ _ _ c.terms_from-from.ensures c.terms_in_term-n.ensures
    c.all_below-2.ensures (not-false c.all_below-2.result c.if-not-all_below-2.false-raw))
    (functions-decided c.requires.term_field _ _ _ _ c.functions_in_term-f.ensures c.all_below-3.ensures
    (not-false c.all_below-3.result c.if-not-all_below-3.false-raw))
    (terms-noted c.requires.term_field _ _ _ _ _ _ c.terms_from-from.ensures c.terms_in_term-n.ensures
    c.use_terms.ensures (not-false c.use_terms.result c.if-not-use_terms.false-raw))
    (plain-decided c.requires.term_field _ _ _ _ _ c.types_in_term-t.ensures c.all_plain.ensures
    (not-true c.all_plain.result c.if-not-all_plain.true-raw))

pub shape_of-used : goal.shape_of-used
shape_of-used c =
    c.use_terms.auto.used

pub returns : goal.returns
returns c =
    term-sound _ _ _ _ _ _ _ _ _ (types-decided c.requires.term_field _ _ _ _ c.types_in_term-t.ensures c.all_below.ensures
    (not-false c.all_below.result c.if-not-all_below.false-raw))
    (terms-decided c.requires.term_field _ _ _ _ _ c.terms_from-from.ensures c.terms_in_term-n.ensures
    c.all_below-2.ensures (not-false c.all_below-2.result c.if-not-all_below-2.false-raw))
    (functions-decided c.requires.term_field _ _ _ _ c.functions_in_term-f.ensures c.all_below-3.ensures
    (not-false c.all_below-3.result c.if-not-all_below-3.false-raw))
    (terms-noted c.requires.term_field _ _ _ _ _ _ c.terms_from-from.ensures c.terms_in_term-n.ensures
    c.use_terms.ensures (not-false c.use_terms.result c.if-not-use_terms.false-raw))
    (plain-decided c.requires.term_field _ _ _ _ _ c.types_in_term-t.ensures c.all_plain.ensures
    (not-false c.all_plain.result c.if-not-all_plain.false-raw))
