use native.Mathlib.Omega.{arith}
use Rattle.program.specs.KindNumbers.{term_kind_number}
use mathlib.Core.Path.{refl, sym, ◌∙◌, ap}
use mathlib.Core.Logic.{inl as left, inr as right}
use denote.Enum.Bare.{same_true}
use borrow.Author.Rules.{rules}
use Rattle.yields.specs.contracts.Answer.{the_type}
use Rattle.yields.proofs.Judging.{min_is, max_is}
use Rattle.valuegraph.specs.declared.kinds.Kind.TheVariants.{Pair}
use Rattle.yields.proofs.Forms as forms
use Rattle.yields.proofs.Read.{read, unit_answered, kind_same, kind_differs}
use Rattle.yields.proofs.Question.+forms.Goals as goal

pub may_yield-first_of-requires : goal.may_yield-first_of-requires
may_yield-first_of-requires t c =
    forms.row_read c.requires c.args.exact

pub may_yield-yield_variable-requires-clause-heap : goal.may_yield-yield_variable-requires-clause-heap
may_yield-yield_variable-requires-clause-heap t c =
    c.requires.graph

pub may_yield-yield_variable-requires-clause-ancillae_in : goal.may_yield-yield_variable-requires-clause-ancillae_in
may_yield-yield_variable-requires-clause-ancillae_in t c =
    c.requires.ancillae

pub may_yield-yield_variable-requires-clause-node_bound : goal.may_yield-yield_variable-requires-clause-node_bound
may_yield-yield_variable-requires-clause-node_bound t c =
    (c.requires.value, c.requires.small)

pub may_yield-kind_of-requires : goal.may_yield-kind_of-requires
may_yield-kind_of-requires t c =
    forms.node-read c.requires c.args.exact

pub may_yield-yield_part-requires : goal.may_yield-yield_part-requires
may_yield-yield_part-requires t c =
    (omega (arith, c.decreases), (c.requires, left (sym c.term_kind.ensures ∙ ap term_kind_number c.in-Inl.is, refl)))

pub may_yield-yield_part-requires-in-Inr : goal.may_yield-yield_part-requires-in-Inr
may_yield-yield_part-requires-in-Inr t c =
    (omega (arith, c.decreases), (c.requires, right (left (sym c.term_kind.ensures ∙ ap term_kind_number c.in-Inr.is, refl))))

pub may_yield-yield_pair-requires : goal.may_yield-yield_pair-requires
may_yield-yield_pair-requires t c =
    (omega (arith, c.decreases), (c.requires, sym c.term_kind.ensures ∙ ap term_kind_number c.in-Pair.is))

pub may_yield-yield_body-requires : goal.may_yield-yield_body-requires
may_yield-yield_body-requires t c =
    (omega (arith, c.decreases), (c.requires, left (sym c.term_kind.ensures ∙ ap term_kind_number c.in-Let.is)))

pub may_yield-yield_body-requires-in-LetPair : goal.may_yield-yield_body-requires-in-LetPair
may_yield-yield_body-requires-in-LetPair t c =
    (omega (arith, c.decreases), (c.requires, right (sym c.term_kind.ensures ∙ ap term_kind_number c.in-LetPair.is)))

pub may_yield-yield_case-requires : goal.may_yield-yield_case-requires
may_yield-yield_case-requires t c =
    (omega (arith, c.decreases), (c.requires, sym c.term_kind.ensures ∙ ap term_kind_number c.in-Case.is))

pub may_yield-yield_part-requires-in-Roll : goal.may_yield-yield_part-requires-in-Roll
may_yield-yield_part-requires-in-Roll t c =
    (omega (arith, c.decreases), (c.requires, right (right (sym c.term_kind.ensures ∙ ap term_kind_number c.in-Roll.is, refl))))

pub may_yield-returns-in-Variable : goal.may_yield-returns-in-Variable
may_yield-returns-in-Variable t c =
    forms.variable-answer c.requires c.args.exact (sym c.term_kind.ensures ∙ ap term_kind_number c.in-Variable.is) c.first_of.ensures
    c.yield_variable.ensures

pub may_yield-returns-in-Unit : goal.may_yield-returns-in-Unit
may_yield-returns-in-Unit t c =
    forms.unit-answer c.requires c.args.exact (sym c.term_kind.ensures ∙ ap term_kind_number c.in-Unit.is) (read c.requires c.kind_of.ensures) (unit_answered c.kind_of.result c.eq.ensures c.surely.ensures)

pub may_yield-returns-in-Inl : goal.may_yield-returns-in-Inl
may_yield-returns-in-Inl t c =
    c.yield_part.ensures

pub may_yield-returns-in-Inr : goal.may_yield-returns-in-Inr
may_yield-returns-in-Inr t c =
    c.yield_part-in-Inr.ensures

pub may_yield-returns-in-Pair : goal.may_yield-returns-in-Pair
may_yield-returns-in-Pair t c =
    c.yield_pair.ensures

pub may_yield-returns-in-Let : goal.may_yield-returns-in-Let
may_yield-returns-in-Let t c =
    c.yield_body.ensures

pub may_yield-returns-in-LetPair : goal.may_yield-returns-in-LetPair
may_yield-returns-in-LetPair t c =
    c.yield_body-in-LetPair.ensures

pub may_yield-returns-in-Case : goal.may_yield-returns-in-Case
may_yield-returns-in-Case t c =
    c.yield_case.ensures

pub may_yield-returns-in-Call : goal.may_yield-returns-in-Call
may_yield-returns-in-Call t c =
    forms.call-answer c.requires c.args.exact (sym c.term_kind.ensures ∙ ap term_kind_number c.in-Call.is)

pub may_yield-returns-in-Roll : goal.may_yield-returns-in-Roll
may_yield-returns-in-Roll t c =
    c.yield_part-in-Roll.ensures

pub may_yield-returns-in-Unroll : goal.may_yield-returns-in-Unroll
may_yield-returns-in-Unroll t c =
    forms.unroll_answer c.requires c.args.exact (sym c.term_kind.ensures ∙ ap term_kind_number c.in-Unroll.is)

pub yield_body-second_of-body-requires : goal.yield_body-second_of-body-requires
yield_body-second_of-body-requires t c =
    forms.row_read c.requires.asks c.args.exact

pub yield_body-may_yield-requires : goal.yield_body-may_yield-requires
yield_body-may_yield-requires t c =
    let lower = forms.body-asks c.requires.asks c.args.exact c.requires.binds c.second_of-body.ensures in
    (omega (arith, c.decreases), lower.1)

pub yield_body-returns : goal.yield_body-returns
yield_body-returns t c =
    forms.body-yields c.requires.asks c.args.exact c.requires.binds c.second_of-body.ensures c.may_yield.ensures

pub yield_case-second_of-left-requires : goal.yield_case-second_of-left-requires
yield_case-second_of-left-requires t c =
    forms.row_read c.requires.asks c.args.exact

pub yield_case-may_yield-first-requires : goal.yield_case-may_yield-first-requires
yield_case-may_yield-first-requires t c =
    let lower = forms.left-branch c.requires.asks c.args.exact c.requires.t_value c.second_of-left.ensures in
    (omega (arith, c.decreases), lower.1)

pub yield_case-returns-then-eq : goal.yield_case-returns-then-eq
yield_case-returns-then-eq t c =
    forms.left-yields c.requires.asks c.args.exact c.requires.t_value c.second_of-left.ensures c.may_yield-first.ensures (same_true the_type (search rules) _ _ (sym c.eq.ensures ∙ c.if-eq.true))

pub yield_case-third_of-right-requires : goal.yield_case-third_of-right-requires
yield_case-third_of-right-requires t c =
    forms.row_read c.requires.asks c.args.exact

pub yield_case-may_yield-second-requires : goal.yield_case-may_yield-second-requires
yield_case-may_yield-second-requires t c =
    let lower = forms.right-branch c.requires.asks c.args.exact c.requires.t_value c.second_of-left.ensures c.third_of-right.ensures in
    (omega (arith, c.decreases), lower.1)

pub yield_case-returns : goal.yield_case-returns
yield_case-returns t c =
    forms.either-told c.requires.asks c.args.exact c.requires.t_value c.second_of-left.ensures c.third_of-right.ensures
    c.may_yield-first.ensures c.may_yield-second.ensures (c.max.ensures ∙ max_is _ _)

pub yield_pair-kind_of-found-requires : goal.yield_pair-kind_of-found-requires
yield_pair-kind_of-found-requires t c =
    forms.node-read c.requires.asks c.args.exact

pub yield_pair-returns-then-ne : goal.yield_pair-returns-then-ne
yield_pair-returns-then-ne t c =
    forms.pair_fails c.requires.asks c.args.exact c.requires.t_value (read c.requires.asks c.kind_of-found.ensures) (kind_differs c.kind_of-found.result Pair c.ne.ensures c.if-ne.true)

pub yield_pair-first_of-left-requires : goal.yield_pair-first_of-left-requires
yield_pair-first_of-left-requires t c =
    forms.row_read c.requires.asks c.args.exact

pub yield_pair-left_of-below-requires : goal.yield_pair-left_of-below-requires
yield_pair-left_of-below-requires t c =
    forms.node-read c.requires.asks c.args.exact

pub yield_pair-may_yield-first-requires : goal.yield_pair-may_yield-first-requires
yield_pair-may_yield-first-requires t c =
    let lower = forms.left-asks c.requires.asks c.args.exact c.requires.t_value (read c.requires.asks c.kind_of-found.ensures) (kind_same c.kind_of-found.result Pair c.ne.ensures c.if-ne.false)
    c.first_of-left.ensures c.left_of-below.ensures in
    (omega (arith, c.decreases), lower.1)

pub yield_pair-returns-then-eq : goal.yield_pair-returns-then-eq
yield_pair-returns-then-eq t c =
    forms.left_fails c.requires.asks c.args.exact c.requires.t_value (read c.requires.asks c.kind_of-found.ensures) (kind_same c.kind_of-found.result Pair c.ne.ensures c.if-ne.false) c.first_of-left.ensures
    c.left_of-below.ensures c.may_yield-first.ensures (same_true the_type (search rules) _ _ (sym c.eq.ensures ∙ c.if-eq.true))

pub yield_pair-second_of-right-requires : goal.yield_pair-second_of-right-requires
yield_pair-second_of-right-requires t c =
    forms.row_read c.requires.asks c.args.exact

pub yield_pair-right_of-beside-requires : goal.yield_pair-right_of-beside-requires
yield_pair-right_of-beside-requires t c =
    forms.node-read c.requires.asks c.args.exact

pub yield_pair-may_yield-second-requires : goal.yield_pair-may_yield-second-requires
yield_pair-may_yield-second-requires t c =
    let lower = forms.right-asks c.requires.asks c.args.exact c.requires.t_value (read c.requires.asks c.kind_of-found.ensures) (kind_same c.kind_of-found.result Pair c.ne.ensures c.if-ne.false)
    c.first_of-left.ensures c.left_of-below.ensures c.second_of-right.ensures c.right_of-beside.ensures in
    (omega (arith, c.decreases), lower.1)

pub yield_pair-returns : goal.yield_pair-returns
yield_pair-returns t c =
    forms.both-told c.requires.asks c.args.exact c.requires.t_value (read c.requires.asks c.kind_of-found.ensures) (kind_same c.kind_of-found.result Pair c.ne.ensures c.if-ne.false) c.first_of-left.ensures
    c.left_of-below.ensures c.second_of-right.ensures c.right_of-beside.ensures c.may_yield-first.ensures c.may_yield-second.ensures (c.min.ensures ∙ min_is _ _)

pub yield_part-kind_of-found-requires : goal.yield_part-kind_of-found-requires
yield_part-kind_of-found-requires t c =
    forms.node-read c.requires.asks c.args.exact

pub yield_part-returns-then-ne : goal.yield_part-returns-then-ne
yield_part-returns-then-ne t c =
    forms.part_fails c.requires.asks c.args.exact c.requires.wraps (read c.requires.asks c.kind_of-found.ensures) (kind_differs c.kind_of-found.result c.args.kind c.ne.ensures c.if-ne.true)

pub yield_part-second_of-part-requires : goal.yield_part-second_of-part-requires
yield_part-second_of-part-requires t c =
    forms.row_read c.requires.asks c.args.exact

pub yield_part-left_of-below-requires : goal.yield_part-left_of-below-requires
yield_part-left_of-below-requires t c =
    forms.node-read c.requires.asks c.args.exact

pub yield_part-may_yield-requires : goal.yield_part-may_yield-requires
yield_part-may_yield-requires t c =
    let lower = forms.part-asks c.requires.asks c.args.exact c.requires.wraps (read c.requires.asks c.kind_of-found.ensures) (kind_same c.kind_of-found.result c.args.kind c.ne.ensures c.if-ne.false)
    c.second_of-part.ensures c.left_of-below.ensures in
    (omega (arith, c.decreases), lower.1)

pub yield_part-returns : goal.yield_part-returns
yield_part-returns t c =
    forms.part-yields c.requires.asks c.args.exact c.requires.wraps (read c.requires.asks c.kind_of-found.ensures) (kind_same c.kind_of-found.result c.args.kind c.ne.ensures c.if-ne.false) c.second_of-part.ensures
    c.left_of-below.ensures c.may_yield.ensures
