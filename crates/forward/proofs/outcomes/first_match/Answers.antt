use Rattle.forward.proofs.Answers.{is_value_lem, is_refused}
use Rattle.forward.proofs.Leaves.{check-row, check-asks, check-refused, check-chooses, check-chosen, check-passes, check-yields}
use Rattle.forward.proofs.outcomes.first_match.Goals as goal

pub returns-then-out-ge-STOPPED : goal.returns-then-out-ge-STOPPED
returns-then-out-ge-STOPPED c =
    check-refused c.requires (is_refused c.if-out-ge-STOPPED.true)

pub chooses_by_ancilla-requires-clause-rows : goal.chooses_by_ancilla-requires-clause-rows
chooses_by_ancilla-requires-clause-rows c =
    c.requires.rows

pub chooses_by_ancilla-requires-clause-t_bound : goal.chooses_by_ancilla-requires-clause-t_bound
chooses_by_ancilla-requires-clause-t_bound c =
    (c.requires.term, c.requires.kind)

pub returns-then-chooses_by_ancilla : goal.returns-then-chooses_by_ancilla
returns-then-chooses_by_ancilla c =
    check-chosen c.requires (is_value_lem c.if-out-ge-STOPPED.false)
    (check-chooses c.requires c.ancillae_in-q.ensures c.count_in-n.ensures c.chooses_by_ancilla.ensures) c.if-chooses_by_ancilla.true

pub second_of-left-requires : goal.second_of-left-requires
second_of-left-requires c =
    check-row c.requires

pub yields-requires : goal.yields-requires
yields-requires c =
    check-asks c.requires (is_value_lem c.if-out-ge-STOPPED.false)
    (check-chooses c.requires c.ancillae_in-q.ensures c.count_in-n.ensures c.chooses_by_ancilla.ensures) c.if-chooses_by_ancilla.false
    _ c.second_of-left.ensures

pub returns-then-yields : goal.returns-then-yields
returns-then-yields c =
    check-yields c.requires (is_value_lem c.if-out-ge-STOPPED.false)
    (check-chooses c.requires c.ancillae_in-q.ensures c.count_in-n.ensures c.chooses_by_ancilla.ensures) c.if-chooses_by_ancilla.false
    _ c.second_of-left.ensures c.yields.ensures c.if-yields.true
    c.refuse.ensures.status

pub returns : goal.returns
returns c =
    check-passes c.requires (is_value_lem c.if-out-ge-STOPPED.false)
    (check-chooses c.requires c.ancillae_in-q.ensures c.count_in-n.ensures c.chooses_by_ancilla.ensures) c.if-chooses_by_ancilla.false
    _ c.second_of-left.ensures c.yields.ensures c.if-yields.false
