use Rattle.std.proofs.Common.{rules, refl, sym, ◌∙◌}
use lib.Seq.{length-take-le}
use Rattle.rules.specs.Limits.{max_value_bytes}
use Rattle.conversions.proofs.Forms.{read_stands}
use Rattle.conversions.proofs.Rollbacks.{unread, none_stands, some_count, taken_back_lem, not_taken, inside, front-one, front_long, taken}
use Rattle.conversions.proofs.returning.rollback.Goals as goal

pub returns-in_err-places : goal.returns-in_err-places
returns-in_err-places c =
    unread _ _ _ c.survey.ensures (sym c.ok_or.ensures.value ∙ c.in_err-places.was) (search rules)

pub returns-then-places-eq0 : goal.returns-then-places-eq0
returns-then-places-eq0 c =
    none_stands _ _ _ (read_stands _ c.survey.ensures c.ok_or.ensures.value c.in_ok-places.was) c.if-places-eq0.true

pub returns-in_err-done : goal.returns-in_err-done
unfolding max_value_bytes
returns-in_err-done c =
    let s = read_stands _ c.survey.ensures c.ok_or.ensures.value c.in_ok-places.was in
    let R = taken_back_lem _ _ s (some_count c.if-places-eq0.false) _ _ c.newest-newest.ensures.function
    c.newest-newest.ensures.ancillae c.held_value.ensures refl c.in_err-done.ensures in
    not_taken _ _ s (some_count c.if-places-eq0.false) _ _ R (search rules)

pub slice_bounds-output-end : goal.slice_bounds-output-end
unfolding max_value_bytes
slice_bounds-output-end c =
    let s = read_stands _ c.survey.ensures c.ok_or.ensures.value c.in_ok-places.was in
    let R = taken_back_lem _ _ s (some_count c.if-places-eq0.false) _ _ c.newest-newest.ensures.function
    c.newest-newest.ensures.ancillae c.held_value.ensures refl c.in_ok-done.ensures in
    inside _ _ s (some_count c.if-places-eq0.false) _ _ R c.from-n.ensures

pub slice_bounds-strike-end : goal.slice_bounds-strike-end
unfolding max_value_bytes
slice_bounds-strike-end c =
    let s = read_stands _ c.survey.ensures c.ok_or.ensures.value c.in_ok-places.was in
    let R = taken_back_lem _ _ s (some_count c.if-places-eq0.false) _ _ c.newest-newest.ensures.function
    c.newest-newest.ensures.ancillae c.held_value.ensures refl c.in_ok-done.ensures in
    sym (length-take-le _ _ (inside _ _ s (some_count c.if-places-eq0.false) _ _ R c.from-n.ensures))

pub strike-requires-clause-held_value : goal.strike-requires-clause-held_value
unfolding max_value_bytes
strike-requires-clause-held_value c =
    let s = read_stands _ c.survey.ensures c.ok_or.ensures.value c.in_ok-places.was in
    let R = taken_back_lem _ _ s (some_count c.if-places-eq0.false) _ _ c.newest-newest.ensures.function
    c.newest-newest.ensures.ancillae c.held_value.ensures refl c.in_ok-done.ensures in
    (front-one _ _ s (some_count c.if-places-eq0.false) _ _ R c.from-n.ensures, front_long _ _ s (some_count c.if-places-eq0.false) _ _ R c.from-n.ensures)

pub returns : goal.returns
unfolding max_value_bytes
returns c =
    let s = read_stands _ c.survey.ensures c.ok_or.ensures.value c.in_ok-places.was in
    let R = taken_back_lem _ _ s (some_count c.if-places-eq0.false) _ _ c.newest-newest.ensures.function
    c.newest-newest.ensures.ancillae c.held_value.ensures refl c.in_ok-done.ensures in
    taken _ _ s (some_count c.if-places-eq0.false) _ _ R c.from-n.ensures c.strike.ensures
