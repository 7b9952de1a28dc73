use native.Mathlib.Omega.{arith}
use borrow.Author.Rules.{rules}
use Rattle.journal.proofs.Turns.{rollback_room, rollback_written}
use borrow.Author.Rules.{rules}
use Rattle.journal.proofs.writing.write_rollback.Goals as goal

pub set_held-requires-clause-from_le_to : goal.set_held-requires-clause-from_le_to
set_held-requires-clause-from_le_to c =
    let r = rollback_room c.args.pl c.args.journal.now c.args.held.now c.requires.stands c.requires.held_value
    c.requires.held_in_bounds in
    (r.ordered, r.inside)

pub set_held-requires-clause-from_in_bounds : goal.set_held-requires-clause-from_in_bounds
set_held-requires-clause-from_in_bounds c =
    let r = rollback_room c.args.pl c.args.journal.now c.args.held.now c.requires.stands c.requires.held_value
    c.requires.held_in_bounds in
    (r.whole, r.short)

pub overflow_sub-to : goal.overflow_sub-to
overflow_sub-to c =
    let r = rollback_room c.args.pl c.args.journal.now c.args.held.now c.requires.stands c.requires.held_value
    c.requires.held_in_bounds in
    r.ordered

pub overflow_add-held-2 : goal.overflow_add-held-2
overflow_add-held-2 c =
    let r = rollback_room c.args.pl c.args.journal.now c.args.held.now c.requires.stands c.requires.held_value
    c.requires.held_in_bounds in
    search rules

pub clear_from-requires : goal.clear_from-requires
clear_from-requires c =
    let r = rollback_room c.args.pl c.args.journal.now c.args.held.now c.requires.stands c.requires.held_value
    c.requires.held_in_bounds in
    omega (arith, c.set_held.auto.journal, r.whole)

pub returns : goal.returns
returns c =
    rollback_written c.args.pl c.args.journal.now c.args.held.now c.requires.stands c.requires.held_value c.requires.held_in_bounds _ _
    c.set_held.ensures c.clear_from.ensures
