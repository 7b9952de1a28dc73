use native.Mathlib.Omega.{arith}
use borrow.Author.Rules.{rules}
use Rattle.journal.proofs.Turns.{convert_room, convert_written}
use borrow.Author.Rules.{rules}
use Rattle.journal.proofs.writing.write_convert.Goals as goal

pub set_held-requires-clause-from_le_to : goal.set_held-requires-clause-from_le_to
set_held-requires-clause-from_le_to c =
    let r = convert_room c.args.pl c.args.journal.now c.args.held.now c.args.ancillae.now c.requires.stands
    c.requires.held_value.0 c.requires.held_value.1 c.args.function c.args.steps c.requires.ancillae_in_bounds in
    (r.ordered, r.inside)

pub set_held-requires-clause-from_in_bounds : goal.set_held-requires-clause-from_in_bounds
set_held-requires-clause-from_in_bounds c =
    let r = convert_room c.args.pl c.args.journal.now c.args.held.now c.args.ancillae.now c.requires.stands
    c.requires.held_value.0 c.requires.held_value.1 c.args.function c.args.steps c.requires.ancillae_in_bounds in
    (omega (arith, r.whole), r.short)

pub overflow_sub-at : goal.overflow_sub-at
overflow_sub-at c =
    let r = convert_room c.args.pl c.args.journal.now c.args.held.now c.args.ancillae.now c.requires.stands
    c.requires.held_value.0 c.requires.held_value.1 c.args.function c.args.steps c.requires.ancillae_in_bounds in
    r.ordered

pub overflow_add-at-2 : goal.overflow_add-at-2
overflow_add-at-2 c =
    let r = convert_room c.args.pl c.args.journal.now c.args.held.now c.args.ancillae.now c.requires.stands
    c.requires.held_value.0 c.requires.held_value.1 c.args.function c.args.steps c.requires.ancillae_in_bounds in
    search rules

pub add_entry-requires : goal.add_entry-requires
add_entry-requires c =
    let r = convert_room c.args.pl c.args.journal.now c.args.held.now c.args.ancillae.now c.requires.stands
    c.requires.held_value.0 c.requires.held_value.1 c.args.function c.args.steps c.requires.ancillae_in_bounds in
    (omega (arith, c.set_held.auto.journal, r.whole), r.few)

pub overflow_add-at-3 : goal.overflow_add-at-3
overflow_add-at-3 c =
    let r = convert_room c.args.pl c.args.journal.now c.args.held.now c.args.ancillae.now c.requires.stands
    c.requires.held_value.0 c.requires.held_value.1 c.args.function c.args.steps c.requires.ancillae_in_bounds in
    search rules

pub overflow_add-at-4 : goal.overflow_add-at-4
overflow_add-at-4 c =
    let r = convert_room c.args.pl c.args.journal.now c.args.held.now c.args.ancillae.now c.requires.stands
    c.requires.held_value.0 c.requires.held_value.1 c.args.function c.args.steps c.requires.ancillae_in_bounds in
    search rules

pub clear_from-requires : goal.clear_from-requires
clear_from-requires c =
    let r = convert_room c.args.pl c.args.journal.now c.args.held.now c.args.ancillae.now c.requires.stands
    c.requires.held_value.0 c.requires.held_value.1 c.args.function c.args.steps c.requires.ancillae_in_bounds in
    omega (arith, c.add_entry.auto.journal, c.set_held.auto.journal, r.whole)

pub returns : goal.returns
returns c =
    convert_written c.args.pl c.args.journal.now c.args.held.now c.args.ancillae.now c.requires.stands
    c.requires.held_value.0 c.requires.held_value.1 c.args.function c.args.steps c.requires.ancillae_in_bounds _ _ _ c.set_held.ensures
    c.add_entry.ensures c.clear_from.ensures
