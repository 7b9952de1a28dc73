use native.Mathlib.Omega.{arith}
use Rattle.journal.proofs.Turns.{is_value_lem, open_length, open_written}
use Rattle.journal.proofs.writing.write_open.Goals as goal

pub put_held-requires : goal.put_held-requires
put_held-requires c =
    (omega (arith, open_length c.args.held.now c.requires.held_value, c.requires.held_in_bounds), (is_value_lem c.args.held.now c.requires.held_value).short)

pub clear_from-requires : goal.clear_from-requires
clear_from-requires c =
    omega (arith, c.put_held.auto.journal, open_length c.args.held.now c.requires.held_value, c.requires.held_in_bounds)

pub returns : goal.returns
returns c =
    open_written c.args.held.now c.requires.held_value c.args.journal.now _ _ c.requires.held_in_bounds c.put_held.ensures
    c.clear_from.ensures
