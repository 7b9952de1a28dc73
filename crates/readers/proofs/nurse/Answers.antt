use native.Mathlib.Omega.{arith}
use Rattle.std.proofs.Common.{rules}
use Rattle.readers.proofs.Reading.{stands_in, nurse_malformed, nurse_short, nurse-shown, length-narrow, count-narrow}
use Rattle.readers.proofs.nurse.Goals as goal

pub returns-in_err-journal : goal.returns-in_err-journal
returns-in_err-journal c =
    let p = nurse_malformed _ c.args.output.now (search rules) c.in_err-journal.ensures in record { answer = p.0; fills = p.1 }

pub returns-in_err-len : goal.returns-in_err-len
returns-in_err-len c =
    let p = nurse_short _ _ (stands_in c.in_ok-journal.journal c.in_ok-journal.ensures)
    (rw c.in_ok-journal.ensures at c.held_value.ensures) (search rules) c.in_err-len.ensures in record { answer = p.0; fills = p.1 }

pub overflow_cast-len : goal.overflow_cast-len
overflow_cast-len c =
    omega (arith, c.in_ok-len.ensures.0, length-narrow _ c.args.output.now c.in_ok-journal.journal.in_form c.held_value.ensures)

pub overflow_cast-standing : goal.overflow_cast-standing
overflow_cast-standing c =
    omega (arith, count-narrow _ c.args.output.now c.in_ok-journal.journal.in_form)

pub returns : goal.returns
returns c =
    let p = nurse-shown _ _ (stands_in c.in_ok-journal.journal c.in_ok-journal.ensures)
    (rw c.in_ok-journal.ensures at c.held_value.ensures) c.in_ok-len.ensures in record { answer = p.0; fills = p.1 }
