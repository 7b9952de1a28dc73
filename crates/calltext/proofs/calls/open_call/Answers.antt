use Rattle.std.proofs.Common.{refl}
use Rattle.calltext.specs.Calls.{with_number, with_bytes, read_open, of_length}
use Rattle.calltext.proofs.Saying.{given, missing, counts, miscounts, argument, no_argument, parses, fails, unread}
use Rattle.calltext.proofs.calls.open_call.Goals as goal

pub returns-in_err-counted : goal.returns-in_err-counted
unfolding of_length
returns-in_err-counted c =
    let m = miscounts _ _ c.in_err-counted.ensures in
    fails c.from_residual.ensures.1 m.1 (parses (rw m.0) tt (unread _ λ k. refl))

pub returns-in_err-length_at : goal.returns-in_err-length_at
unfolding of_length read_open with_number
returns-in_err-length_at c =
    let m = missing _ _ c.in_err-length_at.ensures in
    fails c.from_residual-in_err-length_at.ensures.1 m.1
    (parses (rw (counts _ _ c.in_ok-counted.ensures, m.0)) tt
    (unread _ λ k. refl))

pub returns-in_err-bytes_at : goal.returns-in_err-bytes_at
unfolding of_length read_open with_number with_bytes
returns-in_err-bytes_at c =
    let m = no_argument c.in_err-bytes_at.ensures in
    fails c.from_residual-in_err-bytes_at.ensures.1 m.1
    (parses (rw (counts _ _ c.in_ok-counted.ensures, given _ _ c.in_ok-length_at.ensures, m.0)) tt
    (record { program = c.in_err-bytes_at.ensures.decodes.left; ancillae = refl; value = refl }))

pub returns-in_err-bytes_at-2 : goal.returns-in_err-bytes_at-2
unfolding of_length read_open with_number with_bytes
returns-in_err-bytes_at-2 c =
    let m = no_argument c.in_err-bytes_at-2.ensures in
    fails c.from_residual-in_err-bytes_at-2.ensures.1 m.1
    (parses (rw (counts _ _ c.in_ok-counted.ensures, given _ _ c.in_ok-length_at.ensures, (argument c.in_ok-bytes_at.ensures).0, m.0)) tt
    (record { program = c.in_ok-bytes_at.ensures.decodes.left; ancillae = c.in_err-bytes_at-2.ensures.decodes.left; value = refl }))

pub returns-in_err-bytes_at-3 : goal.returns-in_err-bytes_at-3
unfolding of_length read_open with_number with_bytes
returns-in_err-bytes_at-3 c =
    let m = no_argument c.in_err-bytes_at-3.ensures in
    fails c.from_residual-in_err-bytes_at-3.ensures.1 m.1
    (parses (rw (counts _ _ c.in_ok-counted.ensures, given _ _ c.in_ok-length_at.ensures, (argument c.in_ok-bytes_at.ensures).0, (argument c.in_ok-bytes_at-2.ensures).0, m.0)) tt
    (record { program = c.in_ok-bytes_at.ensures.decodes.left; ancillae = c.in_ok-bytes_at-2.ensures.decodes.left; value = c.in_err-bytes_at-3.ensures.decodes.left }))

pub returns : goal.returns
unfolding of_length read_open with_number with_bytes
returns c =
    parses (rw (counts _ _ c.in_ok-counted.ensures, given _ _ c.in_ok-length_at.ensures, (argument c.in_ok-bytes_at.ensures).0, (argument c.in_ok-bytes_at-2.ensures).0, (argument c.in_ok-bytes_at-3.ensures).0))
    ((argument c.in_ok-bytes_at.ensures).1, (argument c.in_ok-bytes_at-2.ensures).1, (argument c.in_ok-bytes_at-3.ensures).1)
    (record { program = c.in_ok-bytes_at.ensures.decodes.left; ancillae = c.in_ok-bytes_at-2.ensures.decodes.left; value = c.in_ok-bytes_at-3.ensures.decodes.left })
