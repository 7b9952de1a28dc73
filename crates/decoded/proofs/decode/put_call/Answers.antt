use native.Mathlib.Omega.{arith}
use borrow.Author.Rules.{rules}
use Rattle.program.proofs.Rooms.{term-kind-room, call-sized, call-room}
use Rattle.decoded.proofs.Decoding as law
use Rattle.decoded.proofs.decode.put_call.Goals as goal

pub call_ancillae-n-requires : goal.call_ancillae-n-requires
call_ancillae-n-requires c =
    (omega (arith, term-kind-room c.requires.t_lt_max_terms.1.field), call-sized c.requires.t_lt_max_terms.1.field c.requires.at_value)

pub first-requires : goal.first-requires
first-requires c =
    omega (arith, call-room c.requires.t_lt_max_terms.1.field c.requires.at_value)

pub overflow_add-at : goal.overflow_add-at
overflow_add-at c =
    let h = call-room c.requires.t_lt_max_terms.1.field c.requires.at_value in
    search rules

pub put_listed-requires-clause-row_lt_all_rows : goal.put_listed-requires-clause-row_lt_all_rows
put_listed-requires-clause-row_lt_all_rows c =
    let h = c.requires.t_lt_max_terms.1.few c.requires.at_value in
    (omega arith, omega arith, omega (arith, call-room c.requires.t_lt_max_terms.1.field c.requires.at_value))

pub returns : goal.returns
returns c =
    law.put-call (rw c.number_of.ensures at c.put_heads.ensures) c.put_listed.ensures c.requires.at_value c.first.ensures
    c.call_ancillae-n.ensures (let h = c.requires.t_lt_max_terms.1.few
    c.requires.at_value in let e = c.call_ancillae-n.ensures in omega arith)
