use native.Mathlib.Omega.{arith}
use mathlib.Core.Path.{sym, ◌∙◌}
use Rattle.valuegraph.proofs.Equal.{alike_false}
use Rattle.yields.proofs.Judging.{judged, judged-no, glanced}
use Rattle.yields.proofs.Question.agree.Goals as goal

pub same-requires-clause-heap : goal.same-requires-clause-heap
same-requires-clause-heap c =
    rw c.top.ensures c.requires.heap

pub same-requires-clause-a_lt_top : goal.same-requires-clause-a_lt_top
same-requires-clause-a_lt_top c =
    rw c.top.ensures c.requires.known_bound

pub returns-then-exact : goal.returns-then-exact
returns-then-exact c =
    judged c.surely.ensures c.same.ensures

pub alike-requires-clause-room : goal.alike-requires-clause-room
alike-requires-clause-room c =
    omega (arith, c.requires.heap.held, c.requires.known_bound.0)

pub alike-requires-clause-room_2 : goal.alike-requires-clause-room_2
alike-requires-clause-room_2 c =
    omega (arith, c.requires.heap.held, c.requires.known_bound.1)

pub returns-then-alike : goal.returns-then-alike
returns-then-alike c =
    glanced c.if-exact.false

pub returns : goal.returns
returns c =
    judged-no (alike_false c.requires.heap c.requires.known_bound.0 c.requires.known_bound.1 (sym c.alike.ensures ∙ c.if-alike.false))
