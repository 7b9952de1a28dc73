use Prim.Native.Nat.{◌+◌, ◌*◌}
use lib.ListN.{get_or}
use Rattle.backward.proofs as own
use own.LastPart.{Going}
use Rattle.backward.proofs.eval.+back.Given as goal

abbrev pub decreases-back : goal.decreases-back
decreases-back l = 16 * get_or l.st.now 1 0

abbrev pub decreases-branch : goal.decreases-branch
decreases-branch l = 16 * get_or l.st.now 1 0 + 8

abbrev pub decreases-call : goal.decreases-call
decreases-call l = 16 * get_or l.st.now 1 0 + 10

abbrev pub decreases-choose : goal.decreases-choose
decreases-choose l = 16 * get_or l.st.now 1 0 + 11

abbrev pub decreases-chosen : goal.decreases-chosen
decreases-chosen l = 16 * get_or l.st.now 1 0 + 10

abbrev pub decreases-let_one : goal.decreases-let_one
decreases-let_one l = 16 * get_or l.st.now 1 0 + 10

abbrev pub decreases-let_two : goal.decreases-let_two
decreases-let_two l = 16 * get_or l.st.now 1 0 + 10

abbrev pub decreases-matched : goal.decreases-matched
decreases-matched l = 16 * get_or l.st.now 1 0 + 10

abbrev pub decreases-pair : goal.decreases-pair
decreases-pair l = 16 * get_or l.st.now 1 0 + 10

abbrev pub decreases-step : goal.decreases-step
decreases-step l = 16 * get_or l.st.now 1 0 + 12

abbrev pub invariant-back-loop-known : goal.invariant-back-loop-known
invariant-back-loop-known l = Going l.code l.initial.ws l.ws l.initial.st l.st l.scope l.t l.node l.room l.known l.term l.value l.height

abbrev pub decreases-back-loop-known : goal.decreases-back-loop-known
decreases-back-loop-known l = get_or l.st 1 0
