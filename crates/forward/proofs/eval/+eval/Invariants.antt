use Prim.Native.Nat.{◌+◌, ◌*◌, ◌-◌}
use lib.ListN.{get_or}
use Rattle.forward.proofs.eval.+eval.Given as goal

abbrev pub decreases-call : goal.decreases-call
decreases-call l = 16 * get_or l.st.now 1 0 + 10

abbrev pub decreases-choose : goal.decreases-choose
decreases-choose l = 16 * get_or l.st.now 1 0 + 10

abbrev pub decreases-eval : goal.decreases-eval
decreases-eval l = 16 * get_or l.st.now 1 0

abbrev pub decreases-let_one : goal.decreases-let_one
decreases-let_one l = 16 * get_or l.st.now 1 0 + 10

abbrev pub decreases-let_two : goal.decreases-let_two
decreases-let_two l = 16 * get_or l.st.now 1 0 + 10

abbrev pub decreases-pair : goal.decreases-pair
decreases-pair l = 16 * get_or l.st.now 1 0 + 10

abbrev pub decreases-place : goal.decreases-place
decreases-place l = 16 * get_or l.st.now 1 0 + (8 - l.k)

abbrev pub decreases-under : goal.decreases-under
decreases-under l = 16 * get_or l.st.now 1 0 + 1

abbrev pub decreases-unroll : goal.decreases-unroll
decreases-unroll l = 16 * get_or l.st.now 1 0 + 10

abbrev pub decreases-wrap : goal.decreases-wrap
decreases-wrap l = 16 * get_or l.st.now 1 0 + 10
