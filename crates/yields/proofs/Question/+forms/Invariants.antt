use Prim.Native.Nat.{◌+◌, ◌*◌}
use Rattle.yields.proofs.Question.+forms.Given as goal

abbrev pub decreases-may_yield : goal.decreases-may_yield
decreases-may_yield l = 2 * l.t + 1

abbrev pub decreases-yield_body : goal.decreases-yield_body
decreases-yield_body l = 2 * l.t

abbrev pub decreases-yield_case : goal.decreases-yield_case
decreases-yield_case l = 2 * l.t

abbrev pub decreases-yield_pair : goal.decreases-yield_pair
decreases-yield_pair l = 2 * l.t

abbrev pub decreases-yield_part : goal.decreases-yield_part
decreases-yield_part l = 2 * l.t
