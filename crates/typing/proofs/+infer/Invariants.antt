use Prim.Native.Nat.{ℕ, ◌+◌, ◌*◌}
use mathlib.Core.Path.{◌≡◌}
use mathlib.Core.List.{List}
use lib.ListN.{length}
use Rattle.std.specs.Prelude.{Result}
use Rattle.typing.specs.declared.outcomes.Fault.{Fault}
use Rattle.typing.specs.Subjects.{ReadyArgumentsBy, InfersArgumentsBy}
use Rattle.typing.proofs.+infer.Given as goal

abbrev pub decreases-binds::arms : goal.decreases-binds::arms
decreases-binds::arms l = 16 * l.t + 12

abbrev pub decreases-binds::choose : goal.decreases-binds::choose
decreases-binds::choose l = 16 * l.t + 13

abbrev pub decreases-binds::let_one : goal.decreases-binds::let_one
decreases-binds::let_one l = 16 * l.t + 13

abbrev pub decreases-binds::let_two : goal.decreases-binds::let_two
decreases-binds::let_two l = 16 * l.t + 13

abbrev pub decreases-calling::arguments : goal.decreases-calling::arguments
decreases-calling::arguments l = 16 * l.t + 12

abbrev pub decreases-calling::call : goal.decreases-calling::call
decreases-calling::call l = 16 * l.t + 13

abbrev pub decreases-infer::infer : goal.decreases-infer::infer
decreases-infer::infer l = 16 * l.t + 14

abbrev pub decreases-infer::inject : goal.decreases-infer::inject
decreases-infer::inject l = 16 * l.t + 13

abbrev pub decreases-infer::pair : goal.decreases-infer::pair
decreases-infer::pair l = 16 * l.t + 13

abbrev pub decreases-infer::roll : goal.decreases-infer::roll
decreases-infer::roll l = 16 * l.t + 13

abbrev pub decreases-infer::unroll : goal.decreases-infer::unroll
decreases-infer::unroll l = 16 * l.t + 13

abbrev pub invariant-calling::arguments-loop-k : goal.invariant-calling::arguments-loop-k
invariant-calling::arguments-loop-k l = (length l.ws ≡ length l.initial.ws) × (length l.vars ≡ length l.initial.vars)
    × ReadyArgumentsBy l.subject l.ws l.vars l.sc l.top l.t l.at l.g l.k l.count
    × ((heap vars : List ℕ) (top : ℕ) (r : Result (Unit {0}) Fault)
    → InfersArgumentsBy l.subject l.ws heap l.vars vars l.sc l.top top l.t l.at l.g l.k l.count r
    → InfersArgumentsBy l.subject l.initial.ws heap l.initial.vars vars l.sc l.initial.top top l.t l.at l.g 0 l.count r)
