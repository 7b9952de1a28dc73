use Rattle.corefun.specs.Bounds.{Fits}
use Rattle.corefun.proofs.input.answer_all.Given as goal

abbrev pub invariant-loop-turn : goal.invariant-loop-turn
invariant-loop-turn g l = Fits l.w 262144
