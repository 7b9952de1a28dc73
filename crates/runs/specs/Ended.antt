-- How a run ends (section 4, rows Run and Output): the answer, and what the output holds.
use Rattle.std.specs.Prelude.{ℕ, ◌+◌, ◌≤◌, ◌≡◌, List, length, leb, Result}
use package.Rattle.rules.specs.Val.{size}
use package.Rattle.calls.specs.Answer.{Answer, accepted, ◌>>=◌, require}
use package.Rattle.calls.specs.Runs.{Ran, written}
use package.Rattle.answers.specs.declared.Done.{Done}
use package.Rattle.answers.specs.declared.Refusal.{Refusal as Answered}
use package.Rattle.answers.specs.Answers.{run_answer, summary, Later}
use package.Rattle.valuegraph.specs.Nodes.{Heap}
use package.Rattle.backward.specs.declared.outcomes.Refusal.{Refusal}
use package.Rattle.backward.specs.declared.outcomes.Refusal.TheVariants as why

-- what a run answers
abbrev pub RunAnswer : Type 0
RunAnswer = Result Done Answered

-- a run's answer with row Output: 17 if the value is longer than the output
unfoldable pub finished : ℕ → Answer Ran → Answer Ran
finished out x = do
  r ← x
  room ← require (leb (size r.value) out) 17 0
  accepted r

-- The end of a run whose answer is `x`, and the output before and after it.
pub record Means (r : RunAnswer) (out out' : List ℕ) (x : Answer Ran) : Type 0 where
  pub answer : run_answer r ≡ summary (finished (length out) x)
  pub later : Later (run_answer r)
  pub output : out' ≡ written (finished (length out) x) out

-- a node that a run has given, with what is left of its fuel
pub record Gives (heap : List ℕ) (node fuel left : ℕ) : Type 0 where
  pub right : Heap heap (node + 1)
  pub less : left ≤ fuel

-- a refusal that is one of section 4's
abbrev pub Shaped : Refusal → Type 0
Shaped (why.Fuel t) = Unit {0}
Shaped (why.Height t) = Unit {0}
Shaped (why.Long t) = Unit {0}
Shaped (why.FirstMatch t) = Unit {0}
Shaped (why.NoInput t) = Unit {0}
Shaped why.Stuck = ⊥
