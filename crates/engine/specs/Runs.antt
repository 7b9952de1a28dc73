-- The calls forward and backward as one, and what they answer (section 4), against calls/specs/Runs.
use Rattle.std.specs.Prelude.{ℕ, ◌≡◌, Bool, true, false, List, Result}
use package.Rattle.calls.specs.Answer.{Answer, cleared}
use package.Rattle.calls.specs.Runs.{Ran, forward_call, backward_call, written}
use package.Rattle.answers.specs.declared.Done.{Done}
use package.Rattle.answers.specs.declared.Refusal.{Refusal}
use package.Rattle.answers.specs.Answers.{run_answer, summary}

-- all rows
unfoldable pub run_call : Bool → List ℕ → ℕ → List ℕ → List ℕ → ℕ → ℕ → ℕ → Answer Ran
run_call true = backward_call
run_call false = forward_call

-- An answer whose meaning is `x`, with the output and the workspace before and after it.
pub record CallMeans (r : Result Done Refusal) (x : Answer Ran) (out out' ws ws' : List ℕ) : Type 0 where
  pub answer : run_answer r ≡ summary x
  pub fills : out' ≡ written x out
  pub clear : ws' ≡ cleared x ws
