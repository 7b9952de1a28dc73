-- What the rows of the program answer (section 4), as the call check answers them, against calls/specs/Load.
use Rattle.std.specs.Prelude.{ℕ, ◌≡◌, List, Result}
use package.Rattle.calls.specs.Answer.{accepted, ◌>>=◌}
use package.Rattle.calls.specs.Load.{load}
use package.Rattle.answers.specs.declared.Refusal.{Refusal}
use package.Rattle.answers.specs.Answers.{check_answer, Later}

-- check accepts what loads
pub record CheckMeans (r : Result (Unit {0}) Refusal) (xs : List ℕ) : Type 0 where
  pub answer : check_answer r ≡ (load xs >>= λ P. accepted tt)
  pub later : Later (check_answer r)
