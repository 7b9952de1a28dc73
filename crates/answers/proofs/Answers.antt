-- Laws of answers in a workspace that is long enough.
use Prim.Native.Nat.{ℕ, ◌≤◌}
use package.Rattle.calls.specs.Answer.{refused}
use package.Rattle.answers.specs.declared.Refusal.{Refusal}
use package.Rattle.answers.specs.Answers.{number_of, place_of, Later, refuses}

module _ {A : Type 0} where
  -- every kind of refusal but the first may be answered there
  pub refused_later : (r : Refusal) → 2 ≤ number_of r → Later {A = A} (refused (number_of r) (place_of r))
  refused_later r l = refuses {n = number_of r} l

  -- and no other is
  pub later_number : {n p : ℕ} → Later {A = A} (refused n p) → 2 ≤ n
  later_number (refuses l) = l
