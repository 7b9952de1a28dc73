-- Laws of a program that is loaded into room that is lent, and of the answer alone.
use Prim.Native.Nat.{ℕ, ◌≤◌}
use mathlib.Core.Path.{sym, ap, subst}
use mathlib.Core.List.{List}
use Rattle.std.specs.Prelude.{Ok, Err}
use package.Rattle.calls.specs.Answer.{accepted, ◌>>=◌}
use package.Rattle.answers.specs.declared.Refusal.{Refusal}
use package.Rattle.answers.specs.Answers.{number_of, Later, accepts, refuses}
use package.Rattle.answers.proofs.Answers.{later_number}
use package.Rattle.loading.specs.declared.loaded.AcceptedProgram.{AcceptedProgram}
use package.Rattle.loading.specs.Loads.{LoadsInto, AcceptsMeans}

module _ {xs : List ℕ} where
  -- none of the rows refuses with 1
  pub room_refused : {why : Refusal} → LoadsInto (Err why) xs → 2 ≤ number_of why
  room_refused L = later_number (subst Later L.answer L.later)

  -- whether it is accepted
  pub accepts_ready : {a : AcceptedProgram} → LoadsInto (Ok a) xs → AcceptsMeans (Ok tt) xs
  unfolding ◌>>=◌
  accepts_ready L = record { answer = ap (λ a. a >>= λ P. accepted tt) (sym L.answer); later = accepts }

  pub accepts_refused : {why : Refusal} → LoadsInto (Err why) xs → AcceptsMeans (Err why) xs
  unfolding ◌>>=◌
  accepts_refused L = record { answer = ap (λ a. a >>= λ P. accepted tt) (sym L.answer); later = refuses (room_refused L) }
