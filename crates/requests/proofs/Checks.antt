-- Laws of the rows of the program, as the call check answers them.
use Prim.Native.Nat.{ℕ}
use mathlib.Core.Path.{◌≡◌, sym, ap}
use mathlib.Core.List.{List}
use Rattle.std.specs.Prelude.{Result, Ok, Err}
use package.Rattle.calls.specs.Answer.{accepted, ◌>>=◌}
use package.Rattle.answers.specs.declared.Refusal.{Refusal}
use package.Rattle.answers.specs.Answers.{accepts, refuses}
use package.Rattle.loading.specs.declared.loaded.Loaded.{Loaded}
use package.Rattle.loading.specs.Loads.{Loads, AcceptsMeans}
use package.Rattle.loading.proofs.Loading.{refused-number}
use package.Rattle.requests.specs.Calls.{CheckMeans}

----------------------------------------------------------------
-- In a workspace that is long enough

module _ {xs : List ℕ} where
  -- by what loading::load says
  pub check-ready : {l : Loaded} → Loads (Ok l) xs → CheckMeans (Ok tt) xs
  unfolding ◌>>=◌
  check-ready L = record { answer = ap (λ a. a >>= λ P. accepted tt) (sym L.answer); later = accepts }

  pub check-refused : {why : Refusal} → Loads (Err why) xs → {r : Result (Unit {0}) Refusal} → r ≡ Err why → CheckMeans r xs
  unfolding ◌>>=◌
  check-refused L e = rw e (record { answer = ap (λ a. a >>= λ P. accepted tt) (sym L.answer); later = refuses (refused-number L) })

  -- by what loading::accepts says
  pub accepted-check : AcceptsMeans (Ok tt) xs → CheckMeans (Ok tt) xs
  accepted-check A = record { answer = A.answer; later = A.later }

  pub refused-check : {why : Refusal} → AcceptsMeans (Err why) xs → {r : Result (Unit {0}) Refusal} → r ≡ Err why → CheckMeans r xs
  refused-check A e = rw e (record { answer = A.answer; later = A.later })
