-- Laws of the rows of the program before those of the journal.
use Prim.Native.Nat.{ℕ, ◌≤◌}
use mathlib.Core.Path.{◌≡◌, refl, sym, ap, subst, ◌∙◌}
use mathlib.Core.List.{List}
use Rattle.std.specs.Prelude.{Result, Ok, Err}
use package.Rattle.rules.specs.Term.{Program}
use package.Rattle.calls.specs.Answer.{Answer, accepted, refused, ◌>>=◌}
use package.Rattle.calls.specs.Load.{load}
use package.Rattle.calls.specs.Conversions.{Turned}
use package.Rattle.calls.specs.Book.{after_open}
use package.Rattle.calls.proofs.Answer.{via, refused≢accepted}
use package.Rattle.answers.specs.declared.Done.{Done}
use package.Rattle.answers.specs.declared.Refusal.{Refusal}
use package.Rattle.answers.specs.Answers.{number_of, place_of, refuses}
use package.Rattle.answers.proofs.Answers.{later_number}
use package.Rattle.loading.specs.declared.loaded.Loaded.{Loaded}
use package.Rattle.loading.specs.declared.loaded.AcceptedProgram.{AcceptedProgram}
use package.Rattle.loading.specs.Loads.{program_loaded, Loads, program_accepted, LoadsInto}
use package.Rattle.loading.proofs.Loading.{refused-number}
use package.Rattle.loading.proofs.Rooms.{room_refused}
use package.Rattle.requests.specs.Calls.{CheckMeans}
use package.Rattle.conversions.specs.Turns.{OpenMeans, TurnMeans}
use package.Rattle.conversions.proofs.Values.{turn-refused as left_alone}

----------------------------------------------------------------
-- Open

-- what follows a part of which the kind alone counts
kind-accepted : {A B : Type 0} (a : Answer A) (x : Answer B) → ◌≡◌ {A = Answer (Unit {0})} (accepted tt) (a >>= λ u. accepted tt) → x ≡ (a >>= λ u. x)
unfolding ◌>>=◌
kind-accepted (accepted u) x e = refl
kind-accepted (refused n p) x e = absurd (refused≢accepted (sym e))

kind-refused : {A B : Type 0} (a : Answer A) (x : Answer B) {n p : ℕ} → ◌≡◌ {A = Answer (Unit {0})} (refused n p) (a >>= λ u. accepted tt)
    → refused n p ≡ (a >>= λ u. x)
unfolding ◌>>=◌
kind-refused (accepted u) x e = absurd (refused≢accepted e)
kind-refused (refused m q) x e = refused-same e
  where
    refused-same : {A B : Type 0} {n m p q : ℕ} → ◌≡◌ {A = Answer A} (refused n p) (refused m q) → ◌≡◌ {A = Answer B} (refused n p) (refused m q)
    refused-same e = cc

refused_open : {x : Answer (List ℕ)} (r : Refusal) (j : List ℕ) → refused (number_of r) (place_of r) ≡ x → 2 ≤ number_of r → OpenMeans (Err r) x j j
unfolding after_open
refused_open r j e l = rw (← e) (record { answer = refl; later = refuses {n = number_of r} l; journal = refl })

module _ {xs : List ℕ} (x : Answer (List ℕ)) {j : List ℕ} where
  pub open_ready : CheckMeans (Ok tt) xs → {r : Result (Unit {0}) Refusal} {j' : List ℕ} → OpenMeans r x j j' → OpenMeans r (load xs >>= λ P. x) j j'
  open_ready C {r} {j'} O = subst (λ x. OpenMeans r x j j') (kind-accepted (load xs) x C.answer) O

  pub open_refused : {why : Refusal} → CheckMeans (Err why) xs → {r : Result (Unit {0}) Refusal} → r ≡ Err why → OpenMeans r (load xs >>= λ P. x) j j
  open_refused {why} C e = rw e (refused_open why j (kind-refused (load xs) x C.answer) (later_number C.later))

----------------------------------------------------------------
-- Convert and rollback

module _ (xs : List ℕ) (turn : Program → Answer Turned) {j : List ℕ} where
  turn-after : {P : Program} → load xs ≡ accepted P → {r : Result Done Refusal} {j' : List ℕ} → TurnMeans r (turn P) j j'
      → TurnMeans r (load xs >>= turn) j j'
  unfolding ◌>>=◌
  turn-after e {r} {j'} T = subst (λ x. TurnMeans r x j j') (sym (via _ e refl)) T

  no-turn : {why : Refusal} → load xs ≡ refused (number_of why) (place_of why) → 2 ≤ number_of why → {r : Result Done Refusal} → r ≡ Err why
      → TurnMeans r (load xs >>= turn) j j
  unfolding ◌>>=◌
  no-turn {why} x l e = rw e (left_alone why j (ap (λ a. a >>= turn) x) (refuses {n = number_of why} l))

module _ {xs : List ℕ} (turn : Program → Answer Turned) {j : List ℕ} where
  -- by what loading::load says
  pub turn-ready : {l : Loaded} → Loads (Ok l) xs → {P : Program} → P ≡ program_loaded l → {r : Result Done Refusal} {j' : List ℕ} → TurnMeans r (turn P) j j'
      → TurnMeans r (load xs >>= turn) j j'
  turn-ready L e T = turn-after xs turn (L.answer ∙ ap accepted (sym e)) T

  pub turn-refused : {why : Refusal} → Loads (Err why) xs → {r : Result Done Refusal} → r ≡ Err why → TurnMeans r (load xs >>= turn) j j
  turn-refused L e = no-turn xs turn L.answer (refused-number L) e

  -- by what loading::room::load_into says
  pub turn-in-room : {a : AcceptedProgram} → LoadsInto (Ok a) xs → {r : Result Done Refusal} {j' : List ℕ} → TurnMeans r (turn (program_accepted a)) j j'
      → TurnMeans r (load xs >>= turn) j j'
  turn-in-room L T = turn-after xs turn L.answer T

  pub refused-in-room : {why : Refusal} → LoadsInto (Err why) xs → {r : Result Done Refusal} → r ≡ Err why → TurnMeans r (load xs >>= turn) j j
  refused-in-room L e = no-turn xs turn L.answer (room_refused L) e
