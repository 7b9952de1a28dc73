-- Laws of the rows Call, Run and Output.
use Prim.Native.Nat.{ℕ, ◌≤◌}
use native.Mathlib.Omega.{arith}
use mathlib.Core.Path.{◌≡◌, refl, sym, ap, subst, ◌∙◌}
use mathlib.Core.Bool.{Bool}
use mathlib.Core.List.{List}
use Rattle.std.specs.Prelude.{Result, Ok, Err}
use lib.ListN.{length}
use package.Rattle.rules.specs.Term.{Program}
use package.Rattle.calls.specs.Answer.{Answer, accepted, refused, ◌>>=◌}
use package.Rattle.calls.specs.Load.{load}
use package.Rattle.calls.specs.Values.{value, ancillae}
use package.Rattle.calls.specs.Runs.{workspace_for, admit, Ran, written}
use package.Rattle.calls.proofs.Answer.{via}
use package.Rattle.answers.specs.declared.Refusal.{Refusal}
use package.Rattle.answers.specs.declared.Done.{Done}
use package.Rattle.answers.specs.Answers.{number_of, place_of, summary, refuses}
use package.Rattle.answers.proofs.Answers.{later_number}
use package.Rattle.program.specs.Programs.{program_in}
use package.Rattle.admission.specs.Given.{given_in}
use package.Rattle.admission.specs.Admitting.{side_of, Admittable, AdmitMeans}
use package.Rattle.admission.proofs.Tested.{admittable}
use package.Rattle.runs.specs.Ended.{finished, Means}
use package.Rattle.runs.specs.Ahead.{Allowed}
use package.Rattle.loading.specs.Loading.{Accepted}
use package.Rattle.loading.specs.declared.loaded.Loaded.{Loaded}
use package.Rattle.loading.specs.declared.loaded.AcceptedProgram.{AcceptedProgram}
use package.Rattle.loading.specs.Loads.{program_loaded, Loads, program_accepted, LoadsInto}
use package.Rattle.loading.proofs.Loading.{accepted-typed, refused-number}
use package.Rattle.loading.proofs.Rooms.{room_refused}
use package.Rattle.requests.specs.Runs.{run_of, called, RunMeans}

-- a refusal of the definitions is one of the answer, and the output is unchanged
refused_as : {x : Answer Ran} (r : Refusal) (out : List ℕ) → x ≡ refused (number_of r) (place_of r) → 2 ≤ number_of r → RunMeans (Err r) x out out
unfolding written ◌>>=◌
refused_as r out e l = rw e (record { answer = refl; later = refuses {n = number_of r} l; output = refl })

----------------------------------------------------------------
-- Rows Call, Run and Output, of a program that is accepted

module _ {xs types terms functions : List ℕ} {table : List (List ℕ)} (A : Accepted xs types terms functions table) where
  pub askable : Admittable xs types functions table
  askable = admittable A.read A.tested A.signed

  module _ {g : ℕ} {anc bytes : List ℕ} {back by_result : Bool} (side : by_result ≡ back) where
    -- the call is refused
    pub not_called : {r : Refusal} → AdmitMeans (Err r) xs types functions g anc bytes by_result → (fuel : ℕ) (out : List ℕ) {w : Result Done Refusal} → w ≡ Err r
        → RunMeans w (called back (program_in xs types terms functions) g anc bytes fuel (length out)) out out
    unfolding called ◌>>=◌
    not_called {r} M fuel out w = rw w (rw (← side) (refused_as r out
        (ap (λ a. a >>= λ a. finished (length out) (run_of by_result (program_in xs types terms functions) fuel a)) (sym (M.answer terms)))
        (later_number (M.later terms))))

    -- or admitted
    module _ (M : AdmitMeans (Ok tt) xs types functions g anc bytes by_result) where
      gave : admit (program_in xs types terms functions) g (ancillae anc) (value bytes) (side_of back) ≡ accepted (given_in xs types terms functions g anc bytes)
      gave = rw (← side) (sym (M.answer terms))

      pub allowed : {heap : List ℕ} {fuel : ℕ} → workspace_for fuel ≤ length heap → Allowed (side_of back) xs terms functions heap g anc bytes fuel
      allowed l = record { types = types; loaded = record { read = A.read; tested = A.tested; typed = accepted-typed A }; given = gave; enough = l }

      -- what the run gives is the answer
      pub ran_as : (fuel : ℕ) {out out' : List ℕ} {r : Result Done Refusal}
          → Means r out out' (run_of back (program_in xs types terms functions) fuel (given_in xs types terms functions g anc bytes))
          → RunMeans r (called back (program_in xs types terms functions) g anc bytes fuel (length out)) out out'
      unfolding called
      ran_as fuel {out} R = let reached = via _ gave refl in
          record { answer = R.answer ∙ ap summary (sym reached); later = R.later; output = R.output ∙ ap (λ x. written x out) (sym reached) }

----------------------------------------------------------------
-- After the rows of the program

module _ (xs : List ℕ) (run : Program → Answer Ran) {out : List ℕ} where
  run-after : {P : Program} → load xs ≡ accepted P → {r : Result Done Refusal} {out' : List ℕ} → RunMeans r (run P) out out'
      → RunMeans r (load xs >>= run) out out'
  unfolding ◌>>=◌
  run-after e {r} {out'} R = subst (λ x. RunMeans r x out out') (sym (via _ e refl)) R

  no-run : {why : Refusal} → load xs ≡ refused (number_of why) (place_of why) → 2 ≤ number_of why → {r : Result Done Refusal} → r ≡ Err why
      → RunMeans r (load xs >>= run) out out
  unfolding ◌>>=◌
  no-run {why} x l e = rw e (refused_as why out (ap (λ a. a >>= run) x) l)

module _ {xs : List ℕ} (run : Program → Answer Ran) {out : List ℕ} where
  -- by what loading::load says
  pub loaded-run : {l : Loaded} → Loads (Ok l) xs → {P : Program} → P ≡ program_loaded l → {r : Result Done Refusal} {out' : List ℕ}
      → RunMeans r (run P) out out' → RunMeans r (load xs >>= run) out out'
  loaded-run L e R = run-after xs run (L.answer ∙ ap accepted (sym e)) R

  pub loaded-refused : {why : Refusal} → Loads (Err why) xs → {r : Result Done Refusal} → r ≡ Err why → RunMeans r (load xs >>= run) out out
  loaded-refused L e = no-run xs run L.answer (refused-number L) e

  -- by what loading::room::load_into says
  pub run-in-room : {a : AcceptedProgram} → LoadsInto (Ok a) xs → {r : Result Done Refusal} {out' : List ℕ}
      → RunMeans r (run (program_accepted a)) out out' → RunMeans r (load xs >>= run) out out'
  run-in-room L R = run-after xs run L.answer R

  pub refused-in-room : {why : Refusal} → LoadsInto (Err why) xs → {r : Result Done Refusal} → r ≡ Err why → RunMeans r (load xs >>= run) out out
  refused-in-room L e = no-run xs run L.answer (room_refused L) e

-- a workspace stays as long as it is
pub kept-enough : {n m k : ℕ} → m ≡ n → k ≤ n → k ≤ m
kept-enough e l = omega arith
