-- The four numbers of an answer in code are those of the answer in the definitions' terms.
use Prim.Native.Nat.{ℕ}
use mathlib.Core.Path.{◌≡◌, refl}
use Rattle.std.specs.Prelude.{Result, Ok, Err}
use package.Rattle.answers.specs.Answers.{check_answer, run_answer, nurse_answer, write_answer}
use package.Rattle.answers.specs.declared.Refusal.{Refusal}
use package.Rattle.answers.specs.declared.Done.{Done}
use package.Rattle.answers.specs.declared.Shown.{Shown}
use package.Rattle.exports.specs.Told.{check_told, run_told, length_told, told_by}

pub check_is : (r : Result (Unit {0}) Refusal) → told_by (λ a. (0, 0)) r ≡ check_told (check_answer r)
unfolding check_told
check_is (Ok a) = refl
check_is (Err q) = refl

pub run_is : (r : Result Done Refusal) → told_by (λ d. (d.len, d.steps)) r ≡ run_told (run_answer r)
unfolding run_told
run_is (Ok d) = refl
run_is (Err q) = refl

pub nurse_is : (r : Result Shown Refusal) → told_by (λ s. (s.len, s.standing)) r ≡ run_told (nurse_answer r)
unfolding run_told
nurse_is (Ok s) = refl
nurse_is (Err q) = refl

pub write_is : (r : Result ℕ Refusal) → told_by (λ n. (n, 0)) r ≡ length_told (write_answer r)
unfolding length_told
write_is (Ok n) = refl
write_is (Err q) = refl
