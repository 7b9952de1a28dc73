-- Answers as four numbers: the refusal's number, or 0 where the call is accepted; its place; the length of a value or of bytes written; the
-- steps, or how many conversions stand.
use Rattle.std.specs.Prelude.{ℕ, List, [], ◌∷◌, Result, Ok, Err}
use package.Rattle.calls.specs.Answer.{Answer, accepted, refused}
use package.Rattle.answers.specs.Answers.{number_of, place_of}
use package.Rattle.answers.specs.declared.Refusal.{Refusal}
use package.Rattle.replay.specs.Playing.{Reply, played, malformed, too_wide, short_answers, unopened, cut}

unfoldable pub check_told : Answer (Unit {0}) → List ℕ
check_told (accepted a) = 0 ∷ 0 ∷ 0 ∷ 0 ∷ []
check_told (refused n p) = n ∷ p ∷ 0 ∷ 0 ∷ []

-- a run, convert or rollback: the value's length and the steps; the nurse's reader: the held value's length and how many conversions stand
unfoldable pub run_told : Answer (ℕ × ℕ) → List ℕ
run_told (accepted a) = 0 ∷ 0 ∷ a.0 ∷ a.1 ∷ []
run_told (refused n p) = n ∷ p ∷ 0 ∷ 0 ∷ []

-- bytes written: their length
unfoldable pub length_told : Answer ℕ → List ℕ
length_told (accepted n) = 0 ∷ 0 ∷ n ∷ 0 ∷ []
length_told (refused n p) = n ∷ p ∷ 0 ∷ 0 ∷ []

-- how playing a script ended; how many calls were played, or the place in the script; of a refused open the number and the place
unfoldable pub replay_told : Reply → List ℕ
replay_told (played k) = 0 ∷ k ∷ 0 ∷ 0 ∷ []
replay_told (malformed at) = 1 ∷ at ∷ 0 ∷ 0 ∷ []
replay_told (too_wide at) = 2 ∷ at ∷ 0 ∷ 0 ∷ []
replay_told short_answers = 3 ∷ 0 ∷ 0 ∷ 0 ∷ []
replay_told (unopened n p) = 4 ∷ 0 ∷ n ∷ p ∷ []
replay_told (cut at) = 5 ∷ at ∷ 0 ∷ 0 ∷ []

-- the same of an answer in code, by the two numbers that are told of what is accepted
abbrev pub told_by : {A : Type 0} → (A → ℕ × ℕ) → Result A Refusal → List ℕ
told_by f (Ok a) = 0 ∷ 0 ∷ (f a).0 ∷ (f a).1 ∷ []
told_by f (Err r) = number_of r ∷ place_of r ∷ 0 ∷ 0 ∷ []
