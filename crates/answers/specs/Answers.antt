-- The answers of the public calls in the definitions' terms (section 4): of each kind of refusal its number and place, of each answer
-- what calls/specs/Runs, Conversions and Readers say it is.
use Rattle.std.specs.Prelude.{ℕ, ◌≤◌, List, length, Result, Ok, Err}
use package.Rattle.rules.specs.Val.{size}
use package.Rattle.calls.specs.Answer.{Answer, accepted, refused}
use package.Rattle.calls.specs.Runs.{Ran}
use package.Rattle.calls.specs.Conversions.{Turned}
use package.Rattle.calls.specs.Readers.{Seen}
use package.Rattle.answers.specs.declared.Refusal.{Refusal}
use package.Rattle.answers.specs.declared.Refusal.TheVariants.{Workspace, Field, Limit, Reference, NamedType, Mismatch, Scope, Usage, Function, Values, ValueType, Fuel, Height, Long, FirstMatch, NoInput, Output, Journal, Standing, Full}
use package.Rattle.answers.specs.declared.Done.{Done}
use package.Rattle.answers.specs.declared.Shown.{Shown}

-- the number of a refusal by section 4's table, and its place: for 2 to 8 the offset of the field's first byte, for 12 to 16 the term entry,
-- otherwise 0
abbrev pub number_and_place : Refusal → ℕ × ℕ
number_and_place Workspace = (1, 0)
number_and_place (Field at) = (2, at)
number_and_place (Limit at) = (3, at)
number_and_place (Reference at) = (4, at)
number_and_place (NamedType at) = (5, at)
number_and_place (Mismatch at) = (6, at)
number_and_place (Scope at) = (7, at)
number_and_place (Usage at) = (8, at)
number_and_place Function = (9, 0)
number_and_place Values = (10, 0)
number_and_place ValueType = (11, 0)
number_and_place (Fuel k) = (12, k)
number_and_place (Height k) = (13, k)
number_and_place (Long k) = (14, k)
number_and_place (FirstMatch k) = (15, k)
number_and_place (NoInput k) = (16, k)
number_and_place Output = (17, 0)
number_and_place Journal = (18, 0)
number_and_place Standing = (19, 0)
number_and_place Full = (20, 0)

abbrev pub number_of : Refusal → ℕ
number_of r = (number_and_place r).0

abbrev pub place_of : Refusal → ℕ
place_of r = (number_and_place r).1

-- check answers only that it accepts, or a refusal (section 4)
abbrev pub check_answer : Result (Unit {0}) Refusal → Answer (Unit {0})
check_answer (Ok _) = accepted tt
check_answer (Err r) = refused (number_of r) (place_of r)

-- a run, and convert and rollback, answer a value's length and the steps, or a refusal (section 4)
abbrev pub run_answer : Result Done Refusal → Answer (ℕ × ℕ)
run_answer (Ok d) = accepted (d.len, d.steps)
run_answer (Err r) = refused (number_of r) (place_of r)

-- the nurse's reader answers the held value's length and how many conversions stand, or a refusal (02, F-1)
abbrev pub nurse_answer : Result Shown Refusal → Answer (ℕ × ℕ)
nurse_answer (Ok s) = accepted (s.len, s.standing)
nurse_answer (Err r) = refused (number_of r) (place_of r)

-- a call that writes bytes into its output answers their length, or a refusal
abbrev pub write_answer : Result ℕ Refusal → Answer ℕ
write_answer (Ok n) = accepted n
write_answer (Err r) = refused (number_of r) (place_of r)

-- what is answered of an outcome; a refusal stands
abbrev pub answering : {A B : Type 0} → (A → B) → Answer A → Answer B
answering f (accepted a) = accepted (f a)
answering f (refused n p) = refused n p

-- of a run the value's length, since the value itself fills the output, and the steps (section 4)
abbrev pub summary : Answer Ran → Answer (ℕ × ℕ)
summary = answering λ r. (size r.value, r.steps)

-- of open only that it accepts
abbrev pub open_answer : Answer (List ℕ) → Answer (Unit {0})
open_answer = answering λ journal. tt

-- of convert and rollback the held value's length and the steps
abbrev pub held_answer : Answer Turned → Answer (ℕ × ℕ)
held_answer = answering λ t. (t.held, t.steps)

-- of what the nurse is told the held value's length, since the value itself fills the output, and the count
abbrev pub seen_answer : Answer Seen → Answer (ℕ × ℕ)
seen_answer = answering λ s. (size s.held, s.standing)

-- of bytes their length
abbrev pub length_answer : Answer (List ℕ) → Answer ℕ
length_answer = answering length

-- Answered in a workspace that is long enough: whatever is refused, not with 1. Such a call clears its workspace (section 4).
pub data Later {A : Type 0} : Answer A → Type 0 where
  accepts : {a : A} → Later (accepted a)
  refuses : {n p : ℕ} → 2 ≤ n → Later (refused n p)
