-- Open, convert and rollback from the rows of the program on (sections 4 and 5), against calls/specs/Conversions: the same answers, of a
-- program that has loaded in a workspace that is long enough.
use Rattle.std.specs.Prelude.{ℕ, ◌≡◌, List, [], ◌∷◌, ◌++◌, length, eqb, ltb, Result}
use Rattle.std.proofs.Math.Option.{some}
use package.Rattle.rules.specs.Limits.{max_conversions}
use package.Rattle.rules.specs.Term.{Program}
use package.Rattle.calls.specs.Answer.{Answer, ◌>>=◌, require, present}
use package.Rattle.calls.specs.Load.{load}
use package.Rattle.calls.specs.Values.{value, ancillae}
use package.Rattle.calls.specs.Runs.{admit, goes, returns}
use package.Rattle.calls.specs.Journal.{read_journal}
use package.Rattle.calls.specs.Conversions.{Turned, kept, turned, newest}
use package.Rattle.calls.specs.Book.{after_open, after_turned}
use package.Rattle.answers.specs.declared.Done.{Done}
use package.Rattle.answers.specs.declared.Refusal.{Refusal}
use package.Rattle.answers.specs.Answers.{check_answer, run_answer, open_answer, held_answer, Later}

----------------------------------------------------------------
-- The calls

-- open: the record (10), and whether its field fits a buffer of `n` bytes (20)
unfoldable pub open_of : List ℕ → ℕ → Answer (List ℕ)
unfolding kept
open_of bytes n = do
  v ← present (value bytes) 10
  kept n (record { held = v; entries = [] })

-- convert: the journal (18, 20), the call and the run, and whether the new journal fits (20)
unfoldable pub convert_of : Program → ℕ → ℕ → List ℕ → List ℕ → Answer Turned
unfolding admit goes turned
convert_of P fuel fn anc journal = do
  J ← present (read_journal journal) 18
  few ← require (ltb (length J.entries) max_conversions) 20 0
  a ← admit P fn (ancillae anc) (some J.held) λ h. h.dynamic
  r ← goes P fuel a
  turned (length journal) r (record { held = r.value; entries = J.entries ++ (record { function = fn; steps = r.steps; ancillae = a.ancillae } ∷ []) })

-- rollback: the journal (18, 19), the newest conversion's call and its run backward, its steps (18), and whether the journal fits (20)
unfoldable pub rollback_of : Program → ℕ → List ℕ → Answer Turned
unfolding admit returns turned newest
rollback_of P fuel journal = do
  J ← present (read_journal journal) 18
  s ← present (newest J.entries) 19
  a ← admit P s.newest.function (some s.newest.ancillae) (some J.held) λ h. h.result
  r ← returns P fuel a
  same ← require (eqb r.steps s.newest.steps) 18 0
  turned (length journal) r (record { held = r.value; entries = s.older })

----------------------------------------------------------------
-- What the code answers

-- An open whose meaning is `x`, in a workspace that is long enough, and the journal before and after it.
pub record OpenMeans (r : Result (Unit {0}) Refusal) (x : Answer (List ℕ)) (j j' : List ℕ) : Type 0 where
  pub answer : check_answer r ≡ open_answer x
  pub later : Later (check_answer r)
  pub journal : j' ≡ (after_open j x).journal

-- the same of a convert or a rollback
pub record TurnMeans (r : Result Done Refusal) (x : Answer Turned) (j j' : List ℕ) : Type 0 where
  pub answer : run_answer r ≡ held_answer x
  pub later : Later (run_answer r)
  pub journal : j' ≡ (after_turned j x).journal

-- the same of the program that the bytes are, if they are one
abbrev pub open_in : List ℕ → List ℕ → ℕ → Answer (List ℕ)
open_in xs bytes n = load xs >>= λ P. open_of bytes n

abbrev pub convert_in : List ℕ → ℕ → ℕ → List ℕ → List ℕ → Answer Turned
convert_in xs fuel fn anc journal = load xs >>= λ P. convert_of P fuel fn anc journal

abbrev pub rollback_in : List ℕ → ℕ → List ℕ → Answer Turned
rollback_in xs fuel journal = load xs >>= λ P. rollback_of P fuel journal
