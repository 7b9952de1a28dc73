-- Open, convert and rollback (sections 4 and 5): each call a function from its arguments to its answer, in the order of section 4's
-- table. Open reads no byte of the journal, so of its buffer the length alone is an argument. After a refusal the journal is
-- unchanged; the workspace after a call is given by `cleared` (Answer).
use Rattle.std.specs.Prelude.{ℕ, List, [], ◌∷◌, ◌++◌, length, eqb, ltb, leb}
use Rattle.std.proofs.Math.Option.{Option, none, some}
use package.Rattle.rules.specs.Limits.{max_conversions}
use package.Rattle.rules.specs.Val.{size}
use package.Rattle.calls.specs.Answer.{Answer, accepted, ◌>>=◌, require, present}
use package.Rattle.calls.specs.Values.{value, ancillae}
use package.Rattle.calls.specs.Runs.{Ran, prepared, admit, goes, returns}
use package.Rattle.calls.specs.Journal.{Entry, Journal, fields, write_out, read_journal}

-- what convert and rollback answer: the new held value's length and the steps; and the journal that they leave
pub record Turned : Type 0 where
  pub held : ℕ
  pub steps : ℕ
  pub journal : List ℕ

-- the journal in a buffer of `n` bytes, if its fields fit (20)
unfoldable pub kept : ℕ → Journal → Answer (List ℕ)
kept n J = do
  fit ← require (leb (length (fields J)) n) 20 0
  accepted (write_out n J)

-- the answer of a run that leaves the journal `J` in a buffer of `n` bytes
unfoldable pub turned : ℕ → Ran → Journal → Answer Turned
unfolding kept
turned n r J = do
  journal ← kept n J
  accepted (record { held = size r.value; steps = r.steps; journal = journal })

-- a list, oldest first, without the newest, and the newest: standing conversions, and the rows of the book
pub record Last (A : Type 0) : Type 0 where
  pub older : List A
  pub newest : A

abbrev pub Newest : Type 0
Newest = Last Entry

unfoldable pub behind : {A : Type 0} → A → Option (Last A) → Option (Last A)
behind e none = some (record { older = []; newest = e })
behind e (some n) = some (record { older = e ∷ n.older; newest = n.newest })

unfoldable pub newest : {A : Type 0} → List A → Option (Last A)
unfolding behind
newest [] = none
newest (e ∷ es) = behind e (newest es)

----------------------------------------------------------------
-- The calls

unfoldable pub open_call : List ℕ → List ℕ → ℕ → ℕ → Answer (List ℕ)
unfolding prepared kept
open_call program bytes ws n = do
  P ← prepared program 0 ws
  v ← present (value bytes) 10
  kept n (record { held = v; entries = [] })

unfoldable pub convert_call : List ℕ → ℕ → List ℕ → ℕ → ℕ → List ℕ → Answer Turned
unfolding prepared admit goes turned
convert_call program fn anc fuel ws journal = do
  P ← prepared program fuel ws
  J ← present (read_journal journal) 18
  few ← require (ltb (length J.entries) max_conversions) 20 0
  a ← admit P fn (ancillae anc) (some J.held) λ h. h.dynamic
  r ← goes P fuel a
  turned (length journal) r (record { held = r.value; entries = J.entries ++ (record { function = fn; steps = r.steps; ancillae = a.ancillae } ∷ []) })

unfoldable pub rollback_call : List ℕ → ℕ → ℕ → List ℕ → Answer Turned
unfolding prepared admit returns turned newest
rollback_call program fuel ws journal = do
  P ← prepared program fuel ws
  J ← present (read_journal journal) 18
  s ← present (newest J.entries) 19
  a ← admit P s.newest.function (some s.newest.ancillae) (some J.held) λ h. h.result
  r ← returns P fuel a
  same ← require (eqb r.steps s.newest.steps) 18 0
  turned (length journal) r (record { held = r.value; entries = s.older })
