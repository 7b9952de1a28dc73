-- The two readers of a journal (document 02, F-1): the nurse's, at the bedside, and the workshop's, at the desk. Each is a function from a
-- journal's bytes and the length of its output to its answer: 18 for a malformed journal, then 17 for a short output. Neither takes a
-- program or a workspace. What the output holds afterwards: `overwritten` (Answer).
use Rattle.std.specs.Prelude.{ℕ, ◌+◌, ◌*◌, List, length, leb}
use package.Rattle.rules.specs.Limits.{max_ancilla_bytes, max_conversions}
use package.Rattle.rules.specs.Val.{Val, size, encode}
use package.Rattle.calls.specs.Answer.{Answer, accepted, ◌>>=◌, require, present}
use package.Rattle.calls.specs.Journal.{Entry, entry_bytes, entry_fields, read_journal}

-- the most bytes that the entries of a journal take; an output of so many is always enough
unfoldable pub most_entries : ℕ
most_entries = max_conversions * (entry_bytes + max_ancilla_bytes)

-- the held value, and how many conversions stand
pub record Seen : Type 0 where
  pub held : Val
  pub standing : ℕ

-- what the nurse is told, of held value, count and the output's length alone
unfoldable pub nurse_of : Val → ℕ → ℕ → Answer Seen
nurse_of v standing out = do
  room ← require (leb (size v) out) 17 0
  accepted (record { held = v; standing = standing })

-- the fields of all entries as they stand, oldest first; field 21 is no entry
unfoldable pub workshop_of : List Entry → ℕ → Answer (List ℕ)
workshop_of es out = do
  room ← require (leb (length (entry_fields es)) out) 17 0
  accepted (entry_fields es)

unfoldable pub nurse_call : List ℕ → ℕ → Answer Seen
unfolding nurse_of
nurse_call journal out = do
  J ← present (read_journal journal) 18
  nurse_of J.held (length J.entries) out

unfoldable pub workshop_call : List ℕ → ℕ → Answer (List ℕ)
unfolding workshop_of
workshop_call journal out = do
  J ← present (read_journal journal) 18
  workshop_of J.entries out

-- the bytes that the nurse's reader writes: the held value's
unfoldable pub held_bytes : Answer Seen → Answer (List ℕ)
held_bytes x = do
  s ← x
  accepted (encode s.held)
