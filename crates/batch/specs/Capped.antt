-- A line may name a workspace or an output longer than any that can be lent. Beyond these lengths a call is answered alike (laws:
-- proofs/Capping), so a longer one is not needed.
use Rattle.std.specs.Prelude.{ℕ, ◌+◌, ◌*◌, cond, leb}
use package.Rattle.rules.specs.Limits.{max_ancilla_bytes, max_conversions, max_fuel, workspace_base, workspace_per_fuel}
use package.Rattle.calls.specs.Readers.{most_entries}

-- the workspace for the most fuel (section 2)
unfoldable pub most_workspace : ℕ
unfolding workspace_base workspace_per_fuel max_fuel
most_workspace = workspace_base + workspace_per_fuel * max_fuel

-- the most bytes that a call writes: the entries of a journal (02, F-1), which may take more than a value
unfoldable pub most_output : ℕ
unfolding most_entries max_conversions max_ancilla_bytes
most_output = most_entries

-- the room that an answer needs beside a journal in hexadecimal: for an output in hexadecimal, and for words and numbers
abbrev pub answer_room : ℕ
answer_room = 2 * most_output + 64

-- a length, at most `most`
unfoldable pub capped : ℕ → ℕ → ℕ
capped most n = cond (leb n most) n most
