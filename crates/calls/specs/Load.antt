-- A program, read and typed: rows Field reading, Entries and Typing of section 4's table (refusals 2 to 8).
use Rattle.std.specs.Prelude.{ℕ, List, get_or}
use package.Rattle.rules.specs.Limits.{max_variables, max_nodes}
use package.Rattle.rules.specs.Term.{Program}
use package.Rattle.rules.specs.Check.{Site, term, function, Checked, good, bad, check}
use package.Rattle.calls.specs.Answer.{Answer, accepted, refused, ◌>>=◌}
use package.Rattle.calls.specs.Fields.{Layout, layout}
use package.Rattle.calls.specs.Entries.{entries_at, program_of}
use package.Rattle.calls.specs.Named.{test_entries}

-- the place of a typing refusal: the offset of the entry's field
unfoldable pub offset : Layout → Site → ℕ
offset L (term k) = get_or L.terms k 0
offset L (function g) = get_or L.functions g 0

unfoldable pub typed : {A : Type 0} → Layout → Checked A → Answer A
unfolding offset
typed L (good a) = accepted a
typed L (bad n p) = refused n (offset L p)

-- the program in the bytes
unfoldable pub load : List ℕ → Answer Program
load xs = do
  L ← layout xs
  named ← test_entries L (entries_at xs L)
  checked ← typed L (check max_variables max_nodes (program_of (entries_at xs L)))
  accepted (program_of (entries_at xs L))
