-- Where the fields of a journal stand, and what the test of its form answers (section 5; section 4, row Journal: refusal 18).
-- Laws: proofs/Ends, proofs/Walks, proofs/Stands.
use Rattle.std.specs.Prelude.{ℕ, ◌+◌, ◌≡◌, List, [], length, Option as Found, Some, None}
use Rattle.std.proofs.Math.Option.{Option, none, some}
use package.Rattle.octets.specs.Numbers.{AreBytes}
use package.Rattle.rules.specs.Val.{unit, size}
use package.Rattle.calls.specs.Values.{value}
use package.Rattle.calls.specs.Journal.{Entry, Journal, held_tag, entry_tag, fields, ◌>>=◌, Opened, opened, read_entry, read_journal}
use package.Rattle.calls.specs.Conversions.{Newest, newest}
use package.Rattle.calls.specs.Fields.{field_head}
use package.Rattle.journal.specs.declared.places.Places.{Places}

-- what is there, or something else
abbrev pub or_else : {A : Type 0} → A → Option A → A
or_else d none = d
or_else d (some a) = a

----------------------------------------------------------------
-- One field

-- a field whose body is one value
unfoldable pub held_field : List ℕ → Option Opened
held_field xs = do
  f ← opened held_tag xs
  v ← value f.body
  some f

-- a field whose body is an entry
unfoldable pub entry_field : List ℕ → Option Opened
entry_field xs = do
  f ← opened entry_tag xs
  e ← read_entry f.body
  some f

-- where a field that starts at `at` ends
unfoldable pub end_of : ℕ → Option Opened → Found ℕ
end_of at none = None
end_of at (some f) = Some (at + field_head + length f.body)

----------------------------------------------------------------
-- The form

-- the newest conversion, and those before it
abbrev pub no_newest : Newest
no_newest = record { older = []; newest = record { function = 0; steps = 0; ancillae = [] } }

abbrev pub newest_of : List Entry → Newest
newest_of es = or_else no_newest (newest es)

-- the journal that a buffer says
abbrev pub journal_in : List ℕ → Journal
journal_in xs = or_else (record { held = unit; entries = [] }) (read_journal xs)

-- where its fields stand
unfoldable pub places_of : Journal → Places
places_of J = record {
  held = field_head + size J.held;
  count = length J.entries;
  newest = length (fields (record { held = J.held; entries = (newest_of J.entries).older }));
  end = length (fields J);
}

unfoldable pub survey_of : Option Journal → Found Places
survey_of none = None
survey_of (some J) = Some (places_of J)

-- what the test of the form answers of a buffer; that the buffer is bytes goes with it, so that what was read is what is written
pub record Surveyed (r : Found Places) (xs : List ℕ) : Type 0 where
  pub answer : r ≡ survey_of (read_journal xs)
  pub bytes : AreBytes xs

-- the buffer has the form, and its fields stand so
abbrev pub Stands : Places → List ℕ → Type 0
Stands pl xs = Surveyed (Some pl) xs
