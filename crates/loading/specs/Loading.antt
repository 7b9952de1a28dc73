-- What loading a program answers (section 4, rows Field reading, Entries and Typing), against calls/specs/Load, and what is there for a
-- run to begin with.
use Rattle.std.specs.Prelude.{ℕ, ◌≡◌, ◌≤◌, Bool, true, false, List, take, Option as Found, Some, None, Result, Ok, Err}
use package.Rattle.rules.specs.Term.{Program}
use package.Rattle.calls.specs.Answer.{Answer, accepted, refused}
use package.Rattle.calls.specs.Fields.{Layout, layout}
use package.Rattle.calls.specs.Entries.{entries_at, program_of}
use package.Rattle.calls.specs.Named.{test_entries}
use package.Rattle.calls.specs.Load.{load}
use package.Rattle.answers.specs.declared.Refusal.{Refusal}
use package.Rattle.answers.specs.Answers.{number_of, place_of, Later}
use package.Rattle.program.specs.Signatures.{SignaturesAre}
use package.Rattle.program.specs.Places.{places_of, fronts_of, Placed, Buffers, Within}
use package.Rattle.program.specs.declared.fields.Counts.{Counts}

-- A program that is accepted, with its fields at these offsets, and its functions' signatures in the table.
pub record Accepted (xs types terms functions : List ℕ) (table : List (List ℕ)) : Type 0 where
  pub read : Placed xs types terms functions
  pub tested : test_entries (places_of types terms functions) (entries_at xs (places_of types terms functions)) ≡ accepted tt
  pub loads : load xs ≡ accepted (program_of (entries_at xs (places_of types terms functions)))
  pub signed : SignaturesAre xs functions table

-- the offsets of a layout, where there is one
abbrev pub offsets_read : Answer Layout → Found (List ℕ × List ℕ × List ℕ)
offsets_read (accepted L) = Some (L.types, L.terms, L.functions)
offsets_read (refused n p) = None

abbrev pub is_accepted : {A : Type 0} → Answer A → Bool
is_accepted (accepted a) = true
is_accepted (refused n p) = false

-- The same by equations between lists, numbers and truth values, so that a value can keep it (proofs/Loading: `accepted_as`, `as_accepted`).
pub record AcceptedAs (xs types terms functions : List ℕ) (table : List (List ℕ)) : Type 0 where
  pub read : offsets_read (layout xs) ≡ Some (types, terms, functions)
  pub loads : is_accepted (load xs) ≡ true
  pub signed : SignaturesAre xs functions table

-- a refusal of one of these rows, none of which refuses with 1
pub record Refuses {A : Type 0} (r : Refusal) (x : Answer A) : Type 0 where
  pub answer : x ≡ refused (number_of r) (place_of r)
  pub later : 2 ≤ number_of r

-- the answer in the definitions' terms, `program` being the program with what was loaded, as with so many entries of each tag
abbrev pub loaded_of : {A : Type 0} → Result A Refusal → (A → Program) → Answer Program
loaded_of (Ok c) program = accepted (program c)
loaded_of (Err r) program = refused (number_of r) (place_of r)

-- what holds of the counts, where there are any
abbrev pub WhenReady : Result Counts Refusal → (Counts → Type 0) → Type 0
WhenReady (Ok c) holds = holds c
WhenReady (Err r) holds = Unit {0}

-- What is answered of a program whose fields are read, with so many entries of each tag.
pub record Examined (r : Result Counts Refusal) (counts : Counts) (xs types terms functions : List ℕ) (table : List (List ℕ)) : Type 0 where
  pub answer : load xs ≡ loaded_of r λ c. program_of (entries_at xs (places_of types terms functions))
  pub later : Later (load xs)
  pub ready : WhenReady r λ c. (c ≡ counts) × Accepted xs types terms functions table

-- What loading does, the buffers being as it leaves them: a program that is accepted has its fields at their fronts.
pub record LoadMeans (r : Result Counts Refusal) (xs types terms functions : List ℕ) (table : List (List ℕ)) : Type 0 where
  pub answer : load xs ≡ loaded_of r λ c. program_of (entries_at xs (fronts_of types terms functions c))
  pub later : Later (load xs)
  pub ready : WhenReady r λ c. Within c × Accepted xs (take c.types types) (take c.terms terms) (take c.functions functions) table
  -- so that a front is as long as its count
  pub buffers : Buffers types terms functions
