-- The two parts of a reader: whether the journal has its form, and bytes put into an output if it has room.
use Rattle.std.specs.Prelude.{ℕ, ◌≡◌, ◌≤◌, ◌<◌, List, length, Result, Ok, Err}
use Rattle.std.proofs.Math.Option.{none}
use package.Rattle.octets.specs.Runs.{pasted}
use package.Rattle.calls.specs.Journal.{read_journal}
use package.Rattle.answers.specs.declared.Refusal.{Refusal}
use package.Rattle.answers.specs.declared.Refusal.TheVariants.{Output, Journal}
use package.Rattle.journal.specs.declared.parts.Standing.{Standing}

-- the journal, if it is in form, or refusal 18
abbrev pub FormTested : Result Standing Refusal → List ℕ → Type 0
FormTested (Ok s) journal = s.journal.now ≡ journal
FormTested (Err r) journal = (r ≡ Journal) × (read_journal journal ≡ none)

-- the bytes stand at the output's start, and their length is answered, or refusal 17 of an output that is shorter and stays as it was
abbrev pub Filled : Result ℕ Refusal → List ℕ → List ℕ → List ℕ → Type 0
Filled (Ok n) bytes out out' = (n ≡ length bytes) × (length bytes ≤ length out) × (out' ≡ pasted out 0 bytes)
Filled (Err r) bytes out out' = (r ≡ Output) × (length out < length bytes) × (out' ≡ out)
