-- Convert after its run (sections 4 and 5), of the bytes that the run gave.
use Rattle.std.specs.Prelude.{ℕ, List, length}
use package.Rattle.calls.specs.Answer.{Answer}
use package.Rattle.calls.specs.Conversions.{Turned, turned}
use package.Rattle.journal.specs.Places.{journal_in}
use package.Rattle.journal.specs.Turns.{conversion, converted}
use package.Rattle.valuebytes.specs.Ends.{value_in, values_in}

-- what convert answers on the journal `j`, of a run with these steps whose value is the bytes `held`
abbrev pub converted_to : List ℕ → List ℕ → ℕ → ℕ → List ℕ → Answer Turned
converted_to j held steps fn anc =
    turned (length j) (record { value = value_in held; steps = steps }) (converted (journal_in j) (value_in held) (conversion fn steps (values_in anc)))
