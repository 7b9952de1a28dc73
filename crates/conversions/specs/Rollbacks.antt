-- The parts of rollback, of a journal in which a conversion stands (sections 4 and 5). Laws: proofs/Rollbacks.
use Rattle.std.specs.Prelude.{ℕ, eqb}
use Rattle.std.proofs.Math.Option.{some}
use package.Rattle.rules.specs.Val.{Val}
use package.Rattle.rules.specs.Term.{Program}
use package.Rattle.calls.specs.Answer.{Answer, ◌>>=◌, require}
use package.Rattle.calls.specs.Runs.{Ran, admit, returns}
use package.Rattle.calls.specs.Journal.{Journal}
use package.Rattle.calls.specs.Conversions.{Turned, turned}
use package.Rattle.journal.specs.Places.{newest_of}
use package.Rattle.journal.specs.Turns.{rolled_back}

abbrev pub ran_to : Val → ℕ → Ran
ran_to v n = record { value = v; steps = n }

-- the newest conversion's call, run backward on the held value
unfoldable pub taken_back : Program → ℕ → Journal → Answer Ran
taken_back P fuel J = do
  a ← admit P (newest_of J.entries).newest.function (some (newest_of J.entries).newest.ancillae) (some J.held) λ h. h.result
  returns P fuel a

-- its steps (18), and whether the journal without it fits a buffer of `n` bytes (20)
unfoldable pub struck : ℕ → Journal → Ran → Answer Turned
struck n J r = do
  same ← require (eqb r.steps (newest_of J.entries).newest.steps) 18 0
  turned n r (rolled_back J r.value)
