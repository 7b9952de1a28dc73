-- The journals that open, convert and rollback leave (section 5), of the bytes that they are written from. Laws: proofs/Turns.
use Rattle.std.specs.Prelude.{ℕ, Bool, List, [], ◌∷◌, ◌++◌}
use package.Rattle.rules.specs.Val.{Val}
use package.Rattle.calls.specs.Values.{ancillae}
use package.Rattle.calls.specs.Journal.{Entry, Journal}
use package.Rattle.valuebytes.specs.Ends.{is_some}
use package.Rattle.journal.specs.Places.{newest_of}

-- Are the bytes values within the limits?
abbrev pub are_values : List ℕ → Bool
are_values xs = is_some (ancillae xs)

abbrev pub conversion : ℕ → ℕ → List Val → Entry
conversion function steps vs = record { function = function; steps = steps; ancillae = vs }

-- the journal that open leaves
abbrev pub opens : Val → Journal
opens v = record { held = v; entries = [] }

-- convert adds an entry
abbrev pub converted : Journal → Val → Entry → Journal
converted J v e = record { held = v; entries = J.entries ++ (e ∷ []) }

-- rollback strikes the newest
abbrev pub rolled_back : Journal → Val → Journal
rolled_back J v = record { held = v; entries = (newest_of J.entries).older }
