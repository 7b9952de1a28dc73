-- What the tests of Named find of entries, for the contracts of the crates above. No claim speaks of it: claims say `WellNamed` (Formed).
-- That the tests find it: proofs/Entries, proofs/Trees.
use Rattle.std.specs.Prelude.{ℕ, ◌<◌, ◌≡◌, true, length, get_or}
use Rattle.std.proofs.Math.Option.{some}
use package.Rattle.rules.specs.Term.{nth}
use package.Rattle.calls.specs.Entries.{TermEntry, n_unit, FunctionEntry, Entries}
use package.Rattle.calls.specs.Named.{types_of_term, terms_of_term, functions_of_term, types_of_function, below, all_plain}
unfoldable pub use package.Rattle.calls.specs.Closed.{closed}
pub use package.Rattle.calls.specs.Closed.{Plain, Lower, LowerTerms}

-- what the tests ask of a term entry `t` numbered `k`
pub record TermGood (E : Entries) (k : ℕ) (t : TermEntry) : Type 0 where
  pub types_there : below (length E.types) (types_of_term t) ≡ true
  pub terms_lower : below k (terms_of_term t) ≡ true
  pub functions_there : below (length E.functions) (functions_of_term t) ≡ true
  pub types_plain : all_plain E.types (types_of_term t) ≡ true

-- and of a function entry
pub record FunctionGood (E : Entries) (h : FunctionEntry) : Type 0 where
  pub types_there : below (length E.types) (types_of_function h) ≡ true
  pub body_there : h.body < length E.terms
  pub types_plain : all_plain E.types (types_of_function h) ≡ true

-- entries that pass the tests
pub record Good (E : Entries) : Type 0 where
  pub types_lower : Lower E.types
  pub term : (k : ℕ) → k < length E.terms → TermGood E k (get_or E.terms k n_unit)
  pub function : (g : ℕ) (h : FunctionEntry) → nth E.functions g ≡ some h → FunctionGood E h
