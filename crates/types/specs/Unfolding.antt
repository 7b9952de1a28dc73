-- What a recursive type entry unfolds to. Laws: proofs/Unfold.
use Rattle.std.specs.Prelude.{ℕ, ◌≡◌, List, length, Option, Some, None}
use package.Rattle.rules.specs.Ty.{Ty, mu, unfold_ty}
use package.Rattle.calls.specs.Entries.{TypeEntry, y_unit, y_prod, y_sum, y_mu, y_var}
use package.Rattle.types.specs.declared.codes.Code.{Code}
use package.Rattle.types.specs.Figures.{number_at}
use package.Rattle.types.specs.Codes.{entry_code, under_code, tree_in, Known}

-- of entry `i`, if it is recursive: its part, with variable 0 standing for the entry itself, both by their numbers
unfoldable pub body_of : List ℕ → TypeEntry → ℕ → Option Code
body_of heap y_unit i = None
body_of heap (y_prod a b) i = None
body_of heap (y_sum a b) i = None
body_of heap (y_mu a) i = Some (under_code (number_at heap a) (number_at heap i))
body_of heap (y_var k) i = None

-- The entry `i` is recursive, and the code is of the type that it unfolds to.
pub record Unfolds (xs types heap : List ℕ) (top i : ℕ) (c : Code) : Type 0 where
  pub body : Ty
  pub whole : tree_in xs types heap (entry_code i) ≡ mu body
  pub tree : tree_in xs types heap c ≡ unfold_ty body
  pub known : Known (length types) top c
