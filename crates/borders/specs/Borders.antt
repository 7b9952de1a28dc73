-- Programs of as many entries as may be, and of one more (section 1: 256 types, 1,024 terms, 64 functions), computed. They stand apart from
-- the other edges (calls/specs/Borders) because computing with them takes longer than all of those. (1,024 terms are too many to compute
-- with: that edge is of reading alone, and proved by a law over how many there are, proofs/Counted.)
use Rattle.std.specs.Prelude.{ℕ, zero, suc, ◌+◌, ◌≡◌, List, [], ◌∷◌, ◌++◌}
use package.Rattle.calls.specs.Answer.{accepted, refused}
use package.Rattle.calls.specs.Fields.{layout}
use package.Rattle.calls.specs.Runs.{check_call}
use package.Rattle.calls.specs.Cases.{type_field, term_field, function_field, ample}
use package.Rattle.calls.specs.Borders.{copies}

-- where so many fields of four bytes stand, from a place on
unfoldable pub offsets : ℕ → ℕ → List ℕ
offsets zero at = []
offsets (suc n) at = at ∷ offsets n (at + 4)

-- so many functions that give unit, each with a body of its own
unfoldable pub functions_from : ℕ → ℕ → List ℕ
unfolding function_field
functions_from zero i = []
functions_from (suc n) i = function_field 0 (0 ∷ []) i ++ functions_from n (i + 1)

unfoldable pub unit_functions : ℕ → List ℕ
unfolding type_field term_field copies functions_from
unit_functions n = type_field 0 [] ++ copies n (term_field 1 []) ++ functions_from n 0

pub record EntryEdges : Type 0 where
  pub types : check_call (copies 256 (type_field 0 [])) ample ≡ accepted tt
  pub types_past : check_call (copies 257 (type_field 0 [])) ample ≡ refused 3 1024
  pub terms : layout (copies 1024 (term_field 1 [])) ≡ accepted (record { types = []; terms = offsets 1024 0; functions = [] })
  pub terms_past : check_call (copies 1025 (term_field 1 [])) ample ≡ refused 3 4096
  pub functions : check_call (unit_functions 64) ample ≡ accepted tt
  pub functions_past : check_call (unit_functions 65) ample ≡ refused 3 904
